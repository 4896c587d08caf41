-- What the promises of seen are said with.
pub mod Kept
