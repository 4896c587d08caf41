-- What the promises of the reader are said with.
pub mod Handed
