-- What the promises of words are said with.
pub mod Turned
pub mod Within
