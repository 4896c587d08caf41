-- What the promises of meant are said with.
pub mod Meant
pub mod Aimed
