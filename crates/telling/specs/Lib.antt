-- What the promises of telling are said with.
pub mod Lines
pub mod Ranges
pub mod Spoilt
pub mod Reason
pub mod Told
