-- What the promises of reading and asking a job are said with.
pub mod Joined
pub mod Forms
pub mod Layout
pub mod Reading
pub mod Found
