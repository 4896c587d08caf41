-- What the promises of faults are said with.
pub mod Telling
