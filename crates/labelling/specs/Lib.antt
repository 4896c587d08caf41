-- What the promises of labelling are said with.
pub mod Scan
pub mod Round
