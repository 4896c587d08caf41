-- What the promises of the calls for C are said with, beside the meaning.
pub mod Figures
pub mod Checks
pub mod Playing
pub mod Behaving
