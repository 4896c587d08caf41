-- What the promises of the totals are said with.
pub mod Classes
pub mod Lists
pub mod Totals
pub mod Reported
pub mod Bundle
