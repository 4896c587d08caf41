-- What the listing prints.
pub mod Listing
pub mod Told
