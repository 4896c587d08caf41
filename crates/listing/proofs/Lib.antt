-- The laws that belong to no one function.
pub mod Telling
pub mod Listings
pub mod Lengths
pub mod Printing
pub mod Plate
