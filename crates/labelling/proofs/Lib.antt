-- The laws of labelling that belong to no one function.
pub mod Demands
pub mod Ranging
pub mod Scanning
pub mod Choosing
pub mod Known
pub mod Rounding
