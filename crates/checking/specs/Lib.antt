-- What the promise of the check of a plan from elsewhere is said with.
pub mod Checking
pub mod Fits
