-- What the promise of salvaging a job is said with.
pub mod Mended
pub mod Salvage
pub mod Passes
pub mod Figures
