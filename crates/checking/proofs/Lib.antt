-- The laws that belong to no one function.
pub mod Checked
pub mod Fitting
pub mod Judging
pub mod Answering
pub mod Known
pub mod Demands
pub mod Same
