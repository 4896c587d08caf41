-- The laws of salvaging: what the salvaged job is, which pairs are listed, what the call fixes, and what the code's proofs cite.
pub mod Keeping
pub mod Mending
pub mod Bodies
pub mod Kept
pub mod Winning
pub mod AsPlanning
pub mod Listing
pub mod Again
pub mod Unique
pub mod Putting
pub mod Pairing
pub mod Writing
pub mod Marked
