-- What the proofs of telling cite.
pub mod Worst
pub mod Seeking
pub mod Reasons
