-- What the proofs of seen cite.
pub mod Growing
