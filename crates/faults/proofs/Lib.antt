-- What the proofs of faults share.
mod Quoting
