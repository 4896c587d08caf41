-- The laws of bits and of sets.
pub mod Bits
pub mod LowestBit
pub mod Members
pub mod Sizes
pub mod Determined
