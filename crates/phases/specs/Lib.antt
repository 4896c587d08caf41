-- What two engines say of their phases: what is looked for, what a pass leaves, and when a phase has settled.
pub mod Wanted
pub mod Pass
pub mod Round
pub mod Rounds
