-- The game: what winning, pending, losing, their numbers and a right plan are.
pub mod Below
pub mod Game
pub mod Allowed
pub mod Demands
pub mod Visits
pub mod Behaviour
