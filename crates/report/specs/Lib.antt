-- What the report prints, and what its functions promise one another.
pub mod Report
pub mod Read
