-- The laws that belong to no one function.
pub mod Lists
pub mod Falling
pub mod Reporting
pub mod Planning
pub mod Bundles
pub mod Examples
