-- The definitions of the crate `builder`.
pub mod Building
pub mod Weekdays
