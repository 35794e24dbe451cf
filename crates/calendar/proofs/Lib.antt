-- The laws of the crate `calendar`.
pub mod Counting
pub mod YearTable
pub mod Dates
