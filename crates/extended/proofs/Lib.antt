-- The laws and theorems of the crate `extended`.
pub mod Counting
pub mod Records
pub mod Parts
pub mod Moments
pub mod Adding
pub mod Theorems
pub mod Examples
