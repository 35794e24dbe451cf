-- The laws of the crate `answers`.
pub mod Outcomes
