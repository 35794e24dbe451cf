-- The definitions of the crate `theorems_round_trip`.
pub mod Promises
