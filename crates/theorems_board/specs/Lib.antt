-- The definitions of the crate `theorems_board`.
pub mod Promises
