-- The definitions of the crate `theorems_hosts`.
pub mod Promises
