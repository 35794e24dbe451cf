-- The definitions of the crate `host_calls`.
pub mod Calls
pub mod Given
