-- The definitions of the crate `host_answers`.
pub mod Hosts
