-- The proofs of the crate `host_calls`.
pub mod Numbered
