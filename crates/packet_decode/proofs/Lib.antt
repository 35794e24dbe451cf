-- The laws of the crate `packet_decode`.
pub mod Flags
