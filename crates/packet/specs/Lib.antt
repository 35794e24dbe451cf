-- The definitions of the crate `packet`.
pub mod Packet
