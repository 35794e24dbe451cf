-- The definitions of the crate `theorems_packets`.
pub mod Writing
pub mod Packets
