-- The theorems of the crate `theorems_packets`.
pub mod Bytes
pub mod Back
pub mod Theorems
pub mod Unpacked
pub mod Exact
pub mod Gives
pub mod Ranges
pub mod OneReader
pub mod Refusals
