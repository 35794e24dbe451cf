-- The laws of the crate `integers`.
pub mod Differences
pub mod Range
