-- The definitions of the crate `integers`.
pub mod Integers
