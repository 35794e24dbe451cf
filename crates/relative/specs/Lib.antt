-- The definitions of the crate `relative`.
pub mod Relative
pub mod Fronts
