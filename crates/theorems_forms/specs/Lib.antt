-- The definitions of the crate `theorems_forms`.
pub mod Fractions
