-- The definitions of the crate `theorems_profile`.
pub mod Texts
