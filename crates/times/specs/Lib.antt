-- The definitions of the crate `times`.
pub mod Offset
pub mod Time
pub mod Fronts
