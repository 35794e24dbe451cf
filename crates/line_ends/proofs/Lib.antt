-- The laws of the crate `line_ends`.
pub mod Splitting
pub mod Keeping
