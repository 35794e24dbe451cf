-- The definitions of the crate `line_ends`.
pub mod Put
pub mod Lines
