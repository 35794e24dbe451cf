-- The definitions of the crate `line_chunks`.
pub mod Lines
pub mod Turns
