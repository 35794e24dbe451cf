-- The definitions of the crate `line_usage`.
pub mod Endings
