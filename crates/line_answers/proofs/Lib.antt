-- The laws of the crate `line_answers`.
pub mod Widths
pub mod Putting
pub mod Part
