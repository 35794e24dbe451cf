-- The definitions of the crate `line_answers`.
pub mod Answers
