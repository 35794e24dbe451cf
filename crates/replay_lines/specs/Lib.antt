-- The definitions of the crate `replay_lines`.
pub mod Lines
