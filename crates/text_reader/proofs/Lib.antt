-- The laws of the crate `text_reader`.
pub mod Steps
