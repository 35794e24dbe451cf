-- The definitions of the crate `text_general`.
pub mod Reading
pub mod Rest
