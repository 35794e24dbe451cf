-- The laws of the crate `text_tests`.
pub mod Bytes
pub mod Steps
pub mod Tests
