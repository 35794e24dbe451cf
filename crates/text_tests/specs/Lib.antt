-- The definitions of the crate `text_tests`.
pub mod Tests
