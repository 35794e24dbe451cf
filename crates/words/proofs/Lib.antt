-- The laws of the crate `words`.
pub mod Letters
