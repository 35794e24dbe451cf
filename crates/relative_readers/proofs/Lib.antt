-- The laws of the crate `relative_readers`.
pub mod Units
