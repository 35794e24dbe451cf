-- The definitions of the crate `relative_readers`.
pub mod Unit
