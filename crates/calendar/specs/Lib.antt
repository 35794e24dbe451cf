-- The definitions of the crate `calendar`.
pub mod Calendar
