-- The definitions of the crate `rules`.
pub mod Rules
