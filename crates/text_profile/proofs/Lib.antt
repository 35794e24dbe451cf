-- The laws of the crate `text_profile`.
pub mod Forms
pub mod Places
