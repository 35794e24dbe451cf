-- The laws of the crate `packet`.
pub mod Steps
pub mod Loop
pub mod Places
