-- The definitions of the crate `weeks`.
pub mod Weeks
