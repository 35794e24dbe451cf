-- The laws of the crate `dates`.
pub mod Months
pub mod Years
pub mod Parts
pub mod Examples
pub mod Forms
pub mod LiteralForms
pub mod Forward
