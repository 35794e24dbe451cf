-- The laws of the crate `weeks`.
pub mod Thursdays
pub mod Search
pub mod Theorems
pub mod Examples
