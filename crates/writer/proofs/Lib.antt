-- The laws and theorems of the crate `writer`.
pub mod Digits
pub mod Decimal
pub mod Filling
pub mod Signs
pub mod Pasting
pub mod Texts
pub mod Writing
pub mod Theorems
pub mod Examples
