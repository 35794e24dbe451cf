-- The theorems of the crate `theorems_profile`, in reading order.
pub mod Theorems
pub mod Examples
pub mod Refusals
pub mod Dates
pub mod Texts
pub mod Digits
