-- The theorems of the crate `theorems_board`, in reading order.
pub mod Theorems
pub mod Examples
