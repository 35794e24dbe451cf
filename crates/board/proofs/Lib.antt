-- The laws of the crate `board`, in reading order.
pub mod TotalOrder
pub mod Least
pub mod OrderTests
pub mod IdLoops
pub mod CallTests
pub mod Runs
pub mod Calls
pub mod After
