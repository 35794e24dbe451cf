-- The definitions of the crate `answers`, in reading order.
pub mod Numbers
pub mod Limits
pub mod Outcome
pub mod Placed
pub mod Refusals
