-- The definitions of the crate `extended`, in reading order.
pub mod Calendar
pub mod Extended
