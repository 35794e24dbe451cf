-- The definitions of the crate `dates`, in reading order.
pub mod Year
pub mod Date
