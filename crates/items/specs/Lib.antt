-- The definitions of the crate `items`, in reading order.
pub mod Combined
pub mod Items
pub mod Fronts
