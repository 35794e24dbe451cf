-- The definitions of the crate `board`, in reading order.
pub mod Order
pub mod Ids
pub mod Board
