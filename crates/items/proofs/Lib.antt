-- The laws and theorems of the crate `items`.
pub mod Chain
pub mod Numbers
pub mod Fronts
pub mod Theorems
pub mod Examples
pub mod Forms
pub mod DateTimes
pub mod DateItems
pub mod TimeItems
pub mod RelativeItems
pub mod Lists
pub mod TwoItems
pub mod Forward
