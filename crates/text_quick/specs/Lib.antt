-- The promises of the crate `text_quick`.
pub mod Rows
pub mod Days
pub mod Clocks
pub mod Shifts
pub mod Shapes
