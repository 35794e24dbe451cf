-- The laws of the crate `text_quick`.
pub mod Places
pub mod Found
pub mod DigitRows
pub mod MonthNames
pub mod DateTexts
pub mod ClockForms
pub mod ShiftForms
pub mod Fronts
pub mod Whole
