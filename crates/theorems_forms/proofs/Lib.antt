-- The laws of the crate `theorems_forms`: which items lose a digit of a fraction, that each item is at least a byte, and examples of
-- each written form.
pub mod Examples
pub mod Premises
pub mod Undropped
pub mod WholeReaders
pub mod Fractions
pub mod TimesFractions
pub mod RelativeFractions
pub mod Losses
pub mod DroppedItems
pub mod LossExamples
pub mod Strict
