pub mod Answer
pub mod Text
pub mod Primitive
pub mod Epoch
pub mod Ordinal
