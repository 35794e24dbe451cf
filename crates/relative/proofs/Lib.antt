pub mod Chain
pub mod Spaced
pub mod Fronts
pub mod Signed
pub mod Units
pub mod Examples
pub mod Forms
pub mod Forward
