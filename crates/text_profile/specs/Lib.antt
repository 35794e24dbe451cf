-- The definitions of the crate `text_profile`, in reading order.
pub mod Forms
pub mod Profile
