-- The definitions of the crate `packet_fields`.
pub mod Fields
