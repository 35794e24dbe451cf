-- The laws of the crate `packet_fields`.
pub mod Rows
