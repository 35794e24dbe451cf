-- The laws of the crate `month_names`.
pub mod Letters
