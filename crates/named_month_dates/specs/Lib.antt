-- The definitions of the crate `named_month_dates`.
pub mod Days
