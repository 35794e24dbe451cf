-- Laws of the counted calendar, which the crate `calendar` has. Assumes nothing.
pub use Rattle.calendar.proofs.Counting.{and_left, and_right, each, month_zero, month_beyond, month_bounds, month_bound, day_bound}
