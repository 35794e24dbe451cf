-- The counted calendar of the crate `calendar`, and the days of the week from that of its first day.
use Rattle.std.specs.Prelude.{ℕ}
pub use Rattle.calendar.specs.Calendar.{month_table, Valid, ymd}
unfoldable pub use Rattle.calendar.specs.Calendar.{leap, year_days, days_before_year, month_days, days_of_months, day_number, next_day, civil, next_weekday, weekday}

-- 0000-01-01 was a Saturday: 5 counted from Monday, 6 from Sunday
unfoldable pub monday_weekday : ℕ → ℕ
monday_weekday n = weekday 5 n

unfoldable pub sunday_weekday : ℕ → ℕ
sunday_weekday n = weekday 6 n
