-- What the functions of `extended`, `moments` and `sums` answer: docs/SCOPE.md, 'Records', 'Moments' and 'Sums'.
use Rattle.answers.specs.Numbers as refusal
use Rattle.answers.specs.Limits.{last_year}
use Rattle.std.specs.Prelude.{ℕ, ◌≡◌, ◌+◌, ◌-◌, ◌*◌, ◌/◌, ◌%◌, min, ◌&&◌, cond, ltb, leb, ℤ, pos, negsuc, ◌+ℤ◌, ◌-ℤ◌, Option, Some, None}
use Rattle.std.specs.Int.Signed.{le_z}
use Rattle.integers.specs.Integers.{sum, product, natural_of}
use Rattle.answers.specs.Outcome.{Outcome, accepted, refused, check, ◌>>=◌, ◌>>◌}
use Rattle.calendar.specs.Calendar.{month_days, days_of_months, day_number, civil}
use Rattle.extended.specs.Calendar.{monday_weekday, sunday_weekday}
use Rattle.calendar.specs.declared.Civil.{Civil}
use Rattle.extended.specs.declared.TimeParts.{TimeParts}
use Rattle.extended.specs.declared.ExtendedDateTime.{ExtendedDateTime}

-- ---- whole numbers that may be too large, or below 0
-- an overflow that the Rust names is 18
abbrev pub checked : Option ℤ → Outcome ℤ
checked (Some z) = accepted z
checked None = refused refusal.sum

-- a year below 0 is 10
abbrev pub from_zero : Option ℕ → Outcome ℕ
from_zero (Some n) = accepted n
from_zero None = refused refusal.under

-- ---- records
-- the one place where a record is put together
unfoldable pub make : Civil ℕ → TimeParts → ℤ → ExtendedDateTime
make d t o =
    record { year = d.year; month = d.month; day = d.day; hour = t.hour; minute = t.minute; second = t.second; nanosecond = t.nanosecond; offset_seconds = o }

abbrev pub date : ℕ → ℕ → ℕ → Civil ℕ
date y m d = record { year = y; month = m; day = d }

abbrev pub time : ℕ → ℕ → ℕ → ℕ → TimeParts
time h m s n = record { hour = h; minute = m; second = s; nanosecond = n }

abbrev pub date_of : ExtendedDateTime → Civil ℕ
date_of r = date r.year r.month r.day

abbrev pub time_of : ExtendedDateTime → TimeParts
time_of r = time r.hour r.minute r.second r.nanosecond

-- the blank record: eight zeros
abbrev pub blank_record : ExtendedDateTime
blank_record = make (date 0 0 0) (time 0 0 0 0) (pos 0)

-- the tests of `new`, in their order
unfoldable pub test_date : Civil ℕ → Outcome (Unit {0})
test_date d = do
  check (leb d.year last_year) refusal.over
  check (leb 1 d.month && leb d.month 12) refusal.month
  check (leb 1 d.day && leb d.day (month_days d.year d.month)) refusal.day

unfoldable pub test_time : TimeParts → Outcome (Unit {0})
test_time t = do
  check (leb t.hour 23) refusal.hour
  check (leb t.minute 59) refusal.minute
  check (leb t.second 59) refusal.second
  check (leb t.nanosecond 999999999) refusal.nanosecond

-- an offset is from -86400 to 86400 seconds; -86400 is written -1 - 86399
unfoldable pub test_offset : ℤ → Outcome (Unit {0})
test_offset o = check (le_z (negsuc 86399) o && le_z o (pos 86400)) refusal.offset

unfoldable pub test : ExtendedDateTime → Outcome (Unit {0})
test r = do
  test_date (date_of r)
  test_time (time_of r)
  test_offset r.offset_seconds

-- the record itself, where `new` refuses none of its numbers
unfoldable pub accept : ExtendedDateTime → Outcome ExtendedDateTime
accept r = do
  test r
  accepted r

-- ---- moments
-- seconds from 0000-01-01 00:00:00 to the record's own clock
unfoldable pub clock_seconds : ExtendedDateTime → ℕ
clock_seconds r = day_number r.year r.month r.day * 86400 + r.hour * 3600 + r.minute * 60 + r.second

-- SCOPE, 'Moments': the seconds from 1970-01-01 00:00:00 at offset 0, in whole numbers without bound
unfoldable pub moment : ExtendedDateTime → ℤ
moment r = pos (clock_seconds r) -ℤ r.offset_seconds -ℤ pos 62167219200

-- the accepted record of a moment, a nanosecond and an offset; there is at most one (proofs/Theorems.antt, `from_unix_seconds_exact`)
pub record Recorded (u : ℤ) (n : ℕ) (o : ℤ) (r : ExtendedDateTime) : Type 0 where
  pub is_accepted : test r ≡ accepted tt
  pub has_moment : moment r ≡ u
  pub has_nanosecond : r.nanosecond ≡ n
  pub has_offset : r.offset_seconds ≡ o

unfoldable pub unix_seconds : ExtendedDateTime → Outcome ℤ
unix_seconds r = do
  test r
  accepted (moment r)

-- 9 for a year above the last, but 10 for one that no u32 can represent
unfoldable pub test_year : ℕ → Outcome (Unit {0})
test_year y = do
  check (leb y 4294967295) refusal.under
  check (leb y last_year) refusal.over

-- the record whose own clock is s seconds after 0000-01-01 00:00:00
unfoldable pub clock_record : ℕ → ℕ → ℤ → ExtendedDateTime
clock_record s n o =
    let t = civil (s / 86400) in
    make (date t.year t.month t.day) (time (s % 86400 / 3600) (s % 3600 / 60) (s % 60) n) o

unfoldable pub from_clock : ℕ → ℕ → ℤ → Outcome ExtendedDateTime
from_clock s n o = do
  test_year (civil (s / 86400)).year
  accepted (clock_record s n o)

-- the nanosecond is tested, then the offset, then the sum of moment and offset, then the year
unfoldable pub from_unix_seconds : ℤ → ℕ → ℤ → Outcome ExtendedDateTime
from_unix_seconds u n o = do
  check (leb n 999999999) refusal.nanosecond
  test_offset o
  local ← checked (sum u o)
  clock ← from_zero (natural_of (local +ℤ pos 62167219200))
  from_clock clock n o

-- ---- records with another date, time or offset
unfoldable pub with_date : ExtendedDateTime → Civil ℕ → Outcome ExtendedDateTime
with_date r d = do
  test r
  accept (make d (time_of r) r.offset_seconds)

unfoldable pub with_time : ExtendedDateTime → TimeParts → Outcome ExtendedDateTime
with_time r t = do
  test r
  accept (make (date_of r) t r.offset_seconds)

unfoldable pub with_offset : ExtendedDateTime → ℤ → Outcome ExtendedDateTime
with_offset r o = do
  test r
  accept (make (date_of r) (time_of r) o)

-- ---- sums
-- n is the sum of the nanoseconds, from which at most one second is carried
unfoldable pub carried : ℤ → ℕ → ℤ → Outcome ExtendedDateTime
carried s n o = cond (ltb n 1000000000) (from_unix_seconds s n o) (do
  next ← checked (sum s (pos 1))
  from_unix_seconds next (n - 1000000000) o)

-- first the sum of moment and seconds, then that of the nanoseconds, which must be below 4294967296
unfoldable pub add_seconds : ExtendedDateTime → ℤ → ℕ → Outcome ExtendedDateTime
add_seconds r d k = do
  test r
  s ← checked (sum (moment r) d)
  check (ltb (r.nanosecond + k) 4294967296) refusal.sum
  carried s (r.nanosecond + k) r.offset_seconds

-- n units of so many seconds each
unfoldable pub add_units : ℕ → ExtendedDateTime → ℤ → Outcome ExtendedDateTime
add_units worth r n = do
  test r
  d ← checked (product n (pos worth))
  add_seconds r d 0

unfoldable pub add_days : ExtendedDateTime → ℤ → Outcome ExtendedDateTime
add_days r n = add_units 86400 r n

unfoldable pub add_hours : ExtendedDateTime → ℤ → Outcome ExtendedDateTime
add_hours r n = add_units 3600 r n

unfoldable pub add_minutes : ExtendedDateTime → ℤ → Outcome ExtendedDateTime
add_minutes r n = add_units 60 r n

-- the day is clamped to the last of its new month, and the days clamped off are added
unfoldable pub clamp : ExtendedDateTime → ℕ → ℕ → Outcome ExtendedDateTime
clamp r y m = do
  test_year y
  next ← with_date r (date y m (min r.day (month_days y m)))
  add_days next (pos (r.day - month_days y m))

unfoldable pub add_years : ExtendedDateTime → ℤ → Outcome ExtendedDateTime
add_years r n = do
  test r
  sum ← checked (sum (pos r.year) n)
  y ← from_zero (natural_of sum)
  clamp r y r.month

unfoldable pub add_months : ExtendedDateTime → ℤ → Outcome ExtendedDateTime
add_months r n = do
  test r
  sum ← checked (sum (pos (r.year * 12 + (r.month - 1))) n)
  total ← from_zero (natural_of sum)
  clamp r (total / 12) (total % 12 + 1)

-- ---- days
unfoldable pub day_of_year : ExtendedDateTime → Outcome ℕ
day_of_year r = do
  test r
  accepted (days_of_months r.year (r.month - 1) + r.day)

unfoldable pub weekday_sunday0 : ExtendedDateTime → Outcome ℕ
weekday_sunday0 r = do
  test r
  accepted (sunday_weekday (day_number r.year r.month r.day))

unfoldable pub weekday_monday0 : ExtendedDateTime → Outcome ℕ
weekday_monday0 r = do
  test r
  accepted (monday_weekday (day_number r.year r.month r.day))
