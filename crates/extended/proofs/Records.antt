-- What it means that `new` accepts a record. Assumes nothing.
use Prim.Native.Nat.{ℕ, ◌<◌, ◌≤◌}
use mathlib.Core.Path.{◌≡◌}
use mathlib.Core.Bool.{Bool, true, ◌&&◌}
use native.Mathlib.Omega.{arith}
use lib.Dec.{leb}
use lib.IntN.{ℤ, pos, negsuc}
use lib.Signed.{le_z, mag}
use borrow.Author.Tests.{leb-true, le-leb}
use Rattle.answers.specs.Outcome.{accepted, check, ◌>>◌}
use Rattle.calendar.specs.Calendar.{month_days, Valid, ymd}
use Rattle.extended.specs.Extended.{date_of, time_of, test_date, test_time, test_offset, test, test_year, clock_seconds}
use Rattle.calendar.specs.declared.Civil.{Civil}
use Rattle.extended.specs.declared.TimeParts.{TimeParts}
use Rattle.extended.specs.declared.ExtendedDateTime.{ExtendedDateTime}
use Rattle.calendar.proofs.Counting.{and_left, and_right, month_bound, day_bound}
use Rattle.answers.proofs.Outcomes.{Proper, check_proper, then_proper, check_true, first_passed}

-- ---- the tests by name
abbrev year_ok : Civil ℕ → Bool
year_ok d = leb d.year 2147485547

abbrev month_ok : Civil ℕ → Bool
month_ok d = leb 1 d.month && leb d.month 12

abbrev day_ok : Civil ℕ → Bool
day_ok d = leb 1 d.day && leb d.day (month_days d.year d.month)

abbrev offset_ok : ℤ → Bool
offset_ok o = le_z (negsuc 86399) o && le_z o (pos 86400)

-- ---- no test has 0 for its refusal
pub date_proper : (d : Civil ℕ) → Proper (test_date d)
unfolding test_date
date_proper d =
    then_proper (check (year_ok d) 9) _ (check_proper (year_ok d) 8)
    (then_proper (check (month_ok d) 11) (check (day_ok d) 12) (check_proper (month_ok d) 10) (check_proper (day_ok d) 11))

pub time_proper : (t : TimeParts) → Proper (test_time t)
unfolding test_time
time_proper t = ordered (leb t.hour 23) (leb t.minute 59) (leb t.second 59) (leb t.nanosecond 999999999)
  where
    ordered : (a b c d : Bool) → Proper (check a 13 >> (check b 14 >> (check c 15 >> check d 16)))
    ordered a b c d =
        then_proper (check a 13) _ (check_proper a 12)
        (then_proper (check b 14) _ (check_proper b 13) (then_proper (check c 15) (check d 16) (check_proper c 14) (check_proper d 15)))

pub offset_proper : (o : ℤ) → Proper (test_offset o)
unfolding test_offset
offset_proper o = check_proper (offset_ok o) 16

pub year_proper : (y : ℕ) → Proper (test_year y)
unfolding test_year
year_proper y =
    then_proper (check (leb y 4294967295) 10) (check (leb y 2147485547) 9) (check_proper (leb y 4294967295) 9) (check_proper (leb y 2147485547) 8)

pub record_proper : (r : ExtendedDateTime) → Proper (test r)
unfolding test
record_proper r =
    then_proper (test_date (date_of r)) _ (date_proper (date_of r))
    (then_proper (test_time (time_of r)) (test_offset r.offset_seconds) (time_proper (time_of r)) (offset_proper r.offset_seconds))

-- ---- the facts behind the tests
pub record Accepted (r : ExtendedDateTime) : Type 0 where
  pub date : Valid (ymd r.year r.month r.day)
  pub year_high : r.year ≤ 2147485547
  pub hour_high : r.hour ≤ 23
  pub minute_high : r.minute ≤ 59
  pub second_high : r.second ≤ 59
  pub nanosecond_high : r.nanosecond ≤ 999999999
  pub offset_in : test_offset r.offset_seconds ≡ accepted tt

both : (a b c d : ℕ) → (leb a b && leb c d) ≡ true → (a ≤ b) × (c ≤ d)
both a b c d e = (leb-true a b (and_left (leb a b) (leb c d) e), leb-true c d (and_right (leb a b) (leb c d) e))

pub date_facts : (d : Civil ℕ) → test_date d ≡ accepted tt → Valid (ymd d.year d.month d.day) × (d.year ≤ 2147485547)
unfolding test_date
date_facts d e =
    let a = first_passed (check (year_ok d) 9) (check (month_ok d) 11 >> check (day_ok d) 12) e in
    let b = first_passed (check (month_ok d) 11) (check (day_ok d) 12) a.1 in
    let m = both 1 d.month d.month 12 (check_true (month_ok d) 11 b.0) in
    let k = both 1 d.day d.day (month_days d.year d.month) (check_true (day_ok d) 12 b.1) in
    (record { month_low = m.0; month_high = m.1; day_low = k.0; day_high = k.1 }, leb-true d.year 2147485547 (check_true (year_ok d) 9 a.0))

time_facts : (t : TimeParts) → test_time t ≡ accepted tt → (t.hour ≤ 23) × (t.minute ≤ 59) × (t.second ≤ 59) × (t.nanosecond ≤ 999999999)
unfolding test_time
time_facts t e =
    let h = leb t.hour 23 in
    let m = leb t.minute 59 in
    let s = leb t.second 59 in
    let n = leb t.nanosecond 999999999 in
    let a = first_passed (check h 13) (check m 14 >> (check s 15 >> check n 16)) e in
    let b = first_passed (check m 14) (check s 15 >> check n 16) a.1 in
    let c = first_passed (check s 15) (check n 16) b.1 in
    (leb-true _ _ (check_true h 13 a.0), leb-true _ _ (check_true m 14 b.0), leb-true _ _ (check_true s 15 c.0), leb-true _ _ (check_true n 16 c.1))

pub facts : (r : ExtendedDateTime) → test r ≡ accepted tt → Accepted r
unfolding test
facts r e =
    let a = first_passed (test_date (date_of r)) (test_time (time_of r) >> test_offset r.offset_seconds) e in
    let b = first_passed (test_time (time_of r)) (test_offset r.offset_seconds) a.1 in
    let d = date_facts (date_of r) a.0 in
    let t = time_facts (time_of r) b.0 in
    record {
      date = d.0;
      year_high = d.1;
      hour_high = t.0;
      minute_high = t.1;
      second_high = t.2;
      nanosecond_high = t.3;
      offset_in = b.1;
    }

-- and back
pub date_test : (d : Civil ℕ) → Valid (ymd d.year d.month d.day) → d.year ≤ 2147485547 → test_date d ≡ accepted tt
unfolding test_date
date_test d v h =
    simp (le-leb d.year 2147485547 h, le-leb 1 d.month v.month_low, le-leb d.month 12 v.month_high, le-leb 1 d.day v.day_low, le-leb d.day (month_days d.year d.month) v.day_high)

time_test : (t : TimeParts) → t.hour ≤ 23 → t.minute ≤ 59 → t.second ≤ 59 → t.nanosecond ≤ 999999999 → test_time t ≡ accepted tt
unfolding test_time
time_test t h m s n =
    simp (le-leb t.hour 23 h, le-leb t.minute 59 m, le-leb t.second 59 s, le-leb t.nanosecond 999999999 n)

pub tested : (r : ExtendedDateTime) → Accepted r → test r ≡ accepted tt
unfolding test
tested r a =
    simp (date_test (date_of r) a.date a.year_high, time_test (time_of r) a.hour_high a.minute_high a.second_high a.nanosecond_high, a.offset_in)

pub year_fact : (y : ℕ) → test_year y ≡ accepted tt → y ≤ 2147485547
unfolding test_year
year_fact y e =
    let a = first_passed (check (leb y 4294967295) 10) (check (leb y 2147485547) 9) e in
    leb-true y 2147485547 (check_true (leb y 2147485547) 9 a.1)

pub year_test : (y : ℕ) → y ≤ 2147485547 → test_year y ≡ accepted tt
unfolding test_year
year_test y h = simp (le-leb y 4294967295 (omega arith), le-leb y 2147485547 h)

-- ---- sizes
-- an accepted record's clock is below 2^57
pub clock_bound : (r : ExtendedDateTime) → Accepted r → clock_seconds r < 144115188075855872
unfolding clock_seconds
clock_bound r a =
    omega (
      arith,
      day_bound r.year r.month r.day,
      a.year_high,
      a.hour_high,
      a.minute_high,
      a.second_high,
      a.date.month_high,
      month_bound r.year r.month,
      a.date.day_high,
    )

-- an accepted offset is at most 86400 either way
pub offset_near : (o : ℤ) → test_offset o ≡ accepted tt → mag o ≤ 86400
unfolding test_offset
offset_near (pos n) e = let t = check_true (leb n 86400) 17 e in leb-true n 86400 t
offset_near (negsuc n) e = let t = check_true (leb n 86399 && true) 17 e in omega (arith, leb-true n 86399 (and_left (leb n 86399) true t))
