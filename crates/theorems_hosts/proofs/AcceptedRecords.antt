-- Which numbers the calendar refuses an accepted record with: 12 for a day that its month does not have, 9, 10 and 18 for sums, and 16 for
-- nanoseconds that are a second or more after the carry. Assumes nothing.
use native.Mathlib.Omega.{arith}
use Prim.Native.Nat.{ℕ, ◌+◌, ◌-◌, ◌*◌, ◌/◌, ◌%◌, ◌<◌, ◌≤◌, min}
use mathlib.Core.Path.{◌≡◌, refl}
use mathlib.Core.Bool.{Bool, true, false, cond}
use mathlib.Core.List.{List, [], ◌∷◌}
use lib.Dec.{ltb, leb}
use lib.IntN.{ℤ, pos}
use borrow.Author.Tests.{le-leb, leb-true, ltb-true}
use Rattle.answers.specs.Numbers as refusal
use Rattle.answers.specs.Outcome.{Outcome, accepted, refused, ◌>>=◌, ◌>>◌}
use Rattle.integers.specs.Integers.{sum, product, natural_of}
use Rattle.calendar.specs.Calendar.{month_days}
use Rattle.calendar.proofs.Counting.{month_bounds}
use Rattle.extended.specs.Extended.{checked, make, date, time, date_of, time_of, test_date, test_offset, test, test_year, accept, moment, from_clock, from_unix_seconds, with_date, with_time, with_offset, carried, add_seconds, add_units, add_days, add_hours, add_minutes, clamp, add_years, add_months}
use Rattle.extended.specs.declared.ExtendedDateTime.{ExtendedDateTime}
use Rattle.extended.proofs.Records.{facts, tested, year_fact, Accepted}
use Rattle.relative.specs.declared.Relative.{Relative}
use Rattle.relative.specs.declared.Relative.TheVariants as relative
use Rattle.builder.specs.Building.{add_relative}
use Rattle.packet_fields.specs.Fields.{of_relative}
use Rattle.host_calls.specs.Given.{has}
use Rattle.theorems_round_trip.proofs.Accepted.{Good, Any, unix_good}
use Rattle.host_calls.proofs.Numbered.{Numbered, value, by_number, covers, has_covers, check_numbered}
use Rattle.theorems_round_trip.proofs.Refusals.{checked_numbered, from_zero_numbered, steps}

-- ---- steps from one accepted record to the next

-- an accepted record, or a refusal with a number of the list
pub data Yields (g : List ℕ) : Outcome ExtendedDateTime → Type 0 where
  a_record : (r : ExtendedDateTime) → test r ≡ accepted tt → Yields g (accepted r)
  a_number : (k : ℕ) → has g k ≡ true → Yields g (refused k)

module _ {g : List ℕ} where
  pub numbered : {o : Outcome ExtendedDateTime} → Yields g o → Numbered g o
  numbered (a_record r t) = value r
  numbered (a_number k e) = by_number k e

  known : {o : Outcome ExtendedDateTime} → Numbered g o → Good Any o → Yields g o
  known (value r) h = a_record r (h r refl).0
  known (by_number k e) h = a_number k e

  pub yields_wider : {o : Outcome ExtendedDateTime} (h : List ℕ) → covers g h ≡ true → Yields g o → Yields h o
  yields_wider h c (a_record r t) = a_record r t
  yields_wider h c (a_number k e) = a_number k (has_covers g h k c e)

  pub onto : {p : Outcome ExtendedDateTime} {f : ExtendedDateTime → Outcome ExtendedDateTime} → Yields g p → ((r : ExtendedDateTime) → test r ≡ accepted tt → Yields g (f r)) → Yields g (p >>= f)
  onto (a_record r t) f = f r t
  onto (a_number k e) f = a_number k e

  pub first : {A : Type 0} {p : Outcome A} {f : A → Outcome ExtendedDateTime} → Numbered g p → ((a : A) → Yields g (f a)) → Yields g (p >>= f)
  first (value a) f = f a
  first (by_number k e) f = a_number k e

  after : {p : Outcome (Unit {0})} {q : Outcome ExtendedDateTime} → Numbered g p → Yields g q → Yields g (p >> q)
  after (value u) h = h
  after (by_number k e) h = a_number k e

  pub either : (b : Bool) {p q : Outcome ExtendedDateTime} → Yields g p → Yields g q → Yields g (cond b p q)
  either true h k = h
  either false h k = k

  pub accept_yields : (s : ExtendedDateTime) → test s ≡ accepted tt → Yields g (accept s)
  unfolding accept
  accept_yields s t = rw t (a_record s t)

  renewed : (s : ExtendedDateTime) → Accepted s → Yields g (accept s)
  renewed s a = accept_yields s (tested s a)

-- ---- seconds

-- the numbers of sums: years beyond either end, and numbers beyond an i64
abbrev pub moved_numbers : List ℕ
moved_numbers = refusal.over ∷ refusal.under ∷ refusal.sum ∷ []

year_numbered : (y : ℕ) → Numbered moved_numbers (test_year y)
unfolding test_year
year_numbered y = search steps

-- with the nanosecond, which is tested if it is any number
abbrev pub shifted_numbers : List ℕ
shifted_numbers = refusal.nanosecond ∷ moved_numbers

module _ (o : ℤ) (t : test_offset o ≡ accepted tt) where
  unix_any_numbered : (u : ℤ) (n : ℕ) → Numbered shifted_numbers (from_unix_seconds u n o)
  unfolding from_unix_seconds from_clock test_year
  unix_any_numbered u n = rw t (search steps)

  unix_below_numbered : (u : ℤ) (n : ℕ) → n ≤ 999999999 → Numbered moved_numbers (from_unix_seconds u n o)
  unfolding from_unix_seconds from_clock test_year
  unix_below_numbered u n h = rw (le-leb n 999999999 h, t) (search steps)

  unix_any : (u : ℤ) (n : ℕ) → Yields shifted_numbers (from_unix_seconds u n o)
  unix_any u n = known (unix_any_numbered u n) (unix_good Any u n o tt)

  unix_below : (u : ℤ) (n : ℕ) → n ≤ 999999999 → Yields moved_numbers (from_unix_seconds u n o)
  unix_below u n h = known (unix_below_numbered u n h) (unix_good Any u n o tt)

  carried_any : (s : ℤ) (n : ℕ) → Yields shifted_numbers (carried s n o)
  unfolding carried
  carried_any s n = either (ltb n 1000000000) (unix_any s n) (first (checked_numbered (sum s (pos 1)) refl) (λ z. unix_any z (n - 1000000000)))

  carried_below : (s : ℤ) (n : ℕ) → n < 2000000000 → Yields moved_numbers (carried s n o)
  unfolding carried
  carried_below s n h = by (ltb n 1000000000) refl
    where
      by : (b : Bool) → ltb n 1000000000 ≡ b → Yields moved_numbers (cond b (from_unix_seconds s n o) (checked (sum s (pos 1)) >>= (λ next. from_unix_seconds next (n - 1000000000) o)))
      by true e = unix_below s n (omega (arith, ltb-true n 1000000000 e))
      by false e = first (checked_numbered (sum s (pos 1)) refl) (λ z. unix_below z (n - 1000000000) (omega arith))

module _ (r : ExtendedDateTime) (t : test r ≡ accepted tt) where
  -- The nanoseconds are any: what is left of their sum after one second is carried is tested (16).
  seconds_any : (d : ℤ) (k : ℕ) → Yields shifted_numbers (add_seconds r d k)
  unfolding add_seconds
  seconds_any d k =
      let a = facts r t in
      rw t (first (checked_numbered (sum (moment r) d) refl) (λ s. after (check_numbered (ltb (r.nanosecond + k) 4294967296) 18 refl) (carried_any r.offset_seconds a.offset_in s (r.nanosecond + k))))

  -- Nanoseconds below a second: their sum is below two seconds, and one second is carried.
  seconds_below : (d : ℤ) (k : ℕ) → k < 1000000000 → Yields moved_numbers (add_seconds r d k)
  unfolding add_seconds
  seconds_below d k h =
      let a = facts r t in
      let l = a.nanosecond_high in
      rw t (first (checked_numbered (sum (moment r) d) refl) (λ s. after (check_numbered (ltb (r.nanosecond + k) 4294967296) 18 refl) (carried_below r.offset_seconds a.offset_in s (r.nanosecond + k) (omega arith))))

  pub units_yield : (worth : ℕ) (n : ℤ) → Yields moved_numbers (add_units worth r n)
  unfolding add_units
  units_yield worth n = rw t (first (checked_numbered (product n (pos worth)) refl) (λ d. seconds_below d 0 (omega arith)))

-- ---- dates, clocks and offsets

-- a day that its month does not have
refused_day : (s : ExtendedDateTime) → s.year ≤ 2147485547 → 1 ≤ s.month → s.month ≤ 12 → 1 ≤ s.day → leb s.day (month_days s.year s.month) ≡ false → accept s ≡ refused 12
unfolding accept test test_date
refused_day s h i j k e = rw (le-leb s.year 2147485547 h, le-leb 1 s.month i, le-leb s.month 12 j, le-leb 1 s.day k, e) refl

module _ (r : ExtendedDateTime) (t : test r ≡ accepted tt) where
  -- a date that the calendar has
  pub date_yields : (g : List ℕ) (y m d : ℕ) → y ≤ 2147485547 → 1 ≤ m → m ≤ 12 → 1 ≤ d → d ≤ month_days y m → Yields g (with_date r (date y m d))
  unfolding with_date make
  date_yields g y m d h i j k l =
      let a = facts r t in
      rw t (renewed (make (date y m d) (time_of r) r.offset_seconds)
      (record { date = record { month_low = i; month_high = j; day_low = k; day_high = l }; year_high = h; hour_high = a.hour_high; minute_high = a.minute_high; second_high = a.second_high; nanosecond_high = a.nanosecond_high; offset_in = a.offset_in }))

  no_such_day : (y m d : ℕ) → y ≤ 2147485547 → 1 ≤ m → m ≤ 12 → 1 ≤ d → leb d (month_days y m) ≡ false → with_date r (date y m d) ≡ refused 12
  unfolding with_date make
  no_such_day y m d h i j k e = rw t (refused_day (make (date y m d) (time_of r) r.offset_seconds) h i j k e)

  -- a date whose day its month may not have
  pub day_yields : (y m d : ℕ) → y ≤ 2147485547 → 1 ≤ m → m ≤ 12 → 1 ≤ d → Yields (refusal.day ∷ []) (with_date r (date y m d))
  day_yields y m d h i j k = by (leb d (month_days y m)) refl
    where
      by : (b : Bool) → leb d (month_days y m) ≡ b → Yields (refusal.day ∷ []) (with_date r (date y m d))
      by true e = date_yields (refusal.day ∷ []) y m d h i j k (leb-true d (month_days y m) e)
      by false e = rw (no_such_day y m d h i j k e) (a_number 12 refl)

  pub time_yields : (g : List ℕ) (h m s n : ℕ) → h ≤ 23 → m ≤ 59 → s ≤ 59 → n ≤ 999999999 → Yields g (with_time r (time h m s n))
  unfolding with_time make
  time_yields g h m s n i j k l =
      let a = facts r t in
      rw t (renewed (make (date_of r) (time h m s n) r.offset_seconds)
      (record { date = a.date; year_high = a.year_high; hour_high = i; minute_high = j; second_high = k; nanosecond_high = l; offset_in = a.offset_in }))

  pub offset_yields : (g : List ℕ) (o : ℤ) → test_offset o ≡ accepted tt → Yields g (with_offset r o)
  unfolding with_offset make
  offset_yields g o h =
      let a = facts r t in
      rw t (renewed (make (date_of r) (time_of r) o)
      (record { date = a.date; year_high = a.year_high; hour_high = a.hour_high; minute_high = a.minute_high; second_high = a.second_high; nanosecond_high = a.nanosecond_high; offset_in = h }))

-- ---- years, months and relative items

module _ (r : ExtendedDateTime) (t : test r ≡ accepted tt) where
  clamp_yields : (y m : ℕ) → 1 ≤ m → m ≤ 12 → Yields moved_numbers (clamp r y m)
  unfolding clamp add_days
  clamp_yields y m i j = by (test_year y) refl (year_numbered y)
    where
      lost : (next : ExtendedDateTime) → test next ≡ accepted tt → Yields moved_numbers (add_days next (pos (r.day - month_days y m)))
      lost next k = units_yield next k 86400 (pos (r.day - month_days y m))

      by : (o : Outcome (Unit {0})) → test_year y ≡ o → Numbered moved_numbers o → Yields moved_numbers (o >> (with_date r (date y m (min r.day (month_days y m))) >>= (λ next. add_days next (pos (r.day - month_days y m)))))
      by (accepted u) e n =
          let v = (facts r t).date in
          let l = month_bounds y m i j in
          onto (date_yields r t moved_numbers y m (min r.day (month_days y m)) (year_fact y e) i j (omega (arith, v.day_low, l.0)) (omega arith)) lost
      by o e (by_number k f) = a_number k f

  years_yield : (n : ℤ) → Yields moved_numbers (add_years r n)
  unfolding add_years
  years_yield n =
      let v = (facts r t).date in
      rw t (first (checked_numbered (sum (pos r.year) n) refl) (λ s. first (from_zero_numbered (natural_of s) refl) (λ y. clamp_yields y r.month v.month_low v.month_high)))

  months_yield : (n : ℤ) → Yields moved_numbers (add_months r n)
  unfolding add_months
  months_yield n =
      rw t (first (checked_numbered (sum (pos (r.year * 12 + (r.month - 1))) n) refl) (λ s. first (from_zero_numbered (natural_of s) refl) (λ k. clamp_yields (k / 12) (k % 12 + 1) (omega arith) (omega arith))))

  pub relative_any : (x : Relative) → Yields shifted_numbers (add_relative x r)
  unfolding add_relative add_days add_hours add_minutes
  relative_any (relative.Years n) = yields_wider shifted_numbers refl (years_yield n)
  relative_any (relative.Months n) = yields_wider shifted_numbers refl (months_yield n)
  relative_any (relative.Days n) = yields_wider shifted_numbers refl (units_yield r t 86400 n)
  relative_any (relative.Hours n) = yields_wider shifted_numbers refl (units_yield r t 3600 n)
  relative_any (relative.Minutes n) = yields_wider shifted_numbers refl (units_yield r t 60 n)
  relative_any (relative.Seconds n k) = seconds_any r t n k

  pub relative_below : (x : Relative) → (of_relative x).nanosecond < 1000000000 → Yields moved_numbers (add_relative x r)
  unfolding add_relative add_days add_hours add_minutes of_relative
  relative_below (relative.Years n) h = years_yield n
  relative_below (relative.Months n) h = months_yield n
  relative_below (relative.Days n) h = units_yield r t 86400 n
  relative_below (relative.Hours n) h = units_yield r t 3600 n
  relative_below (relative.Minutes n) h = units_yield r t 60 n
  relative_below (relative.Seconds n k) h = seconds_below r t n k h
