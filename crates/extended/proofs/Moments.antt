-- `from_unix_seconds` gives the one accepted record of a moment, an offset and a nanosecond. Assumes nothing.
use Prim.Native.Nat.{ℕ, ◌+◌, ◌*◌, ◌/◌, ◌%◌, ◌≤◌}
use mathlib.Core.Path.{◌≡◌, refl, sym, ap, ap₂, ◌∙◌, subst}
use mathlib.Core.Bool.{Bool, true, false}
use native.Mathlib.Omega.{arith}
use lib.Dec.{leb}
use lib.IntN.{ℤ, pos, negsuc, neg_ℤ, sub_ℕ, ◌+ℤ◌, ◌-ℤ◌, +ℤ_assoc, +ℤ_comm, -ℤ-+ℤ_cancel, +ℤ-neg_ℤ_cancel}
use mir.Syntax.{w64}
use mir.Val.{SFits}
use borrow.Author.Tests.{le-leb, leb-true}
use Rattle.integers.specs.Integers.{sum, natural_of, in_i64, fits_if}
use Rattle.integers.proofs.Differences.{diff_pos, diff_sub}
use Rattle.integers.proofs.Range.{diff_fits, fits_in}
use Rattle.answers.specs.Outcome.{Outcome, accepted, check, ◌>>=◌}
use Rattle.calendar.specs.Calendar.{day_number, civil, ymd}
use Rattle.extended.specs.Extended.{checked, from_zero, make, date, time, test_offset, test_year, clock_seconds, moment, clock_record, from_clock, from_unix_seconds}
use Rattle.calendar.specs.declared.Civil.{Civil}
use Rattle.extended.specs.declared.ExtendedDateTime.{ExtendedDateTime}
use Rattle.calendar.proofs.Dates.{place, back}
use Rattle.answers.proofs.Outcomes.{apart, same, check_true, first_passed}
use Rattle.extended.proofs.Records.{Accepted, year_fact, year_test, clock_bound}

-- ---- the clock of a record, and the record of a clock
-- hours, minutes and seconds make up the seconds of the day
parts : (s : ℕ) → s % 86400 / 3600 * 3600 + s % 3600 / 60 * 60 + s % 60 ≡ s % 86400
parts s = omega arith

pub clock_is : (s n : ℕ) (o : ℤ) → clock_seconds (clock_record s n o) ≡ s
unfolding clock_seconds clock_record make
clock_is s n o = omega (arith, (place (s / 86400)).1, parts s)

clock_of_day : (d h m s : ℕ) → h ≤ 23 → m ≤ 59 → s ≤ 59 →
    let t = d * 86400 + h * 3600 + m * 60 + s in (t / 86400 ≡ d) × (t % 86400 / 3600 ≡ h) × (t % 3600 / 60 ≡ m) × (t % 60 ≡ s)
clock_of_day d h m s a b c = (omega arith, omega arith, omega arith, omega arith)

-- a record by its date and its parts of the day
put : Civil ℕ → ℕ → ℕ → ℕ → ℕ → ℤ → ExtendedDateTime
put t h m s n o = make (date t.year t.month t.day) (time h m s n) o

put_same : (t t' : Civil ℕ) (h h' m m' s s' n : ℕ) (o : ℤ) → t ≡ t' → h ≡ h' → m ≡ m' → s ≡ s' → put t h m s n o ≡ put t' h' m' s' n o
put_same t t' h h' m m' s s' n o p q u v = cc

pub record_back : (r : ExtendedDateTime) → Accepted r → clock_record (clock_seconds r) r.nanosecond r.offset_seconds ≡ r
unfolding clock_record clock_seconds make put
record_back r v =
    let q = clock_of_day (day_number r.year r.month r.day) r.hour r.minute r.second v.hour_high v.minute_high v.second_high in
    let t = ap civil q.0 ∙ back (ymd r.year r.month r.day) v.date in
    let n = r.nanosecond in
    let o = r.offset_seconds in
    put_same _ (ymd r.year r.month r.day) _ r.hour _ r.minute _ r.second n o t q.1 q.2 q.3

pub clock_accepted : (s n : ℕ) (o : ℤ) → (civil (s / 86400)).year ≤ 2147485547 → n ≤ 999999999 → test_offset o ≡ accepted tt → Accepted (clock_record s n o)
unfolding clock_record make
clock_accepted s n o y m q =
    record {
      date = (place (s / 86400)).0;
      year_high = y;
      hour_high = omega arith;
      minute_high = omega arith;
      second_high = omega arith;
      nanosecond_high = m;
      offset_in = q;
    }

-- ---- clocks and moments
-- what was added before the last summand is taken off again
swap : (a b c : ℤ) → a +ℤ b +ℤ c ≡ a +ℤ c +ℤ b
swap a b c = +ℤ_assoc a b c ∙ ap (λ (z : ℤ). a +ℤ z) (+ℤ_comm b c) ∙ sym (+ℤ_assoc a c b)

off : (u o e : ℤ) → u +ℤ o +ℤ e -ℤ o -ℤ e ≡ u
off u o e =
    ap (λ (z : ℤ). z -ℤ e) (swap (u +ℤ o) e (neg_ℤ o) ∙ ap (λ (z : ℤ). z +ℤ e) (+ℤ-neg_ℤ_cancel u o)) ∙ +ℤ-neg_ℤ_cancel u e

on : (u o e : ℤ) → u -ℤ o -ℤ e +ℤ o +ℤ e ≡ u
on u o e =
    ap (λ (z : ℤ). z +ℤ e) (swap (u -ℤ o) (neg_ℤ e) o ∙ ap (λ (z : ℤ). z -ℤ e) (-ℤ-+ℤ_cancel u o)) ∙ -ℤ-+ℤ_cancel u e

clock_moment : (s n : ℕ) (u o : ℤ) → u +ℤ o +ℤ pos 62167219200 ≡ pos s → moment (clock_record s n o) ≡ u
unfolding moment clock_record make
clock_moment s n u o e =
    ap (λ (k : ℕ). pos k -ℤ o -ℤ pos 62167219200) (clock_is s n o) ∙ ap (λ (z : ℤ). z -ℤ o -ℤ pos 62167219200) (sym e) ∙ off u o (pos 62167219200)

pub moment_back : (r : ExtendedDateTime) → moment r +ℤ r.offset_seconds +ℤ pos 62167219200 ≡ pos (clock_seconds r)
unfolding moment
moment_back r = on (pos (clock_seconds r)) r.offset_seconds (pos 62167219200)

local_moment : (r : ExtendedDateTime) → moment r +ℤ r.offset_seconds ≡ sub_ℕ (clock_seconds r + 0) (0 + 62167219200)
unfolding moment
local_moment r =
    swap (pos (clock_seconds r) -ℤ r.offset_seconds) (negsuc 62167219199) r.offset_seconds
    ∙ ap (λ (z : ℤ). z +ℤ negsuc 62167219199) (-ℤ-+ℤ_cancel (pos (clock_seconds r)) r.offset_seconds)
    ∙ ap₂ ◌-ℤ◌ (diff_pos (clock_seconds r)) (diff_pos 62167219200) ∙ diff_sub (clock_seconds r) 0 62167219200 0

-- ---- from the moment of an accepted record that record comes back
year_back : (r : ExtendedDateTime) → Accepted r → (civil (clock_seconds r / 86400)).year ≡ r.year
unfolding clock_record make
year_back r v = ap (λ (x : ExtendedDateTime). x.year) (record_back r v)

clock_done : (r : ExtendedDateTime) → Accepted r → from_clock (clock_seconds r) r.nanosecond r.offset_seconds ≡ accepted r
unfolding from_clock
clock_done r v =
    let y : (civil (clock_seconds r / 86400)).year ≡ r.year = year_back r v in
    simp (year_test (civil (clock_seconds r / 86400)).year (omega (arith, v.year_high))) (ap accepted (record_back r v))

pub from_moment : (r : ExtendedDateTime) → Accepted r → from_unix_seconds (moment r) r.nanosecond r.offset_seconds ≡ accepted r
unfolding from_unix_seconds sum natural_of
from_moment r a =
    let o = r.offset_seconds in
    let f : SFits w64 (moment r +ℤ o) = rw (local_moment r) (diff_fits (clock_seconds r + 0) (0 + 62167219200) (omega (arith, clock_bound r a)) (omega arith)) in
    simp (le-leb r.nanosecond 999999999 a.nanosecond_high, a.offset_in, fits_in (moment r +ℤ o) f.sfits, moment_back r) (clock_done r a)

-- ---- and what comes of a moment is an accepted record of it
abbrev pub Given : ℤ → ℕ → ℤ → ExtendedDateTime → Type 0
Given u n o r = Accepted r × (moment r ≡ u) × (r.nanosecond ≡ n) × (r.offset_seconds ≡ o)

kept : (s n : ℕ) (o : ℤ) → ((clock_record s n o).nanosecond ≡ n) × ((clock_record s n o).offset_seconds ≡ o)
unfolding clock_record make
kept s n o = (refl, refl)

clock_given : (s n : ℕ) (u o : ℤ) (r : ExtendedDateTime) → n ≤ 999999999 → test_offset o ≡ accepted tt → u +ℤ o +ℤ pos 62167219200 ≡ pos s → from_clock s n o ≡ accepted r → Given u n o r
unfolding from_clock
clock_given s n u o r m q z e =
    let a = first_passed (test_year (civil (s / 86400)).year) (accepted (clock_record s n o)) e in
    subst (λ (x : ExtendedDateTime). Given u n o x) (same a.1)
    (clock_accepted s n o (year_fact (civil (s / 86400)).year a.0) m q, clock_moment s n u o z, (kept s n o).0, (kept s n o).1)

local_given : (z : ℤ) (n : ℕ) (u o : ℤ) (r : ExtendedDateTime) → n ≤ 999999999 → test_offset o ≡ accepted tt → u +ℤ o +ℤ pos 62167219200 ≡ z →
    (from_zero (natural_of z) >>= λ (s : ℕ). from_clock s n o) ≡ accepted r → Given u n o r
unfolding natural_of
local_given (pos s) n u o r m q z e = clock_given s n u o r m q z e
local_given (negsuc k) n u o r m q z e = apart e

-- a value within an i64 is passed
pub fits_passed : (z : ℤ) (f : ℤ → Outcome ExtendedDateTime) (r : ExtendedDateTime) → (checked (fits_if (in_i64 z) z) >>= f) ≡ accepted r → f z ≡ accepted r
fits_passed z f r e = by (in_i64 z) e
  where
    by : (t : Bool) → (checked (fits_if t z) >>= f) ≡ accepted r → f z ≡ accepted r
    by true e = e
    by false e = apart e

pub sum_passed : (u o : ℤ) (f : ℤ → Outcome ExtendedDateTime) (r : ExtendedDateTime) → (checked (sum u o) >>= f) ≡ accepted r → f (u +ℤ o) ≡ accepted r
unfolding sum
sum_passed u o f r e = fits_passed (u +ℤ o) f r e

pub given : (u o : ℤ) (n : ℕ) (r : ExtendedDateTime) → from_unix_seconds u n o ≡ accepted r → Given u n o r
unfolding from_unix_seconds
given u o n r e =
    let a = first_passed (check (leb n 999999999) 16) _ e in
    let b = first_passed (test_offset o) _ a.1 in
    local_given (u +ℤ o +ℤ pos 62167219200) n u o r (leb-true n 999999999 (check_true (leb n 999999999) 16 a.0)) b.0 refl
    (sum_passed u o (λ (z : ℤ). from_zero (natural_of (z +ℤ pos 62167219200)) >>= λ (s : ℕ). from_clock s n o) r b.1)
