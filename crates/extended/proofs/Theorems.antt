-- What is proved of the calendar beside the contracts: read this file first. `test r ≡ accepted tt` says that `new` refuses none
-- of the numbers of r. Assumes nothing.
use Prim.Native.Nat.{ℕ, ◌+◌, ◌/◌, ◌%◌, ◌<◌, ◌≤◌}
use mathlib.Core.Path.{◌≡◌, refl, sym, ap, ap₂, ◌∙◌}
use mathlib.Core.Logic.{◌↔◌}
use native.Mathlib.Omega.{arith}
use lib.IntN.{ℤ, pos, ◌+ℤ◌, ◌*ℤ◌}
use Rattle.answers.specs.Outcome.{accepted, refused}
use Rattle.calendar.specs.Calendar.{leap, year_days, days_before_year, days_of_months, day_number, Valid, next_day, civil, next_weekday, weekday}
use Rattle.extended.specs.Calendar.{monday_weekday, sunday_weekday}
use Rattle.extended.specs.Extended.{Recorded, make, time, date_of, test, clock_seconds, moment, from_unix_seconds, add_seconds, add_units, add_days, add_hours, add_minutes}
use Rattle.calendar.specs.declared.Civil.{Civil}
use Rattle.extended.specs.declared.ExtendedDateTime.{ExtendedDateTime}
use Rattle.calendar.proofs.Counting.{weekday_closed}
use Rattle.calendar.proofs.Dates.{day_of, place, unique, number_next}
use Rattle.answers.proofs.Outcomes.{apart}
use Rattle.extended.proofs.Records.{facts, tested}
use Rattle.extended.proofs.Moments.{from_moment, given}
use Rattle.extended.proofs.Adding.{seconds_to, seconds_from, units_to, units_from}

-- ---- 1. Every natural number is the day number of exactly one date
pub some_date : (n : ℕ) → Valid (civil n) × (day_of (civil n) ≡ n)
some_date = place

pub one_date : (s t : Civil ℕ) → Valid s → Valid t → day_of s ≡ day_of t → s ≡ t
one_date = unique

-- `from_unix_seconds` gives it where there is one, and nothing else: so there is at most one, and from the moment of every
-- accepted record that record comes back
pub from_unix_seconds_exact : (u : ℤ) (n : ℕ) (o : ℤ) (r : ExtendedDateTime) → (from_unix_seconds u n o ≡ accepted r) ↔ Recorded u n o r
from_unix_seconds_exact u n o r = (to, back)
  where
    to : from_unix_seconds u n o ≡ accepted r → Recorded u n o r
    to e =
        let g = given u o n r e in
        record { is_accepted = tested r g.0; has_moment = g.1; has_nanosecond = g.2; has_offset = g.3 }

    back : Recorded u n o r → from_unix_seconds u n o ≡ accepted r
    back w =
        ap₂ (λ (x : ℤ) (y : ℤ). from_unix_seconds x n y) (sym w.has_moment) (sym w.has_offset)
        ∙ ap (λ (m : ℕ). from_unix_seconds (moment r) m r.offset_seconds) (sym w.has_nanosecond) ∙ from_moment r (facts r w.is_accepted)

-- and it refuses exactly where there is none
pub from_unix_seconds_refused : (u : ℤ) (n : ℕ) (o : ℤ) (k : ℕ) → from_unix_seconds u n o ≡ refused k → (r : ExtendedDateTime) → Recorded u n o r → ⊥
from_unix_seconds_refused u n o k e r w = apart (sym e ∙ (from_unix_seconds_exact u n o r).1 w)

-- ---- 2. Days, hours, minutes and seconds
-- n units of w seconds each: the one accepted record that lies so far, with the same nanosecond and offset
pub units_exact : (w : ℕ) (r : ExtendedDateTime) (n : ℤ) (r' : ExtendedDateTime) → test r ≡ accepted tt →
    (add_units w r n ≡ accepted r') ↔ Recorded (moment r +ℤ n *ℤ pos w) r.nanosecond r.offset_seconds r'
units_exact w r n r' t = (to, back)
  where
    to : add_units w r n ≡ accepted r' → Recorded (moment r +ℤ n *ℤ pos w) r.nanosecond r.offset_seconds r'
    to e =
        let m = units_from w r n r' e in
        record { is_accepted = tested r' m.accepted_record; has_moment = m.moment_moved; has_nanosecond = m.nanosecond_kept; has_offset = m.offset_kept }

    back : Recorded (moment r +ℤ n *ℤ pos w) r.nanosecond r.offset_seconds r' → add_units w r n ≡ accepted r'
    back m =
        units_to w r n r' (facts r t)
        (record { accepted_record = facts r' m.is_accepted; moment_moved = m.has_moment; nanosecond_kept = m.has_nanosecond; offset_kept = m.has_offset })

-- d seconds and k nanoseconds, where the nanoseconds' sum stays below two seconds
pub seconds_exact : (r : ExtendedDateTime) (d : ℤ) (k : ℕ) (r' : ExtendedDateTime) → test r ≡ accepted tt → r.nanosecond + k < 2000000000 →
    (add_seconds r d k ≡ accepted r') ↔ Recorded (moment r +ℤ d +ℤ pos ((r.nanosecond + k) / 1000000000)) ((r.nanosecond + k) % 1000000000) r.offset_seconds r'
seconds_exact r d k r' t h = (to, back)
  where
    to : add_seconds r d k ≡ accepted r' → Recorded (moment r +ℤ d +ℤ pos ((r.nanosecond + k) / 1000000000)) ((r.nanosecond + k) % 1000000000) r.offset_seconds r'
    to e =
        let m = seconds_from r d k r' h e in
        record { is_accepted = tested r' m.accepted_record; has_moment = m.moment_raised; has_nanosecond = m.nanosecond_raised; has_offset = m.offset_kept }

    back : Recorded (moment r +ℤ d +ℤ pos ((r.nanosecond + k) / 1000000000)) ((r.nanosecond + k) % 1000000000) r.offset_seconds r' → add_seconds r d k ≡ accepted r'
    back m =
        seconds_to r d k r' (facts r t) h
        (record { accepted_record = facts r' m.is_accepted; moment_raised = m.has_moment; nanosecond_raised = m.has_nanosecond; offset_kept = m.has_offset })

-- the nanosecond is no part of the moment: a record with the one has a sister with any other
sister : ExtendedDateTime → ℕ → ExtendedDateTime
sister r n = make (date_of r) (time r.hour r.minute r.second n) r.offset_seconds

sister_recorded : (r : ExtendedDateTime) (n : ℕ) → test r ≡ accepted tt → n ≤ 999999999 → Recorded (moment r) n r.offset_seconds (sister r n)
unfolding sister make moment clock_seconds
sister_recorded r n t h =
    let a = facts r t in
    record {
      is_accepted = tested (make (date_of r) (time r.hour r.minute r.second n) r.offset_seconds) (record {
        date = a.date;
        year_high = a.year_high;
        hour_high = a.hour_high;
        minute_high = a.minute_high;
        second_high = a.second_high;
        nanosecond_high = h;
        offset_in = a.offset_in;
      });
      has_moment = refl;
      has_nanosecond = refl;
      has_offset = refl;
    }

moved : (u v : ℤ) (n : ℕ) (o p : ℤ) (r : ExtendedDateTime) → u ≡ v → o ≡ p → Recorded u n o r → Recorded v n p r
moved u v n o p r e f w =
    record { is_accepted = w.is_accepted; has_moment = w.has_moment ∙ e; has_nanosecond = w.has_nanosecond; has_offset = w.has_offset ∙ f }

-- a refusal says that no accepted record has the moment and the offset, whatever its nanosecond
pub units_refused : (w : ℕ) (r : ExtendedDateTime) (n : ℤ) (k : ℕ) → test r ≡ accepted tt → add_units w r n ≡ refused k →
    (r' : ExtendedDateTime) → test r' ≡ accepted tt → moment r' ≡ moment r +ℤ n *ℤ pos w → r'.offset_seconds ≡ r.offset_seconds → ⊥
units_refused w r n k t e r' t' m o =
    let s = moved _ (moment r +ℤ n *ℤ pos w) _ _ r.offset_seconds (sister r' r.nanosecond) m o (sister_recorded r' r.nanosecond t' (facts r t).nanosecond_high) in
    apart (sym e ∙ (units_exact w r n (sister r' r.nanosecond) t).1 s)

pub seconds_refused : (r : ExtendedDateTime) (d : ℤ) (k j : ℕ) → test r ≡ accepted tt → r.nanosecond + k < 2000000000 → add_seconds r d k ≡ refused j →
    (r' : ExtendedDateTime) → test r' ≡ accepted tt → moment r' ≡ moment r +ℤ d +ℤ pos ((r.nanosecond + k) / 1000000000) → r'.offset_seconds ≡ r.offset_seconds → ⊥
seconds_refused r d k j t h e r' t' m o =
    let n = (r.nanosecond + k) % 1000000000 in
    let s = moved _ (moment r +ℤ d +ℤ pos ((r.nanosecond + k) / 1000000000)) _ _ r.offset_seconds (sister r' n) m o (sister_recorded r' n t' (omega arith)) in
    apart (sym e ∙ (seconds_exact r d k (sister r' n) t h).1 s)

-- days, hours and minutes are such units
pub days_are : (r : ExtendedDateTime) (n : ℤ) → add_days r n ≡ add_units 86400 r n
unfolding add_days
days_are r n = refl

pub hours_are : (r : ExtendedDateTime) (n : ℤ) → add_hours r n ≡ add_units 3600 r n
unfolding add_hours
hours_are r n = refl

pub minutes_are : (r : ExtendedDateTime) (n : ℤ) → add_minutes r n ≡ add_units 60 r n
unfolding add_minutes
minutes_are r n = refl

-- ---- 3. Weekdays
-- 1970-01-01 is a Thursday: 3 counted from Monday, 4 from Sunday
pub epoch_thursday : (monday_weekday (day_number 1970 1 1) ≡ 3) × (sunday_weekday (day_number 1970 1 1) ≡ 4)
unfolding monday_weekday sunday_weekday day_number days_before_year year_days leap days_of_months
epoch_thursday = (weekday_closed 5 (day_number 1970 1 1) (omega arith), weekday_closed 6 (day_number 1970 1 1) (omega arith))

-- each day's weekday is the next one of the day before
pub next_weekday_lem : (t : Civil ℕ) → Valid t → (monday_weekday (day_of (next_day t)) ≡ next_weekday (monday_weekday (day_of t))) × (sunday_weekday (day_of (next_day t)) ≡ next_weekday (sunday_weekday (day_of t)))
unfolding monday_weekday sunday_weekday weekday
next_weekday_lem t v = (ap monday_weekday (number_next t v), ap sunday_weekday (number_next t v))
