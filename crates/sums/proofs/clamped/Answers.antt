-- `clamped` meets its contract: where no day is lost none is added, which leaves the record as it is.
use Prim.Native.Nat.{◌-◌, ◌≤◌, min, ℕ}
use mathlib.Core.Path.{◌∙◌, ◌≡◌, refl, sym}
use native.Mathlib.Omega.{arith}
use lib.IntN.{pos}
use borrow.Author.Rules.{rules}
use Rattle.extended.proofs.Adding.{no_days}
use Rattle.extended.proofs.Records.{year_fact}
use Rattle.calendar.specs.Calendar.{month_days}
use Rattle.extended.specs.Extended.{accept, add_days, clamp, date, make, test, test_year, time_of, with_date}
use Rattle.answers.specs.Outcome.{Outcome, ◌>>=◌, ◌>>◌, accepted, refused}
use Rattle.extended.specs.declared.ExtendedDateTime.{ExtendedDateTime}
use Rattle.sums.proofs.clamped.Goals as goal

-- no days added to a record that was tested
kept : (p : Outcome (Unit {0})) (x : ExtendedDateTime) (q : Outcome (Unit {0})) → (q ≡ accepted tt → add_days x (pos 0) ≡ accepted x) →
    ((p >> (q >> accepted x)) >>= λ (next : ExtendedDateTime). add_days next (pos 0)) ≡ (p >> (q >> accepted x))
kept (refused n) x q h = refl
kept (accepted u) x (refused n) h = refl
kept (accepted u) x (accepted tt) h = h refl

none_lost : (r : ExtendedDateTime) (y m : ℕ) → r.day ≤ month_days y m →
    (with_date r (date y m (min r.day (month_days y m))) >>= λ (next : ExtendedDateTime). add_days next (pos (r.day - month_days y m))) ≡ with_date r (date y m r.day)
unfolding with_date accept
none_lost r y m h =
    let e : min r.day (month_days y m) ≡ r.day = omega arith in
    let z : r.day - month_days y m ≡ 0 = omega arith in
    let x = make (date y m r.day) (time_of r) r.offset_seconds in
    rw (e, z) (kept (test r) x (test x) (no_days x))

pub overflow_cast-year : goal.overflow_cast-year
overflow_cast-year c =
    let ok : test_year c.args.year ≡ accepted tt = search rules in
    record { fits = omega (arith, year_fact c.args.year ok) }

pub returns-then-dt-max_day : goal.returns-then-dt-max_day
unfolding clamp
returns-then-dt-max_day c =
    let ok : test_year c.args.year ≡ accepted tt = search rules in
    let a = c.args in
    simp ok (c.with_date.ensures ∙ sym (none_lost a.dt a.year a.month (omega arith)))
