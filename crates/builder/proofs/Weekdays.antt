-- The weekday of an item: counting to it one day at a time is the code's formula. Assumes nothing.
use native.Mathlib.Omega.{arith}
use Prim.Native.Nat.{ℕ, zero, suc, ◌+◌, ◌-◌, ◌%◌, ◌<◌, ◌≤◌}
use mathlib.Core.Path.{◌≡◌, refl, sym, ap}
use mathlib.Core.Bool.{Bool, true, false, not, cond}
use lib.Dec.{eqb}
use borrow.Author.Tests.{eqb-true, eqb-false, eq-eqb, ne_eqb}
use Rattle.calendar.specs.Calendar.{next_weekday, weekday}
use Rattle.calendar.proofs.Counting.{weekday_closed}
use Rattle.answers.specs.Outcome.{Outcome, accepted, refused, ◌>>◌}
use Rattle.answers.proofs.Outcomes.{apart}
use Rattle.extended.specs.Calendar.{day_number, monday_weekday}
use Rattle.extended.specs.Extended.{test, weekday_monday0}
use Rattle.extended.specs.declared.ExtendedDateTime.{ExtendedDateTime}
use Rattle.items.specs.declared.Day.{Day}
use Rattle.items.specs.declared.Day.TheVariants as day
use Rattle.items.specs.Items.{day_index}
use Rattle.builder.specs.Building.{days_to, ahead}

-- a test that is turned round
pub turned_true : (b : Bool) → not b ≡ true → false ≡ b
turned_true true e = e
turned_true false e = refl

pub turned_false : (b : Bool) → not b ≡ false → true ≡ b
turned_false true e = refl
turned_false false e = e

-- ---- counting days

pub next_closed : (today : ℕ) → today < 7 → next_weekday today ≡ (today + 1) % 7
unfolding next_weekday
next_closed today h = by (eqb today 6) refl
  where
    by : (t : Bool) → eqb today 6 ≡ t → cond t 0 (today + 1) ≡ (today + 1) % 7
    by true e = let k : today ≡ 6 = eqb-true today 6 e in omega arith
    by false e = let k = eqb-false today 6 e in omega arith

-- from a day that is so many days before the other, the count is that many
days_closed : (most today k : ℕ) → today < 7 → k ≤ most → k < 7 → days_to most today ((today + k) % 7) ≡ k
unfolding days_to
days_closed zero today k h l m = omega arith
days_closed (suc most) today zero h l m =
    let e : today ≡ (today + 0) % 7 = omega arith in
    rw (eq-eqb today ((today + 0) % 7) e)
days_closed (suc most) today (suc k) h l m =
    let f : next_weekday today ≡ (today + 1) % 7 = next_closed today h in
    let e : ((today + 1) % 7 + k) % 7 ≡ (today + suc k) % 7 = omega arith in
    rw (ne_eqb today ((today + suc k) % 7) (λ z. omega arith), f, ← e) (ap suc (days_closed most ((today + 1) % 7) k (omega arith) (omega arith) (omega arith)))

pub ahead_closed : (today target : ℕ) → today < 7 → target < 7 → (target + 7 - today) % 7 ≡ ahead today target
ahead_closed today target h g =
    let e : (today + (target + 7 - today) % 7) % 7 ≡ target = omega arith in
    sym (rw e at (days_closed 6 today ((target + 7 - today) % 7) h (omega arith) (omega arith)))

pub ahead_requested : (today target : ℕ) → (today < 7) × (target < 7) → (target + 7 - today) % 7 ≡ ahead today target
ahead_requested today target h = ahead_closed today target h.0 h.1

-- ---- days of the week have numbers below 7

pub day_below : (d : Day) → day_index d < 7
day_below day.Monday = omega arith
day_below day.Tuesday = omega arith
day_below day.Wednesday = omega arith
day_below day.Thursday = omega arith
day_below day.Friday = omega arith
day_below day.Saturday = omega arith
day_below day.Sunday = omega arith

pub today_below : (r : ExtendedDateTime) (today : ℕ) → accepted today ≡ weekday_monday0 r → today < 7
unfolding weekday_monday0 monday_weekday
today_below r today e = by (test r) e
  where
    n : ℕ
    n = day_number r.year r.month r.day

    by : (o : Outcome (Unit {0})) → accepted today ≡ (o >> accepted (weekday 5 n)) → today < 7
    by (accepted u) g = let k : weekday 5 n ≡ today = cc in omega (arith, k, weekday_closed 5 n (omega arith))
    by (refused j) g = apart (sym g)
