-- `calendar::days_in_month` meets its contract: the table's entry, and one more in February of a leap year. Assumes nothing.
use Prim.Native.Nat.{◌+◌, ◌-◌, ◌≤◌, ℕ}
use mathlib.Core.Path.{◌≡◌, ap, refl, sym}
use mathlib.Core.Bool.{Bool, ◌&&◌, cond, false, true}
use mathlib.Core.List.{◌∷◌}
use native.Mathlib.Omega.{arith}
use lib.Dec.{eqb}
use lib.ListN.{get_or}
use borrow.Author.Tests.{eqb-true}
use Rattle.calendar.proofs.Counting.{month_at, month_beyond, month_zero}
use Rattle.calendar.specs.Calendar.{leap, month_days, month_table}
use mir.Val.{bool_byte}
use Rattle.calendar.proofs.days_in_month.Goals as goal

february : (m : ℕ) (t l : Bool) → 1 ≤ m → eqb m 2 ≡ t → get_or month_table (m - 1) 0 + bool_byte (t && l) ≡ cond (t && l) 29 (get_or (0 ∷ month_table) m 0)
february m true true h e =
    let p : m - 1 ≡ 1 = omega (arith, eqb-true m 2 e) in
    ap (λ (n : ℕ). get_or month_table n 0 + 1) p
february m true false h e = omega (arith, month_at m h)
february m false l h e = omega (arith, month_at m h)

entry_is : (y m : ℕ) (l : Bool) → l ≡ leap y → 1 ≤ m → get_or month_table (m - 1) 0 + bool_byte (eqb m 2 && l) ≡ month_days y m
unfolding month_days
entry_is y m l e h = rw (← e) (february m (eqb m 2) l h refl)

pub returns-then-month-lt1 : goal.returns-then-month-lt1
returns-then-month-lt1 c = sym (month_zero _ _ c.if-month-lt1.true)

pub returns-then-month-gt12 : goal.returns-then-month-gt12
returns-then-month-gt12 c = sym (month_beyond _ _ c.if-month-gt12.true)

pub returns : goal.returns
returns c =
    let a = c.args in
    rw c.from-i.ensures (entry_is a.year a.month c.is_leap_year.result c.is_leap_year.ensures (omega arith))
