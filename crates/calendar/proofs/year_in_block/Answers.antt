-- `calendar::year_in_block` meets its contract: the quotient by 366 is the year or the one before it. Assumes nothing.
use Prim.Native.Nat.{◌+◌, ◌/◌, ◌<◌, ◌≤◌, ℕ}
use mathlib.Core.Path.{◌≡◌, ap, refl}
use mathlib.Core.Bool.{Bool, false, true}
use native.Mathlib.Omega.{arith}
use lib.Dec.{leb}
use borrow.Author.Tests.{leb-false, leb-true}
use Rattle.calendar.proofs.Counting.{block_years, two_years, year_lt, years_bound}
use Rattle.calendar.specs.Calendar.{days_before_year}
use mir.Val.{bool_byte}
use Rattle.calendar.proofs.year_in_block.Goals as goal

found : (d n : ℕ) → d < 146097 → n ≡ days_before_year (d / 366 + 1) → (t : Bool) → leb n d ≡ t →
    (days_before_year (d / 366 + bool_byte t) ≤ d) × (d < days_before_year (d / 366 + bool_byte t + 1))
found d n h q true p =
    let y = d / 366 in
    let l : days_before_year (y + 1) ≤ d = omega (arith, leb-true) in
    let e : y + 1 + 1 ≡ y + 2 = omega arith in
    let k : y + 1 < 400 = year_lt (y + 1) 400 (omega (arith, block_years)) in
    (l, omega (arith, ap days_before_year e, two_years y (omega arith)))
found d n h q false p =
    let y = d / 366 in
    let e : y + 0 ≡ y = omega arith in
    let f : y + 0 + 1 ≡ y + 1 = omega arith in
    omega (arith, leb-false, years_bound y, ap days_before_year e, ap days_before_year f)

pub returns : goal.returns
returns c =
    let d = c.args.day in
    let n = c.days_before_year.result in
    found d n c.requires c.days_before_year.ensures (leb n d) refl
