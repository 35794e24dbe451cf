-- `calendar::days_before_month` meets its contract: months 1 to 13 lie on a line, and as many days are before a month
-- as before the clamped one. Assumes nothing.
use Prim.Native.Nat.{◌+◌, ◌-◌, ◌≤◌}
use mathlib.Core.Path.{◌≡◌}
use native.Mathlib.Omega.{arith}
use Rattle.calendar.proofs.Counting.{line, months_clamped, months_line, shortened}
use Rattle.calendar.specs.Calendar.{days_of_months}
use Rattle.calendar.proofs.days_before_month.Goals as goal

pub returns : goal.returns
returns c =
    let a = c.args in
    let m = c.min-month.result in
    let l = c.is_leap_year.result in
    let bounds : (1 ≤ m) × (m ≤ 13) = omega arith in
    let on_line : days_of_months a.year (m - 1) + shortened l m ≡ line m = months_line l a.year m c.is_leap_year.ensures bounds.0 bounds.1 in
    omega (arith, on_line, months_clamped a.year a.month m (omega arith))
