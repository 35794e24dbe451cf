-- `calendar::days_from_civil` meets its contract: the law of years that begin in March counts as far as
-- month 13, and a date has the day number of its clamped month and day. Assumes nothing.
use Prim.Native.Nat.{◌+◌, ◌≤◌}
use mathlib.Core.Path.{◌≡◌, refl}
use native.Mathlib.Omega.{arith}
use lib.Dec.{ltb}
use Rattle.calendar.proofs.Counting.{from_march, march_date, march_days, march_month, march_year, number_clamped}
use Rattle.calendar.specs.Calendar.{day_number}
use Rattle.calendar.proofs.days_from_civil.Goals as goal

pub returns : goal.returns
returns c =
    let a = c.args in
    let m = c.min-month.result in
    let d = c.max-2.result in
    let t = ltb m 3 in
    let bounds : (1 ≤ m) × (m ≤ 13) × (1 ≤ d) = omega arith in
    let sum : march_days (march_year t a.year) + from_march (march_month t m) + d ≡ day_number a.year m d + 146038 =
    march_date a.year m d bounds.0 bounds.1 bounds.2 t refl in
    omega (arith, sum, number_clamped a.year a.month a.day m d (omega arith) (omega arith))
