-- `day_of_year` meets its contract: the days before the month, and the day.
use Prim.Native.Nat.{◌-◌}
use native.Mathlib.Omega.{arith}
use Rattle.calendar.proofs.Counting.{months_bound}
use Rattle.moments.proofs.day_of_year.Goals as goal

pub overflow_add-result : goal.overflow_add-result
overflow_add-result c = let r = c.args.dt in record { fits = omega (arith, months_bound r.year (r.month - 1)) }
