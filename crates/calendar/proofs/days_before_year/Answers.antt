-- `calendar::days_before_year` meets its contract by the closed form. Assumes nothing.
use native.Mathlib.Omega.{arith}
use Rattle.calendar.proofs.Counting.{centuries, closed_form}
use Rattle.calendar.proofs.days_before_year.Goals as goal

pub returns : goal.returns
returns c = omega (arith, closed_form c.args.year, centuries c.args.year)
