-- `text_profile::week_day` meets its contract: the day is in a year that a u32 can represent. Assumes nothing.
use native.Mathlib.Omega.{arith}
use Prim.Native.Nat.{ℕ}
use mathlib.Core.Path.{sym, ap, ◌∙◌}
use Rattle.calendar.specs.declared.Civil.{Civil}
use Rattle.weeks.proofs.Theorems.{near_year}
use Rattle.text_profile.proofs.week_day.Goals as goal

pub overflow_cast-result : goal.overflow_cast-result
overflow_cast-result c =
    let n = near_year c.args.date c.in-Some.day (sym c.day_of.ensures ∙ c.in-Some.is) in
    record { fits = omega (arith, n.1, ap (λ (d : Civil ℕ). d.year) c.civil_from_days_near-civil.ensures, c.requires) }
