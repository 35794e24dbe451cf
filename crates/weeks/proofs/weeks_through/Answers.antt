-- `weeks::weeks_through` meets its contract by the law of Thursdays: the year ends 365 days after its first day, or 366. Assumes nothing.
use native.Mathlib.Omega.{arith}
use Prim.Native.Nat.{ℕ, ◌+◌, ◌/◌}
use mathlib.Core.Path.{◌≡◌, refl, ap, ◌∙◌}
use mathlib.Core.Bool.{Bool, true, false}
use mir.Val.{bool_byte}
use Rattle.calendar.specs.Calendar.{leap, year_days, days_before_year}
use Rattle.calendar.proofs.Counting.{years_bound, year_step, byte_small}
use Rattle.weeks.proofs.Thursdays.{thursdays_from}
use Rattle.weeks.proofs.weeks_through.Goals as goal

days : (y : ℕ) (b : Bool) → b ≡ leap y → 365 + bool_byte b ≡ year_days y
unfolding year_days
days y true e = rw (← e) refl
days y false e = rw (← e) refl

pub overflow_add-result : goal.overflow_add-result
overflow_add-result c = record { fits = omega (arith, c.first_day.ensures, years_bound c.args.year, c.ranges.year.fits) }

pub overflow_add-result-2 : goal.overflow_add-result-2
overflow_add-result-2 c = record { fits = omega (arith, c.first_day.ensures, years_bound c.args.year, c.ranges.year.fits, byte_small c.is_leap_year.result) }

pub returns : goal.returns
returns c =
    let y = c.args.year in
    let l = c.is_leap_year.result in
    let e : c.first_day.result + 366 + bool_byte l ≡ days_before_year (y + 1) + 1 = omega (arith, c.first_day.ensures, year_step y, days y l c.is_leap_year.ensures) in
    ap (λ (n : ℕ). n / 7) e ∙ thursdays_from (days_before_year (y + 1))
