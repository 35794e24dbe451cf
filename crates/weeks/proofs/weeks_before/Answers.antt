-- `weeks::weeks_before` meets its contract by the law of Thursdays; its bound comes from that of the days before a u32's year. Assumes nothing.
use native.Mathlib.Omega.{arith}
use Rattle.calendar.specs.Calendar.{days_before_year}
use Rattle.calendar.proofs.Counting.{years_bound}
use Rattle.weeks.proofs.Thursdays.{thursdays_from}
use Rattle.weeks.proofs.weeks_before.Goals as goal

pub overflow_add-result : goal.overflow_add-result
overflow_add-result c = record { fits = omega (arith, c.first_day.ensures, years_bound c.args.year, c.ranges.year.fits) }

pub returns : goal.returns
returns c =
    let f = c.first_day.ensures in
    (omega (arith, f, thursdays_from (days_before_year c.args.year)), omega (arith, f, years_bound c.args.year, c.ranges.year.fits))
