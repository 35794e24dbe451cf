-- `calendar::civil_from_days_near` meets its contract: a day that is found at once counts to its date. Assumes nothing.
use native.Mathlib.Omega.{arith}
use Rattle.calendar.specs.Calendar.{day_number}
use Rattle.calendar.proofs.Counting.{year_bounds}
use Rattle.calendar.proofs.Dates.{the_date}
use Rattle.calendar.proofs.civil_from_days_near.Goals as goal

pub date_in_year-date-requires : goal.date_in_year-date-requires
date_in_year-date-requires c = omega (arith, c.if-day-ge-DAYS.false, year_bounds c.args.year)

pub returns : goal.returns
unfolding day_number
returns c =
    let d = c.date_in_year-date.ensures in
    the_date _ c.args.days d.0 (omega (arith, c.first_day-first.ensures, c.if-days-first.false, d.1))
