-- `calendar::civil_from_days` meets its contract: block, year and month leave a day within the month, and the date they make
-- counts to the day number. Assumes nothing.
use Prim.Native.Nat.{◌*◌, ◌+◌, ◌-◌, ◌/◌}
use native.Mathlib.Omega.{arith}
use Rattle.calendar.proofs.Counting.{blocks, months_block, months_step, year_step}
use Rattle.calendar.proofs.Dates.{the_date}
use Rattle.calendar.specs.Calendar.{day_number}
use Rattle.calendar.proofs.civil_from_days.Goals as goal

pub date_in_year-date-requires : goal.date_in_year-date-requires
date_in_year-date-requires c = omega (arith, year_step c.year_in_block-year_of_block.result)

pub returns : goal.returns
unfolding day_number
returns c =
    let n = c.args.days in
    let y = c.year_in_block-year_of_block.result in
    let m = c.date_in_year-date.result.month in
    let b = n / 146097 in
    let v = c.date_in_year-date.ensures.0 in
    let e = months_step (b * 400 + y) m v.month_low in
    let f = months_step y m v.month_low in
    the_date _ n
    (record {
      month_low = v.month_low;
      month_high = v.month_high;
      day_low = v.day_low;
      day_high = omega (arith, months_block b y m, months_block b y (m - 1), v.day_high);
    })
    (omega (arith, blocks b y, months_block b y (m - 1), c.date_in_year-date.ensures.1))
