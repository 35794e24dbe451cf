-- `calendar::date_in_year` meets its contract: the months lie on a line. Assumes nothing.
use native.Mathlib.Omega.{arith}
use Rattle.calendar.proofs.Counting.{LineDate, line_date}
use Rattle.calendar.proofs.date_in_year.Goals as goal

pub overflow_add-even : goal.overflow_add-even
overflow_add-even c =
    let found : let a = c.args in LineDate c.is_leap_year-leap.result a.year a.day = let a = c.args in line_date c.is_leap_year-leap.result a.year a.day c.is_leap_year-leap.ensures c.requires in
    record { fits = omega (arith, found.small) }

pub overflow_mul-month : goal.overflow_mul-month
overflow_mul-month c =
    let found : let a = c.args in LineDate c.is_leap_year-leap.result a.year a.day = let a = c.args in line_date c.is_leap_year-leap.result a.year a.day c.is_leap_year-leap.ensures c.requires in
    record { fits = omega (arith, found.small) }

pub overflow_add-month : goal.overflow_add-month
overflow_add-month c =
    let found : let a = c.args in LineDate c.is_leap_year-leap.result a.year a.day = let a = c.args in line_date c.is_leap_year-leap.result a.year a.day c.is_leap_year-leap.ensures c.requires in
    record { fits = omega (arith, found.small) }

pub overflow_cast-result : goal.overflow_cast-result
overflow_cast-result c =
    let found : let a = c.args in LineDate c.is_leap_year-leap.result a.year a.day = let a = c.args in line_date c.is_leap_year-leap.result a.year a.day c.is_leap_year-leap.ensures c.requires in
    record { fits = omega (arith, found.month_high) }

pub overflow_mul-result : goal.overflow_mul-result
overflow_mul-result c =
    let found : let a = c.args in LineDate c.is_leap_year-leap.result a.year a.day = let a = c.args in line_date c.is_leap_year-leap.result a.year a.day c.is_leap_year-leap.ensures c.requires in
    record { fits = omega (arith, found.month_high) }

pub returns : goal.returns
returns c =
    let found : let a = c.args in LineDate c.is_leap_year-leap.result a.year a.day = let a = c.args in line_date c.is_leap_year-leap.result a.year a.day c.is_leap_year-leap.ensures c.requires in
    let f = found in
    (record { month_low = f.month_low; month_high = f.month_high; day_low = omega arith; day_high = f.day_high }, f.counted)
