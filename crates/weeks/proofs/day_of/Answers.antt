-- `weeks::day_of` meets its contract: a week date that is refused has no day, and the day of any other is the one that is answered.
-- Assumes nothing.
use native.Mathlib.Omega.{arith}
use mathlib.Core.Bool.{true, false}
use lib.Dec.{leb}
use borrow.Author.Tests.{leb-true, leb-false}
use mathlib.Core.Path.{◌≡◌, sym, ◌∙◌}
use Rattle.calendar.specs.Calendar.{days_before_year}
use Rattle.weeks.proofs.Thursdays.{thursdays_from, weeks_counted}
use Rattle.weeks.specs.Weeks.{weeks_in}
use Rattle.weeks.proofs.Search.{day_none, day_dated}
use Rattle.weeks.proofs.day_of.Goals as goal

pub returns-then-date-lt1 : goal.returns-then-date-lt1
returns-then-date-lt1 c = sym (day_none c.args.date (λ n r. omega (arith, r.week_low, c.if-date-lt1.true)))

pub returns-then-date-lt1-2 : goal.returns-then-date-lt1-2
returns-then-date-lt1-2 c = sym (day_none c.args.date (λ n r. omega (arith, r.day_low, c.if-date-lt1-2.true)))

pub returns-then-date-gt-DAYS : goal.returns-then-date-gt-DAYS
returns-then-date-gt-DAYS c = sym (day_none c.args.date (λ n r. omega (arith, r.day_high, c.if-date-gt-DAYS.true)))

pub returns-then-not-has_week : goal.returns-then-not-has_week
returns-then-not-has_week c =
    let d = c.args.date in
    let h : leb d.week (weeks_in d.year) ≡ false = sym c.has_week.ensures ∙ c.if-not-has_week.true in
    sym (day_none d (λ n r. omega (arith, r.week_high, leb-false d.week (weeks_in d.year) h, weeks_counted d.year)))

pub returns : goal.returns
returns c =
    let d = c.args.date in
    let h : leb d.week (weeks_in d.year) ≡ true = sym c.has_week.ensures ∙ c.if-not-has_week.false in
    sym (day_dated d.year d.week d.day _ (record {
      week_low = c.if-date-lt1.false;
      week_high = omega (arith, leb-true d.week (weeks_in d.year) h, weeks_counted d.year);
      day_low = c.if-date-lt1-2.false;
      day_high = c.if-date-gt-DAYS.false;
      number = omega (arith, c.weeks_before.ensures.0, thursdays_from (days_before_year d.year));
    }))
