-- What `number_date` finds is read as that date: month/day/year, or day month year. Assumes nothing.
use Rattle.text_quick.proofs.DateTexts.{short_within, us_found, day_month_found}
use Rattle.text_quick.proofs.days.number_date.Goals as goal

pub bounds-s-at : goal.bounds-s-at
bounds-s-at c = short_within _ c.in_ok-first.ensures

pub returns-then-s-at-eq47 : goal.returns-then-s-at-eq47
returns-then-s-at-eq47 c = us_found _ c.in_ok-first.ensures c.if-s-at-eq47.true _ c.us_date.ensures

pub bounds-s-at-2 : goal.bounds-s-at-2
bounds-s-at-2 c = short_within _ c.in_ok-first.ensures

pub returns : goal.returns
returns c = day_month_found _ c.in_ok-first.ensures c.if-s-at-ne32.false _ c.day_month_date.ensures
