-- `us_date` finds a day, a slash and a year. Assumes nothing.
use Rattle.text_quick.proofs.DateTexts.{short_within, day_year_found}
use Rattle.text_quick.proofs.days.us_date.Goals as goal

pub bounds-s-at : goal.bounds-s-at
bounds-s-at c = short_within _ c.in_ok-day.ensures

pub returns : goal.returns
returns c = day_year_found _ _ c.in_ok-day.ensures c.if-s-at-ne47.false _ c.year.ensures
