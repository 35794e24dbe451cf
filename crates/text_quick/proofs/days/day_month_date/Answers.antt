-- `day_month_date` finds the name of a month and a year. Assumes nothing.
use borrow.Author.Rules.{rules}
use Rattle.text_quick.proofs.DateTexts.{name_within, month_year_found}
use Rattle.text_quick.proofs.days.day_month_date.Goals as goal

pub overflow_add-end : goal.overflow_add-end
overflow_add-end c = let h = name_within _ c.in_ok-month.ensures in search rules

pub returns : goal.returns
returns c = month_year_found _ _ c.in_ok-month.ensures _ c.year.ensures
