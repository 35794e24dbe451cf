-- What `name_date` finds is read as that date: month day, year. Assumes nothing.
use borrow.Author.Rules.{rules}
use Rattle.text_quick.proofs.DateTexts.{short_within, name_within, name_day_found}
use Rattle.text_quick.proofs.days.name_date.Goals as goal

pub overflow_add-end : goal.overflow_add-end
overflow_add-end c = let h = name_within _ c.in_ok-month.ensures in search rules

pub overflow_add-next : goal.overflow_add-next
overflow_add-next c = let h = short_within _ c.in_ok-day.ensures in search rules

pub bounds-s-at : goal.bounds-s-at
bounds-s-at c = short_within _ c.in_ok-day.ensures

pub returns : goal.returns
returns c = name_day_found _ c.in_ok-month.ensures c.in_ok-day.ensures c.if-s-at-ne44.false c.if-s-next.false c.if-s-next-ne32.false _ c.year.ensures
