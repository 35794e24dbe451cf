-- `month_name` finds the name of a month with a blank behind it. Assumes nothing.
use Rattle.text_quick.proofs.MonthNames.{name_found}
use Rattle.text_quick.proofs.days.month_name.Goals as goal

pub returns : goal.returns
returns c = name_found _ _ _ _ c.in_ok-word.ensures c.if-s-end.false c.if-s-end-ne32.false _ c.in_ok-month.ensures
