-- `month_named` is the month that the table of all names gives, by the table of those with its first letter. Assumes nothing.
use Rattle.dates.proofs.Months.{by_letter}
use mathlib.Core.Path.{refl, sym, ◌∙◌}
use Rattle.primitive.specs.Text.{lower, lowered, bytes}
use Rattle.dates.specs.Date.{months}
use Rattle.month_names.proofs.month_named.Goals as goal

pub returns-in-106 : goal.returns-in-106
unfolding lower lowered bytes months
returns-in-106 c = by_letter 106 _ refl _ _ c.find_value.ensures (sym c.is_empty.ensures ∙ c.if-is_empty.false) (sym c.in-106.is ∙ c.to_lower.ensures)

pub returns-in-109 : goal.returns-in-109
unfolding lower lowered bytes months
returns-in-109 c = by_letter 109 _ refl _ _ c.find_value-in-109.ensures (sym c.is_empty.ensures ∙ c.if-is_empty.false) (sym c.in-109.is ∙ c.to_lower.ensures)

pub returns-in-97 : goal.returns-in-97
unfolding lower lowered bytes months
returns-in-97 c = by_letter 97 _ refl _ _ c.find_value-in-97.ensures (sym c.is_empty.ensures ∙ c.if-is_empty.false) (sym c.in-97.is ∙ c.to_lower.ensures)

pub returns-in-102 : goal.returns-in-102
unfolding lower lowered bytes months
returns-in-102 c = by_letter 102 _ refl _ _ c.find_value-in-102.ensures (sym c.is_empty.ensures ∙ c.if-is_empty.false) (sym c.in-102.is ∙ c.to_lower.ensures)

pub returns-in-115 : goal.returns-in-115
unfolding lower lowered bytes months
returns-in-115 c = by_letter 115 _ refl _ _ c.find_value-in-115.ensures (sym c.is_empty.ensures ∙ c.if-is_empty.false) (sym c.in-115.is ∙ c.to_lower.ensures)

pub returns-in-111 : goal.returns-in-111
unfolding lower lowered bytes months
returns-in-111 c = by_letter 111 _ refl _ _ c.find_value-in-111.ensures (sym c.is_empty.ensures ∙ c.if-is_empty.false) (sym c.in-111.is ∙ c.to_lower.ensures)

pub returns-in-110 : goal.returns-in-110
unfolding lower lowered bytes months
returns-in-110 c = by_letter 110 _ refl _ _ c.find_value-in-110.ensures (sym c.is_empty.ensures ∙ c.if-is_empty.false) (sym c.in-110.is ∙ c.to_lower.ensures)

pub returns-in-100 : goal.returns-in-100
unfolding lower lowered bytes months
returns-in-100 c = by_letter 100 _ refl _ _ c.find_value-in-100.ensures (sym c.is_empty.ensures ∙ c.if-is_empty.false) (sym c.in-100.is ∙ c.to_lower.ensures)
