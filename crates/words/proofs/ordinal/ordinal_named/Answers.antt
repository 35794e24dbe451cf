-- `ordinal_named` is the ordinal that the table of all words gives, by the table of those with its first letter. Assumes nothing.
use Rattle.words.proofs.Letters.{by_letter, e_ordinals, e_begins, f_ordinals, f_begins, l_ordinals, l_begins, n_ordinals, n_begins, s_ordinals, s_begins, t_ordinals, t_begins}
use mathlib.Core.Path.{refl, sym, ◌∙◌}
use Rattle.primitive.specs.Text.{lower, lowered, bytes}
use Rattle.words.proofs.ordinal.ordinal_named.Goals as goal

pub returns-in-101 : goal.returns-in-101
unfolding lower lowered bytes e_ordinals
returns-in-101 c = by_letter 101 e_ordinals e_begins _ refl _ _ c.find_value.ensures (sym c.is_empty.ensures ∙ c.if-is_empty.false) (sym c.in-101.is ∙ c.to_lower.ensures)

pub returns-in-102 : goal.returns-in-102
unfolding lower lowered bytes f_ordinals
returns-in-102 c = by_letter 102 f_ordinals f_begins _ refl _ _ c.find_value-in-102.ensures (sym c.is_empty.ensures ∙ c.if-is_empty.false) (sym c.in-102.is ∙ c.to_lower.ensures)

pub returns-in-108 : goal.returns-in-108
unfolding lower lowered bytes l_ordinals
returns-in-108 c = by_letter 108 l_ordinals l_begins _ refl _ _ c.find_value-in-108.ensures (sym c.is_empty.ensures ∙ c.if-is_empty.false) (sym c.in-108.is ∙ c.to_lower.ensures)

pub returns-in-110 : goal.returns-in-110
unfolding lower lowered bytes n_ordinals
returns-in-110 c = by_letter 110 n_ordinals n_begins _ refl _ _ c.find_value-in-110.ensures (sym c.is_empty.ensures ∙ c.if-is_empty.false) (sym c.in-110.is ∙ c.to_lower.ensures)

pub returns-in-115 : goal.returns-in-115
unfolding lower lowered bytes s_ordinals
returns-in-115 c = by_letter 115 s_ordinals s_begins _ refl _ _ c.find_value-in-115.ensures (sym c.is_empty.ensures ∙ c.if-is_empty.false) (sym c.in-115.is ∙ c.to_lower.ensures)

pub returns-in-116 : goal.returns-in-116
unfolding lower lowered bytes t_ordinals
returns-in-116 c = by_letter 116 t_ordinals t_begins _ refl _ _ c.find_value-in-116.ensures (sym c.is_empty.ensures ∙ c.if-is_empty.false) (sym c.in-116.is ∙ c.to_lower.ensures)
