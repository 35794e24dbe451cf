-- Where `ago` answers, a blank and `ago` end the text, or nothing stands there. Assumes nothing.
use mathlib.Core.Path.{sym, ◌∙◌}
use Rattle.primitive.specs.Text.{bytes}
use Rattle.primitive.proofs.Lowered.{rest_none}
use Rattle.text_quick.proofs.ShiftForms.{ago_written}
use Rattle.text_quick.proofs.shifts.ago.Goals as goal

pub returns-then-s-at : goal.returns-then-s-at
returns-then-s-at c = rest_none _ _ c.if-s-at.true

pub returns-then-eq : goal.returns-then-eq
unfolding bytes
returns-then-eq c = ago_written _ _ _ c.if-s-at.false c.if-s-at-eq32.true c.tag.ensures (sym c.eq.ensures ∙ c.if-eq.true)
