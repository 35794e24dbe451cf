-- The name of the unit that `unit_at` answers stands in the text. Assumes nothing.
use mathlib.Core.Path.{refl}
use Rattle.primitive.specs.Text.{bytes}
use Rattle.text_quick.proofs.ShiftForms.{Table, entry_answer}
use Rattle.text_quick.proofs.shifts.unit_at.Goals as goal

pub loop-word-init : goal.loop-word-init
unfolding bytes Table
loop-word-init c = ((tt, refl), ((tt, refl), ((tt, refl), ((tt, refl), ((tt, refl), ((tt, refl), tt))))))

pub returns-in-Some : goal.returns-in-Some
returns-in-Some c = entry_answer _ _ _ c.loop-word.invariant c.loop-word-test.true _ _ _ c.in-Some.ensures
