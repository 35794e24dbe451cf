-- `find_value` is the value beside the word. Assumes nothing.
use mathlib.Core.Path.{refl}
use Rattle.primitive.proofs.Tables.{beside_found, beside_next, beside_end}
use Rattle.words.proofs.find_value.Goals as goal

pub returns-then-eq_ignore_ascii_case : goal.returns-then-eq_ignore_ascii_case
returns-then-eq_ignore_ascii_case g c =
    beside_found _ _ _ _ _ c.loop-name.invariant c.loop-name-test.true _ c.loop-name-item.is _ _ c.as_bytes.ensures.value refl _ c.eq_ignore_ascii_case.ensures.test c.if-eq_ignore_ascii_case.true

pub loop-name-preserved : goal.loop-name-preserved
loop-name-preserved g c =
    beside_next _ _ _ _ _ c.loop-name.invariant c.loop-name-test.true _ c.loop-name-item.is _ _ c.as_bytes.ensures.value refl _ c.eq_ignore_ascii_case.ensures.test c.if-eq_ignore_ascii_case.false

pub returns : goal.returns
returns g c = beside_end _ _ _ _ _ c.loop-name.invariant c.loop-name-test.false
