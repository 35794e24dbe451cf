-- `in_unit` is its definition: the unit that stands beside the word without its `s`. Assumes nothing.
use mir.Facts.{to_z-of_z}
use mathlib.Core.Path.{refl, ap, ◌∙◌}
use Rattle.primitive.specs.Answer.{found_at}
use Rattle.primitive.specs.Text.{lower, lowered, bytes}
use Rattle.primitive.proofs.Tables.{beside_named}
use Rattle.relative_readers.proofs.Units.{unit_words, unit_none, unit_found}
use Rattle.relative_readers.proofs.in_unit.Goals as goal

pub returns-in_err-unit : goal.returns-in_err-unit
unfolding unit_words bytes lower lowered
returns-in_err-unit c =
    λ text.
    rw c.from_residual.ensures
    (unit_none _ _ _ c.args.next (rw c.stem.ensures at (ap (found_at c.args.next) c.in_err-unit.ensures ∙ beside_named text _ _ unit_words _ refl)))

pub returns-in_err-relative : goal.returns-in_err-relative
unfolding unit_words bytes lower lowered
returns-in_err-relative c =
    λ text.
    let n = rw (to_z-of_z c.ranges.n) at (c.in_err-relative.ensures text c.args.next) in
    rw c.from_residual-in_err-relative.ensures
    (unit_found _ _ _ _ _ _ (rw c.stem.ensures at (ap (found_at c.args.next) c.in_ok-unit.ensures ∙ beside_named text _ _ unit_words _ refl)) n)

pub returns : goal.returns
unfolding unit_words bytes lower lowered
returns c =
    λ text.
    let n = rw (to_z-of_z c.ranges.n) at (c.in_ok-relative.ensures text c.args.next) in
    unit_found _ _ _ _ _ _ (rw c.stem.ensures at (ap (found_at c.args.next) c.in_ok-unit.ensures ∙ beside_named text _ _ unit_words _ refl)) n
