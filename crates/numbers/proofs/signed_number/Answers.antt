-- `signed_number` is its definition's chain; the number is below 2 to the power 31, so it fits. Assumes nothing.
use borrow.Author.Rules.{rules}
use mathlib.Core.Path.{refl}
use mir.Syntax.{w32, w64}
use mir.Val.{SFits}
use mir.Facts.{to_z-of_z}
use Rattle.primitive.proofs.Numbers.{number_fits, number_below, signed_fits}
use Rattle.primitive.specs.Ordinal.{signed_number}
use Rattle.numbers.proofs.signed_number.Goals as goal

pub overflow_cast-n : goal.overflow_cast-n
overflow_cast-n c = number_fits _ _ _ _ _ c.in_ok-n.ensures w32 refl

pub overflow_cast-result : goal.overflow_cast-result
overflow_cast-result c =
    let wide : SFits w64 c.with_sign.result = search rules in
    let small : SFits w32 c.with_sign.result = rw c.with_sign.ensures (signed_fits _ _ (number_below _ _ _ _ _ c.in_ok-n.ensures _ refl)) in
    rw (to_z-of_z wide) small

pub returns : goal.returns
unfolding signed_number
returns c =
    let wide : SFits w64 c.with_sign.result = search rules in
    let small : SFits w32 c.with_sign.result = rw c.with_sign.ensures (signed_fits _ _ (number_below _ _ _ _ _ c.in_ok-n.ensures _ refl)) in
    rw (← c.space.ensures, to_z-of_z wide, to_z-of_z small) (search rules)
