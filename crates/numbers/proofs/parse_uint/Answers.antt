-- `parse_uint` is its definition. Assumes nothing.
use native.Mathlib.Omega.{arith}
use Rattle.primitive.proofs.Values.{parse_over_digit}
use Rattle.numbers.proofs.parse_uint.Goals as goal

pub returns-then-max-d : goal.returns-then-max-d
returns-then-max-d c =
    λ text at.
    parse_over_digit _ _ _ _ _ c.loop-b.invariant.1 text (omega arith) (omega arith) _ c.to_lower.ensures _ c.digit_value-d.ensures _ _ c.if-max-d.true
