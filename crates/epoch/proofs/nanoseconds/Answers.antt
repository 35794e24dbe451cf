-- `nanoseconds` is its definition: a digit that is there is worth at most 9, and the sum stays below 10 to the power of those passed.
-- Assumes nothing.
use native.Mathlib.Omega.{arith}
use Rattle.primitive.proofs.Fractions.{digit_itself, digit_range, small, next_small, nano_zero, nano_digit}
use Rattle.epoch.proofs.nanoseconds.Goals.{then-k-digits, else-k-digits}
use Rattle.epoch.proofs.nanoseconds.Goals as goal

pub overflow_sub-digits : goal.overflow_sub-digits
overflow_sub-digits c = (digit_range _ c.requires _ (omega arith)).0

pub overflow_mul-acc : goal.overflow_mul-acc
overflow_mul-acc c = let few = small _ _ c.loop-k.invariant.1 (omega arith) in omega arith

pub overflow_mul-acc-else-k-digits : goal.overflow_mul-acc-else-k-digits
overflow_mul-acc-else-k-digits c = let few = small _ _ c.loop-k.invariant.1 (omega arith) in omega arith

pub overflow_add-acc : goal.overflow_add-acc
overflow_add-acc c =
    let few = small _ _ c.loop-k.invariant.1 (omega arith) in
    let worth = digit_range _ c.requires c.loop-k.k (omega arith) in
    omega (arith, worth.1)

pub loop-k-preserved : goal.loop-k-preserved
loop-k-preserved c =
    let zero = next_small _ _ c.loop-k.invariant.1 c.loop-k-test.true 0 (omega arith) in
    elim c.if-k-digits.branch [
      | then-k-digits w ↦
          let worth = digit_range c.args.digits.now c.requires c.loop-k.k (omega arith) in
          let itself = digit_itself c.args.digits.now c.requires c.loop-k.k (omega arith) in
          rw w.acc-is (
            omega arith,
            next_small _ _ c.loop-k.invariant.1 c.loop-k-test.true _ (rw w.from.ensures worth.1),
            nano_digit _ _ _ _ c.loop-k.invariant.2 c.loop-k-test.true (omega arith) _ _ itself w.from.ensures,
          )
      | else-k-digits w ↦ rw w.acc-is (omega arith, omega arith, nano_zero _ _ _ _ c.loop-k.invariant.2 c.loop-k-test.true (omega arith))
    ]
