-- `skip_space` ends where the definition's does. The loop's invariant: from `i` on, which no blank follows, the space ends where it does from `at` on. Assumes nothing.
use Rattle.primitive.proofs.Spaces.{skip_from}
use mathlib.Core.Path.{◌≡◌}
use Rattle.primitive.specs.Text.{lowered}
use Rattle.primitive.specs.Primitive.{space}
use Prim.Native.Nat.{◌-◌}
use lib.ListN.{length}
use Rattle.spaces.proofs.skip_space.Given as goal

abbrev pub invariant-loop-i : goal.invariant-loop-i
invariant-loop-i l = skip_from l.s l.i ≡ space (lowered l.s) l.at

abbrev pub decreases-loop-i : goal.decreases-loop-i
decreases-loop-i l = length l.s - l.i
