-- The measure: the bytes left, which fall at each call of itself. The loop's invariant: the comment ends where it does as seen from `i`.
use Prim.Native.Nat.{◌-◌, ◌<◌}
use mathlib.Core.Path.{◌≡◌}
use lib.ListN.{length}
use Rattle.primitive.specs.Text.{lowered}
use Rattle.primitive.specs.Primitive.{inside}
use Rattle.spaces.proofs.+comment.Given as goal

abbrev pub decreases-comment : goal.decreases-comment
decreases-comment l = length l.s.now - l.at

abbrev pub invariant-loop-i : goal.invariant-loop-i
invariant-loop-i l = (l.at < l.i) × (inside (lowered l.s) l.i ≡ inside (lowered l.s) l.start)

abbrev pub decreases-loop-i : goal.decreases-loop-i
decreases-loop-i l = length l.s - l.i
