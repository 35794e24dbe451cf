-- The loop's invariant: the text begins with `w` if what is left of it begins with what is left of `w`. Assumes nothing.
use Rattle.std.proofs.Common.{◌≡◌, ◌+◌, ◌<◌, ◌≤◌, length}
use Prim.Native.Nat.{◌^◌}
use Rattle.primitive.proofs.Tags.{starts_from}
use Rattle.primitive.proofs.tag.Given as goal

abbrev pub invariant-loop-k : goal.invariant-loop-k
invariant-loop-k l = (l.at + l.k < 2 ^ 64) × (l.k ≤ length l.w) × (starts_from l.w l.k l.s (l.at + l.k) ≡ starts_from l.w 0 l.s l.at)
