-- `lost`: the digits from `i` on have one that is not zero exactly where those after the ninth do.
use mathlib.Core.Path.{◌≡◌}
use lib.ListN.{drop}
use Rattle.primitive.specs.Text.{lowered}
use Rattle.primitive.specs.Epoch.{nonzero, lost}
use Rattle.epoch.proofs.lost.Given as goal

abbrev pub invariant-loop-i : goal.invariant-loop-i
invariant-loop-i l = nonzero (drop l.i (lowered l.digits)) ≡ lost (lowered l.digits)
