-- `build_rest`: what is left to read is what was left at its start.
use Prim.Native.Nat.{◌≤◌, ◌-◌}
use mathlib.Core.Path.{◌≡◌}
use lib.ListN.{length}
use Rattle.primitive.specs.Text.{lowered}
use Rattle.answers.specs.Refusals.{placed_of}
use Rattle.text_general.specs.Rest.{left}
use Rattle.text_general.proofs.build_rest.Given as goal

abbrev pub invariant-loop-i : goal.invariant-loop-i
invariant-loop-i l =
    (l.count ≤ 64) × (length l.gathered.relatives.items ≤ l.count)
    × (left (lowered l.text) l.base l.count (placed_of l.gathered.builder) l.gathered.relatives.items l.i ≡ left (lowered l.text) l.base l.read (placed_of l.fn.builder) l.first l.at)

abbrev pub decreases-loop-i : goal.decreases-loop-i
decreases-loop-i l = 65 - l.count
