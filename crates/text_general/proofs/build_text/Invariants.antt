-- `build_text`: what is left to read is the whole answer.
use Prim.Native.Nat.{◌≤◌, ◌-◌}
use mathlib.Core.Path.{◌≡◌}
use lib.ListN.{length}
use Rattle.primitive.specs.Text.{lowered}
use Rattle.answers.specs.Refusals.{placed_of}
use Rattle.text_general.specs.Reading.{build_text}
use Rattle.text_general.specs.Rest.{left}
use Rattle.text_general.proofs.build_text.Given as goal

abbrev pub invariant-loop-gathered : goal.invariant-loop-gathered
invariant-loop-gathered l =
    (l.count ≤ 4) × (length l.gathered.relatives.items ≤ l.count)
    × (left (lowered l.text) l.base l.count (placed_of l.gathered.builder) l.gathered.relatives.items l.at ≡ build_text (lowered l.text) l.base)

abbrev pub decreases-loop-gathered : goal.decreases-loop-gathered
decreases-loop-gathered l = 5 - l.count
