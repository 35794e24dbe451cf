-- `read_rest`: what is left to read is what was left at its start, under any base and after any relative items.
use Prim.Native.Nat.{◌≤◌, ◌-◌}
use mathlib.Core.Path.{◌≡◌}
use mathlib.Core.List.{List}
use Rattle.primitive.specs.Text.{lowered}
use Rattle.answers.specs.Placed.{refusal}
use Rattle.answers.specs.Refusals.{code}
use Rattle.extended.specs.declared.ExtendedDateTime.{ExtendedDateTime}
use Rattle.relative.specs.declared.Relative.{Relative}
use Rattle.text_general.specs.Rest.{left}
use Rattle.text_general.proofs.read_rest.Given as goal

abbrev pub invariant-loop-i : goal.invariant-loop-i
invariant-loop-i l =
    (l.count ≤ 64)
    × ((base : ExtendedDateTime) (rs : List Relative) → left (lowered l.text) base l.count (refusal (code l.broken.refusal) l.broken.place) rs l.i ≡ left (lowered l.text) base l.read (refusal (code l.broken.refusal) l.broken.place) rs l.at)

abbrev pub decreases-loop-i : goal.decreases-loop-i
decreases-loop-i l = 65 - l.count
