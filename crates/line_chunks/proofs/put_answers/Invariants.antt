-- `line_chunks::put_answers` meets its contract: what is answered and what is left to answer are the whole, at each turn. Assumes nothing.
use Prim.Native.Nat.{◌-◌}
use mathlib.Core.Path.{◌≡◌}
use mathlib.Core.Bool.{false}
use lib.ListN.{length}
use Rattle.line_chunks.proofs.Answering.{Going}
use Rattle.line_chunks.proofs.put_answers.Given as goal

abbrev pub invariant-loop-progress : goal.invariant-loop-progress
invariant-loop-progress l = Going l.chunk l.base l.initial.out l.out l.progress.taken l.progress.used × (l.progress.full ≡ false)

abbrev pub decreases-loop-progress : goal.decreases-loop-progress
decreases-loop-progress l = length l.chunk - l.progress.taken
