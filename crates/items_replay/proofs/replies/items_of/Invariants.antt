-- `items_replay::replies::items_of` is safe and ends: no more than 64 items are read. Assumes nothing.
use Prim.Native.Nat.{◌-◌, ◌≤◌}
use Rattle.arrayvec.specs.ArrayVec.{array_vec_len}
use Rattle.items_replay.proofs.replies.items_of.Given as goal

abbrev pub invariant-loop-item : goal.invariant-loop-item
invariant-loop-item l = array_vec_len l.items ≤ 64

abbrev pub decreases-loop-item : goal.decreases-loop-item
decreases-loop-item l = 65 - array_vec_len l.items
