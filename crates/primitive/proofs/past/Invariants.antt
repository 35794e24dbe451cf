-- The loop's invariant: from `i` on the run ends where it does from `at` on. Assumes nothing.
use Rattle.std.proofs.Common.{ℕ, Bool, ◌≡◌, ◌≤◌}
use Rattle.primitive.specs.Text.{lowered, past, Tells}
use Rattle.primitive.proofs.past.Given as goal

abbrev pub invariant-loop-i : goal.invariant-loop-i
invariant-loop-i g l = (l.fn.at ≤ l.i) × ((p : ℕ → Bool) → Tells (goal.F-post g l.passes) p → past p (lowered l.s) l.i ≡ past p (lowered l.s) l.at)
