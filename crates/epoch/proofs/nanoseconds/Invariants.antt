-- The loop's invariant: `acc` with the digits left behind it has the value of all nine, and is below 10 to the power of those passed.
-- Assumes nothing.
use Rattle.primitive.proofs.Fractions.{nano_from}
use Prim.Native.Nat.{◌<◌, ◌^◌, ◌≤◌}
use mathlib.Core.Path.{◌≡◌}
use Rattle.primitive.specs.Text.{lowered}
use Rattle.primitive.specs.Epoch.{nanoseconds}
use Rattle.epoch.proofs.nanoseconds.Given as goal

abbrev pub invariant-loop-k : goal.invariant-loop-k
invariant-loop-k l = (l.k ≤ 9) × (l.acc < 10 ^ l.k) × (nano_from l.acc l.digits l.k ≡ nanoseconds (lowered l.digits))
