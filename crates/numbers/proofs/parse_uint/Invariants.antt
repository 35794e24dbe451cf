-- `parse_uint` is its definition. The loop's invariant: `acc` with the digits that are left behind it has the value of all of them. Assumes nothing.
use lib.ListN.{length}
use Rattle.primitive.proofs.Values.{grown_from}
use mathlib.Core.Path.{◌≡◌}
use Prim.Native.Nat.{◌≤◌}
use Rattle.primitive.specs.Primitive.{decimal}
use Rattle.primitive.specs.Text.{lowered}
use Rattle.numbers.proofs.parse_uint.Given as goal

abbrev pub invariant-loop-b : goal.invariant-loop-b
invariant-loop-b l = (l.acc ≤ l.max) × (grown_from l.acc l.digits l.b-index (length l.digits) ≡ decimal (lowered l.digits))
