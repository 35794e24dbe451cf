-- `dec_uint` is its definition. The loop's invariant: `acc` with the digits from `i` on behind it has the value of all the digits at `at`. Assumes nothing.
use Rattle.primitive.proofs.Scans.{scanned}
use Prim.Native.Nat.{◌≤◌, max}
use lib.ListN.{length}
use Rattle.numbers.proofs.dec_uint.Given as goal

abbrev pub invariant-loop-i : goal.invariant-loop-i
invariant-loop-i l = (l.at ≤ l.i) × (l.i ≤ max l.at (length l.s)) × (l.acc ≤ l.max) × scanned l.acc l.s l.i l.at
