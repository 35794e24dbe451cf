-- `build_items`: what is left to read.
use Prim.Native.Nat.{◌≤◌}
use mathlib.Core.Path.{◌≡◌}
use lib.ListN.{length}
use Rattle.primitive.specs.Text.{lowered}
use Rattle.answers.specs.Refusals.{placed_of}
use Rattle.packet.specs.Packet.{build_items}
use Rattle.packet.proofs.Loop.{left}
use Rattle.packet.proofs.build_items.Given as goal

abbrev pub invariant-loop-i : goal.invariant-loop-i
invariant-loop-i l =
    (length l.gathered.relatives.items ≤ l.i) × (l.used ≤ length l.digits)
    × (left l.packet (lowered l.digits) l.base l.count l.i l.used (placed_of l.gathered.builder) l.gathered.relatives.items ≡ build_items l.packet (lowered l.digits) l.count l.base)
