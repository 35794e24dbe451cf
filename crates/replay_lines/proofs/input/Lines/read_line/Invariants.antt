-- `read_line`: the line so far has at most 4096 bytes. Assumes nothing.
use Prim.Native.Nat.{◌≤◌}
use lib.ListN.{length}
use Rattle.replay_lines.proofs.input.Lines.read_line.Given as goal

abbrev pub invariant-loop : goal.invariant-loop
invariant-loop l = length l.self.line.items ≤ 4096
