-- `Program::run`: what is read and not answered lies within the input buffer.
use Prim.Native.Nat.{◌≤◌}
use Rattle.lines.proofs.Program.run.Given as goal

abbrev pub invariant-loop : goal.invariant-loop
invariant-loop l = (l.self.from ≤ l.self.end) × (l.self.end ≤ 65536)
