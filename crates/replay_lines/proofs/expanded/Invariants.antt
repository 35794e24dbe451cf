-- `expanded` ends: each turn reads a byte of the line. Assumes nothing.
use lib.ListN.{length}
use Rattle.replay_lines.proofs.expanded.Given as goal

abbrev pub decreases-loop-at : goal.decreases-loop-at
decreases-loop-at l = length l.rest
