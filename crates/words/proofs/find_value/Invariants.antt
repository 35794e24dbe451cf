-- The loop's invariant: what is left of the table gives the word what the whole table gives it. Assumes nothing.
use Rattle.std.proofs.Common.{◌≡◌, map, drop}
use Rattle.primitive.specs.Text.{lowered}
use Rattle.primitive.specs.Primitive.{beside}
use Rattle.words.proofs.find_value.Given as goal

abbrev pub invariant-loop-name : goal.invariant-loop-name
invariant-loop-name g l =
    beside (map (λ e. (e.0.now, e.1)) (drop l.name-index l.table)) (lowered l.word) ≡ beside (map (λ e. (e.0.now, e.1)) l.table) (lowered l.word)
