-- `add_relatives`: what is left to add.
use mathlib.Core.Path.{◌≡◌}
use lib.ListN.{drop}
use Rattle.builder.specs.Building.{add_relatives}
use Rattle.builder.proofs.add_relatives.Given as goal

abbrev pub invariant-loop-relative : goal.invariant-loop-relative
invariant-loop-relative l = add_relatives (drop l.relative-index l.relatives) l.dt ≡ add_relatives l.relatives l.fn.dt
