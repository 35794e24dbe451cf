-- `starts_with_meridiem` is its definition's chain. Assumes nothing.
use Rattle.items.specs.Combined.{starts_with_meridiem}
use Rattle.primitive.specs.Primitive.{multispace0}
use Rattle.item_readers.proofs.combined.starts_with_meridiem.Goals as goal

pub returns : goal.returns
unfolding starts_with_meridiem multispace0
returns c = rw (← c.multispace0.ensures) c.meridiem_word.ensures
