-- `word_dot` is its definition's chain: the dot belongs to the part. Assumes nothing.
use Rattle.dates.proofs.Parts.{no_word_dot, word_and_dot, word_alone}
use Rattle.month_names.proofs.word_dot.Goals as goal

pub returns-in_err-word : goal.returns-in_err-word
returns-in_err-word c = rw c.from_residual.ensures (no_word_dot _ _ c.in_err-word.ensures)

pub returns-in-Some : goal.returns-in-Some
returns-in-Some c = rw c.part.ensures (word_and_dot _ _ _ _ c.in_ok-word.ensures _ c.in-Some.ensures)

pub returns-in-None : goal.returns-in-None
returns-in-None c = word_alone _ _ _ _ c.in_ok-word.ensures c.in-None.ensures
