-- `word_displacement` is `displacement` where a word is in front: an ordinal of the table can be negated.
use borrow.Author.Rules.{rules}
use mathlib.Core.Path.{sym}
use mir.Syntax.{w32}
use mir.Val.{SFits}
use mir.Facts.{to_z-of_z}
use Rattle.primitive.specs.Text.{lowered}
use Rattle.primitive.proofs.Limits.{named_range}
use Rattle.relative.proofs.Fronts.{ordinal_there, unit_there}
use Rattle.relative_readers.proofs.word_displacement.Goals as goal

pub displaced-requires : goal.displaced-requires
displaced-requires c =
    let fits : SFits w32 c.in-Some.n = search rules in
    rw (to_z-of_z fits) (named_range _ _ _ _ _ (sym (c.in-Some.ensures (lowered c.args.s.now) c.in_ok-word.end)))

pub returns-in-Some : goal.returns-in-Some
returns-in-Some c =
    let s = c in
    let fits : SFits w32 s.in-Some.n = search rules in
    ordinal_there _ _ s.requires.0 s.requires.1 _ _ s.in_ok-word.ensures _ _ (s.in-Some.ensures (lowered s.args.s.now) s.in_ok-word.end) (rw (to_z-of_z fits) at s.displaced.ensures)

pub returns-in-None : goal.returns-in-None
returns-in-None c = unit_there _ _ c.requires.0 c.requires.1 _ _ c.in_ok-word.ensures _ (c.in-None.ensures (lowered c.args.s.now) c.in_ok-word.end) c.united.ensures
