-- `with_year` is its definition's chain. Assumes nothing.
use mathlib.Core.Path.{sym}
use Rattle.dates.specs.Date.{with_year}
use Rattle.date_parts.proofs.with_year.Goals as goal

pub returns-in_err-year : goal.returns-in_err-year
unfolding with_year
returns-in_err-year c = λ text. rw (c.from_residual.ensures, ← c.in_err-year.ensures text c.args.next)

pub returns-then-not-exists : goal.returns-then-not-exists
unfolding with_year
returns-then-not-exists c = λ text. simp (sym (c.in_ok-year.ensures text c.args.next), sym c.exists.ensures, c.if-not-exists.true)

pub returns : goal.returns
unfolding with_year
returns c = λ text. simp (sym (c.in_ok-year.ensures text c.args.next), sym c.exists.ensures, c.if-not-exists.false, c.dated_on.ensures)
