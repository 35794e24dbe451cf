-- `us_rest` is its definition, by whether there is a third part and how long the first is. Assumes nothing.
use native.Mathlib.Omega.{arith}
use mathlib.Core.Path.{sym}
use lib.ListN.{length}
use borrow.Author.Tests.{le-leb, lt-leb}
use Rattle.dates.specs.Date.{us_rest, us_date}
use Rattle.primitive.proofs.Lowered.{length_lowered}
use Rattle.primitive.specs.Text.{lowered}
use Rattle.date_readers.proofs.us_rest.Goals as goal

pub returns-in_err-day : goal.returns-in_err-day
unfolding us_rest us_date
returns-in_err-day c =
    let l = length_lowered c.args.first.now in
    let d = c.in_err-day.ensures (lowered c.args.s.now) c.in-Some.next in
    rw c.from_residual-in_err-day.ensures (simp (sym c.in-Some.ensures, le-leb 4 (length (lowered c.args.first.now)) (omega arith), sym d))

pub returns-then-first-ge-YEAR_DIGITS : goal.returns-then-first-ge-YEAR_DIGITS
unfolding us_rest us_date
returns-then-first-ge-YEAR_DIGITS c =
    let l = length_lowered c.args.first.now in
    let d = c.in_ok-day.ensures (lowered c.args.s.now) c.in-Some.next in
    simp (sym c.in-Some.ensures, le-leb 4 (length (lowered c.args.first.now)) (omega arith), sym d) (c.with_year.ensures (lowered c.args.s.now))

pub returns-in_err-month-2 : goal.returns-in_err-month-2
unfolding us_rest us_date
returns-in_err-month-2 c =
    let l = length_lowered c.args.first.now in
    let m = c.in_err-month-2.ensures (lowered c.args.s.now) c.in-Some.next in
    rw c.from_residual-in_err-month-2.ensures (simp (sym c.in-Some.ensures, lt-leb 4 (length (lowered c.args.first.now)) (omega arith), sym m))

pub returns : goal.returns
unfolding us_rest us_date
returns c =
    let l = length_lowered c.args.first.now in
    let m = c.in_ok-month-2.ensures (lowered c.args.s.now) c.in-Some.next in
    simp (sym c.in-Some.ensures, lt-leb 4 (length (lowered c.args.first.now)) (omega arith), sym m) (c.with_year-2.ensures (lowered c.args.s.now))
