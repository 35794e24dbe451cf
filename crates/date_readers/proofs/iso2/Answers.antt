-- `iso2` is its definition's chain. Assumes nothing.
use native.Mathlib.Omega.{arith}
use Prim.Native.Nat.{◌-◌, ◌≤◌}
use mathlib.Core.Path.{◌≡◌, sym, ap, ◌∙◌}
use mathlib.Core.Bool.{true}
use mathlib.Core.List.{List}
use Prim.Native.Nat.{ℕ}
use lib.Dec.{leb}
use lib.ListN.{length, take, drop}
use lib.Seq.{slice, take_all}
use Rattle.dates.proofs.Parts.{lowered_take, lowered_slice}
use borrow.Author.Tests.{le-leb, lt-leb}
use Rattle.dates.specs.Date.{five_digits, iso2}
use Rattle.primitive.proofs.Lowered.{length_lowered}
use Rattle.primitive.specs.Text.{lowered}
use Rattle.date_readers.proofs.iso2.Goals as goal

pub returns-in_err-digits : goal.returns-in_err-digits
unfolding iso2
returns-in_err-digits c = rw (c.from_residual.ensures, ← c.in_err-digits.ensures)

pub returns-then-n-lt-FEWEST_DIGITS : goal.returns-then-n-lt-FEWEST_DIGITS
unfolding iso2 five_digits
returns-then-n-lt-FEWEST_DIGITS c =
    let l = length_lowered c.in_ok-digits.digits.now in
    simp (sym c.in_ok-digits.ensures, lt-leb 5 (length (lowered c.in_ok-digits.digits.now)) (omega arith))

-- five digits or more: the month is the two before the last two, which are the day, and the year is what is in front
module _ (d : List ℕ) (h : 5 ≤ length d) where
  enough : leb 5 (length (lowered d)) ≡ true
  enough = let l = length_lowered d in le-leb 5 (length (lowered d)) (omega arith)

  month_part : lowered (take (length d - 2 - (length d - 4)) (drop (length d - 4) d)) ≡ slice (length (lowered d) - 4) (length (lowered d) - 2) (lowered d)
  month_part = rw (length_lowered d) (lowered_slice (length d - 4) (length d - 2) d (omega arith))

  day_part : lowered (take (length d - (length d - 2)) (drop (length d - 2) d)) ≡ drop (length (lowered d) - 2) (lowered d)
  day_part =
      let l = length_lowered d in
      rw (length_lowered d) (lowered_slice (length d - 2) (length d) d (omega arith) ∙ ap (drop (length d - 2)) (take_all (length d) (lowered d) (omega arith)))

  year_part : lowered (take (length d - 4) d) ≡ take (length (lowered d) - 4) (lowered d)
  year_part = rw (length_lowered d) (lowered_take (length d - 4) d)

pub returns-in_err-month : goal.returns-in_err-month
unfolding iso2 five_digits
returns-in_err-month c =
    let d = c.in_ok-digits.digits.now in
    let m = c.in_err-month.ensures (lowered c.args.s.now) c.in_ok-digits.end in
    rw c.from_residual-in_err-month.ensures (simp (sym c.in_ok-digits.ensures, enough d (omega arith), sym (month_part d (omega arith)), sym m))

pub returns-in_err-day : goal.returns-in_err-day
unfolding iso2 five_digits
returns-in_err-day c =
    let d = c.in_ok-digits.digits.now in
    let m = c.in_ok-month.ensures (lowered c.args.s.now) c.in_ok-digits.end in
    let v = c.in_err-day.ensures (lowered c.args.s.now) c.in_ok-digits.end in
    rw c.from_residual-in_err-day.ensures
    (simp (sym c.in_ok-digits.ensures, enough d (omega arith), sym (month_part d (omega arith)), sym m, sym (day_part d (omega arith)), sym v))

pub returns : goal.returns
unfolding iso2 five_digits
returns c =
    let d = c.in_ok-digits.digits.now in
    let m = c.in_ok-month.ensures (lowered c.args.s.now) c.in_ok-digits.end in
    let v = c.in_ok-day.ensures (lowered c.args.s.now) c.in_ok-digits.end in
    simp (sym c.in_ok-digits.ensures, enough d (omega arith), sym (month_part d (omega arith)), sym m, sym (day_part d (omega arith)), sym v, sym (year_part d (omega arith)))
    (c.with_year.ensures (lowered c.args.s.now))
