-- `year_from_str` is its definition's test: a number too large for a u32 is past the last year. Assumes nothing.
use native.Mathlib.Omega.{arith}
use mathlib.Core.Path.{sym}
use mathlib.Core.List.{[]}
use Rattle.dates.proofs.Years.{parsed_is, year_too_long, year_over, year_within}
use Rattle.primitive.proofs.Lowered.{length_lowered}
use Rattle.date_parts.proofs.year.year_from_str.Goals as goal

pub returns-in_err-year : goal.returns-in_err-year
returns-in_err-year c = λ text at. rw c.from_residual.ensures (year_too_long _ _ _ (c.in_err-year.ensures text at))

pub widen-year-requires : goal.widen-year-requires
widen-year-requires c = let parsed = parsed_is _ _ _ _ _ _ (c.in_ok-year.ensures [] 0) in omega arith

pub returns-then-year-from : goal.returns-then-year-from
returns-then-year-from c =
    λ text at. year_over _ _ _ _ _ (c.in_ok-year.ensures text at) _ (sym (length_lowered c.args.digits.now)) _ c.widen-year.ensures (omega arith)

pub returns : goal.returns
returns c =
    λ text at. year_within _ _ _ _ _ (c.in_ok-year.ensures text at) _ (sym (length_lowered c.args.digits.now)) _ c.widen-year.ensures (omega arith)
