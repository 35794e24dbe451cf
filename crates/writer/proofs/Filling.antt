-- A row that is filled with digits from the last one on. Assumes nothing.
use native.Mathlib.Omega.{arith}
use Prim.Native.Nat.{ℕ, zero, suc, ◌+◌, ◌/◌, ◌%◌, ◌<◌, ◌≤◌}
use mathlib.Core.Path.{◌≡◌}
use mathlib.Core.List.{List, ◌++◌}
use lib.ListN.{length, drop, set}
use lib.Seq.{drop-cons, drop-set-lt, get_or-set_same, lt-length-set}
use Rattle.writer.specs.Writer.{fixed}
use Rattle.writer.proofs.Digits.{fixed_step}

pub filled_done : (row want : List ℕ) (i m : ℕ) → fixed i m ++ drop i row ≡ want → i ≤ 0 → row ≡ want
unfolding fixed
filled_done row want zero m h l = h
filled_done row want (suc i) m h l = absurd (omega arith)

-- the digits still to be written, in front of those that are, make the row that is wanted
pub filled_next : (row want : List ℕ) (i m : ℕ) → fixed (suc i) m ++ drop (suc i) row ≡ want → i < length row → fixed i (m / 10) ++ drop i (set row i (48 + m % 10)) ≡ want
filled_next row want i m h l = rw (drop-cons (set row i (48 + m % 10)) i 0 (lt-length-set row i (48 + m % 10) l), get_or-set_same row i (48 + m % 10) 0 l, drop-set-lt (suc i) row i (48 + m % 10) (omega arith), ← fixed_step i m (drop (suc i) row)) h
