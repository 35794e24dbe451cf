-- Laws of digits as years: widening makes no year smaller, and the year is that of the number that was parsed. Assumes nothing.
use Prim.Native.Nat.{ℕ, ◌+◌, ◌<◌, ◌≤◌}
use mathlib.Core.Path.{◌≡◌, refl, sym}
use mathlib.Core.Bool.{Bool, true, false, cond}
use mathlib.Core.List.{List}
use native.Mathlib.Omega.{arith}
use lib.Dec.{leb, eqb}
use lib.ListN.{length}
use borrow.Author.Tests.{leb-true, leb-false, le-leb, lt-leb}
use Rattle.primitive.specs.Answer.{matched, none}
use Rattle.primitive.specs.Primitive.{decimal, parse_uint}
use Rattle.dates.specs.Year.{widened_by, year_from_str}

pub widened_up : (k y : ℕ) → y ≤ widened_by k y
unfolding widened_by
widened_up k y = by (eqb k 2) (leb y 68)
  where
    by : (a b : Bool) → y ≤ cond a (cond b (y + 2000) (y + 1900)) y
    by true true = omega arith
    by true false = omega arith
    by false b = omega arith

-- what a number that was parsed says of its digits
module _ (max : ℕ) (w text : List ℕ) (at : ℕ) where
  pub parsed_none : none ≡ parse_uint max w text at → max < decimal w
  unfolding parse_uint
  parsed_none = by (leb (decimal w) max) refl
    where
      by : (t : Bool) → leb (decimal w) max ≡ t → none ≡ cond t (matched (decimal w) at) none → max < decimal w
      by true p e = let z : ◌≡◌ {A = ℕ} 0 1 = cc in omega arith
      by false p e = leb-false (decimal w) max p

  pub parsed_is : (v n : ℕ) → matched v n ≡ parse_uint max w text at → (v ≡ decimal w) × (decimal w ≤ max)
  unfolding parse_uint
  parsed_is v n = by (leb (decimal w) max) refl
    where
      by : (t : Bool) → leb (decimal w) max ≡ t → matched v n ≡ cond t (matched (decimal w) at) none → (v ≡ decimal w) × (decimal w ≤ max)
      by true p e = (cc, leb-true (decimal w) max p)
      by false p e = let z : ◌≡◌ {A = ℕ} 0 1 = cc in (omega arith, omega arith)

-- the year that digits write, by the number that was parsed of them and their count
module _ (w text : List ℕ) (at : ℕ) where
  pub year_too_long : none ≡ parse_uint 4294967295 w text at → none ≡ year_from_str w text at
  unfolding year_from_str
  year_too_long e =
      let long = parsed_none 4294967295 w text at e in
      let wider = widened_up (length w) (decimal w) in
      rw (lt-leb (widened_by (length w) (decimal w)) 2147485547 (omega arith))

  module _ (v n : ℕ) (e : matched v n ≡ parse_uint 4294967295 w text at) (count : ℕ) (k : count ≡ length w) (y : ℕ) (f : y ≡ widened_by count v) where
    widened_is : widened_by (length w) (decimal w) ≡ y
    widened_is = let p = (parsed_is 4294967295 w text at v n e).0 in rw (← p, ← k) (sym f)

    pub year_over : 2147485547 < y → none ≡ year_from_str w text at
    unfolding year_from_str
    year_over h = rw (widened_is, lt-leb y 2147485547 h)

    pub year_within : y ≤ 2147485547 → matched y at ≡ year_from_str w text at
    unfolding year_from_str
    year_within h = rw (widened_is, le-leb y 2147485547 h)
