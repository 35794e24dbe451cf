-- The laws of `decimal`: what a loop over a row of digits needs. Assumes nothing.
use borrow.Author.Rules.{rules}
use borrow.Author.Tests.{le-leb, lt-leb}
use native.Mathlib.Omega.{arith}
use Prim.Native.Nat.{ℕ, zero, suc, ◌+◌, ◌-◌, ◌*◌, ◌/◌, ◌^◌, ◌<◌, ◌≤◌}
use native.Mathlib.Nat.{pow-suc, add-mul, mul_assoc, mul_comm, add_assoc, le-mul_of_pos_right}
use mathlib.Core.Path.{◌≡◌, sym, ap, subst, ◌∙◌}
use mathlib.Core.List.{List, [], ◌∷◌, ◌++◌}
use lib.ListN.{length, get_or}
use lib.Seq.{slice, take_all}
use Rattle.primitive.specs.Answer.{matched, none}
use Rattle.primitive.specs.Text.{lower, lowered}
use Rattle.primitive.specs.Primitive.{decimal, parse_uint}
use Rattle.primitive.proofs.Lowered.{length_lowered, slice_first, slice_over}

-- the decimal value of the digits of acc with more digits behind them
pub grown : ℕ → List ℕ → ℕ
grown acc bs = acc * 10 ^ length bs + decimal bs

pub grown_zero : (bs : List ℕ) → grown 0 bs ≡ decimal bs
unfolding grown
grown_zero bs = omega arith

pub grown_none : (acc : ℕ) → grown acc [] ≡ acc
unfolding grown decimal
grown_none acc = omega arith

pub grown_cons : (acc b : ℕ) (bs : List ℕ) → grown acc (b ∷ bs) ≡ grown (acc * 10 + (b - 48)) bs
unfolding grown decimal
grown_cons acc b bs =
    let moved : acc * (10 ^ length bs * 10) ≡ acc * 10 * 10 ^ length bs = rw (mul_comm (10 ^ length bs) 10, mul_assoc acc 10 (10 ^ length bs)) in
    rw (pow-suc 10 (length bs), moved, add-mul (acc * 10) (b - 48) (10 ^ length bs)) (sym (add_assoc _ _ _))

-- one digit more at the end
grown_more : (acc b : ℕ) (bs : List ℕ) → grown acc (bs ++ (b ∷ [])) ≡ grown acc bs * 10 + (b - 48)
grown_more acc b [] = grown_cons acc b [] ∙ rw (grown_none, grown_none)
grown_more acc b (c ∷ cs) = rw (grown_cons acc c (cs ++ (b ∷ [])), grown_cons acc c cs) (grown_more (acc * 10 + (c - 48)) b cs)

pub decimal_more : (b : ℕ) (bs : List ℕ) → decimal (bs ++ (b ∷ [])) ≡ decimal bs * 10 + (b - 48)
decimal_more b bs = rw (← grown_zero bs) (sym (grown_zero (bs ++ (b ∷ []))) ∙ grown_more 0 b bs)

power_positive : (n : ℕ) → 0 < 10 ^ n
power_positive zero = omega arith
power_positive (suc n) = let h = power_positive n in rw (pow-suc 10 n) (omega arith)

-- more digits make no smaller number
grown_ge : (acc : ℕ) (bs : List ℕ) → acc ≤ grown acc bs
unfolding grown
grown_ge acc bs = let z = le-mul_of_pos_right acc (power_positive (length bs)) in omega arith

-- the value of acc with the digits from i up to `to` behind it
pub grown_from : ℕ → List ℕ → ℕ → ℕ → ℕ
grown_from acc s i to = grown acc (slice i to (lowered s))

pub grown_start : (s : List ℕ) (from to : ℕ) → grown_from 0 s from to ≡ decimal (slice from to (lowered s))
unfolding grown_from
grown_start s from to = grown_zero (slice from to (lowered s))

-- all digits
pub grown_whole : (s : List ℕ) → grown_from 0 s 0 (length s) ≡ decimal (lowered s)
grown_whole s = grown_start s 0 (length s) ∙ ap decimal (take_all (length s) (lowered s) (let l = length_lowered s in omega arith))

module _ (s : List ℕ) (acc i to : ℕ) (w : List ℕ) (inv : grown_from acc s i to ≡ decimal w) (text : List ℕ) where
  ended : (max n : ℕ) → acc ≤ max → acc ≡ decimal w → matched acc n ≡ parse_uint max w text n
  unfolding parse_uint
  ended max n h e = rw (← e, le-leb acc max h)

  pub parse_done : (max n : ℕ) → to ≤ i → acc ≤ max → matched acc n ≡ parse_uint max w text n
  unfolding grown_from
  parse_done max n h m = ended max n m (sym (grown_none acc) ∙ (rw (slice_over s i to h) at inv))

  module _ (h : i < to) (k : i < length s) (b : ℕ) (e : b ≡ lower (get_or s i 0)) (d : ℕ) (f : d ≡ b - 48) where
    pub parse_next : grown_from (acc * 10 + d) s (i + 1) to ≡ decimal w
    unfolding grown_from
    parse_next = rw (f, ← grown_cons acc b (slice (i + 1) to (lowered s)), ← slice_first s i to h k b e) inv

    pub over : (max n : ℕ) → max < acc * 10 + d → none ≡ parse_uint max w text n
    unfolding parse_uint grown_from
    over max n o =
        let g : acc * 10 + d ≤ decimal w = subst (λ (x : ℕ). acc * 10 + d ≤ x) parse_next (grown_ge (acc * 10 + d) (slice (i + 1) to (lowered s))) in
        rw (lt-leb (decimal w) max (omega arith))

    -- the two tests that keep the sum within max
    pub parse_over_digit : (max n : ℕ) → max < d → none ≡ parse_uint max w text n
    parse_over_digit max n o = over max n (omega arith)

    pub parse_over : (max n : ℕ) → (max - d) / 10 < acc → none ≡ parse_uint max w text n
    parse_over max n o = over max n (omega arith)

pub ruleset values = (grown_whole, parse_done, parse_next, parse_over_digit, parse_over, rules)
