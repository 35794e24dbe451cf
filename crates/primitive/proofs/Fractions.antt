-- The laws of `nanoseconds`, for the loop over nine digits, whose sum stays below 10 to the power of the digits passed; and those of
-- `lost`, for the loop over the digits after them. Assumes nothing.
use borrow.Author.Rules.{rules}
use borrow.Author.Tests.{leb-true, ne_eqb}
use native.Mathlib.Omega.{arith}
use Prim.Native.Nat.{ℕ, zero, suc, ◌+◌, ◌-◌, ◌*◌, ◌^◌, ◌<◌, ◌≤◌}
use native.Mathlib.Nat.{pow-suc, pow-le-pow_right}
use native.Mathlib.Numerals.{add-one}
use mathlib.Core.Path.{◌≡◌, refl, sym, ap, ◌∙◌}
use mathlib.Core.List.{List, [], ◌∷◌}
use mathlib.Core.Bool.{Bool, true, false, ◌&&◌, cond}
use lib.ListN.{length, get_or, take, drop}
use lib.Seq.{slice, length-take-le}
use lib.Dec.{ltb, leb}
use Rattle.primitive.specs.Answer.{matched, none}
use Rattle.primitive.specs.Text.{lower, lowered, digit, run, past, some}
use Rattle.primitive.specs.Primitive.{dec_uint_str}
use Rattle.primitive.specs.Epoch.{zero_filled, nanoseconds, nonzero, lost}
use Rattle.primitive.proofs.Lowered.{clash, digit_lower, digit_same, get_or_lowered, length_lowered, rest_cons, rest_none}
use Rattle.primitive.proofs.Forward.{run_le}
use Rattle.primitive.proofs.Limits.{slice_take}
use Rattle.primitive.proofs.Values.{grown, grown_zero, grown_none, grown_cons}
use Rattle.primitive.proofs.Tags.{lowers_alone}
use Rattle.primitive.proofs.Chain.{chain}

-- a run, taken alone, is a run to its end
run_take : (p : ℕ → Bool) (l : List ℕ) → run p (take (run p l) l) ≡ run p l
unfolding run
run_take p [] = refl
run_take p (b ∷ bs) = go (p b) refl (run_take p bs)
  where
    go : (t : Bool) → p b ≡ t → run p (take (run p bs) bs) ≡ run p bs → run p (take (cond t (suc (run p bs)) 0) (b ∷ bs)) ≡ cond t (suc (run p bs)) 0
    go true e f = rw e (ap suc f)
    go false e f = refl

-- all bytes of digits that were read are digits
pub str_digits : (text : List ℕ) (at n : ℕ) (d : List ℕ) → matched (lowered d) n ≡ dec_uint_str text at → run digit (lowered d) ≡ length d
unfolding dec_uint_str some past
str_digits text at n d = go (ltb at (at + run digit (drop at text)))
  where
    go : (t : Bool) → matched (lowered d) n ≡ cond t (matched (slice at (at + run digit (drop at text)) text) (at + run digit (drop at text))) none → run digit (lowered d) ≡ length d
    go true f =
        let w : lowered d ≡ slice at (at + run digit (drop at text)) text = cc in
        let z : lowered d ≡ take (run digit (drop at text)) (drop at text) = w ∙ slice_take at (run digit (drop at text)) text in
        let r : run digit (lowered d) ≡ run digit (drop at text) = ap (run digit) z ∙ run_take digit (drop at text) in
        r ∙ (sym (length-take-le (run digit (drop at text)) (drop at text) (run_le digit (drop at text))) ∙ (ap length (sym z) ∙ length_lowered d))
    go false f = let z : ◌≡◌ {A = ℕ} 0 1 = cc in absurd (clash z)

-- every byte of a run passes its test
run_passes : (p : ℕ → Bool) (l : List ℕ) (k : ℕ) → k < run p l → p (get_or l k 0) ≡ true
unfolding run
run_passes p [] k h = absurd (omega arith)
run_passes p (b ∷ bs) zero h = go (p b) refl h
  where
    go : (t : Bool) → p b ≡ t → 0 < cond t (suc (run p bs)) 0 → p b ≡ true
    go true e h = e
    go false e h = absurd (omega arith)
run_passes p (b ∷ bs) (suc k) h = run_passes p bs k (go (p b) h)
  where
    go : (t : Bool) → suc k < cond t (suc (run p bs)) 0 → k < run p bs
    go true h = omega arith
    go false h = omega arith

-- a byte of a row of digits is worth at most 9
module _ (s : List ℕ) (e : run digit (lowered s) ≡ length s) (k : ℕ) (h : k < length s) where
  is_digit : digit (lower (get_or s k 0)) ≡ true
  is_digit = rw (← get_or_lowered s k) (run_passes digit (lowered s) k (omega arith))

  -- so that the byte itself can be taken
  pub digit_itself : get_or s k 0 ≡ lower (get_or s k 0)
  digit_itself = digit_same (get_or s k 0) (sym (digit_lower (get_or s k 0)) ∙ is_digit)

  pub digit_range : (48 ≤ get_or s k 0) × (get_or s k 0 - 48 ≤ 9)
  unfolding digit
  digit_range = go (leb 48 (get_or s k 0)) refl (leb (get_or s k 0) 57) refl (sym (digit_lower (get_or s k 0)) ∙ is_digit)
    where
      go : (t : Bool) → leb 48 (get_or s k 0) ≡ t → (u : Bool) → leb (get_or s k 0) 57 ≡ u → (t && u) ≡ true → (48 ≤ get_or s k 0) × (get_or s k 0 - 48 ≤ 9)
      go true e true f g = let z = leb-true (get_or s k 0) 57 f in (leb-true 48 (get_or s k 0) e, omega arith)
      go true e false f g = let z : ◌≡◌ {A = ℕ} 0 1 = cc in absurd (clash z)
      go false e u f g = let z : ◌≡◌ {A = ℕ} 0 1 = cc in absurd (clash z)

-- the value of acc with k digits passed and the rest of nine behind it: those of s from the k-th on, and zeros
pub nano_from : ℕ → List ℕ → ℕ → ℕ
nano_from acc s k = grown acc (zero_filled (9 - k) (drop k (lowered s)))

pub nano_start : (s : List ℕ) → nano_from 0 s 0 ≡ nanoseconds (lowered s)
unfolding nano_from nanoseconds
nano_start s = grown_zero (zero_filled 9 (lowered s))

module _ (s : List ℕ) (acc k v : ℕ) (inv : nano_from acc s k ≡ v) where
  pub nano_done : 9 ≤ k → acc ≡ v
  unfolding nano_from zero_filled
  nano_done h = let z : 9 - k ≡ 0 = omega arith in sym (grown_none acc) ∙ (rw z at inv)

  module _ (h : k < 9) where
    one_left : 9 - k ≡ suc (9 - (k + 1))
    one_left = omega arith

    -- no digit is left: a zero
    pub nano_zero : length s ≤ k → nano_from (acc * 10) s (k + 1) ≡ v
    unfolding nano_from zero_filled
    nano_zero g =
        let z : grown acc (48 ∷ zero_filled (9 - (k + 1)) []) ≡ v = rw (one_left, rest_none s k g) at inv in
        let y : acc * 10 ≡ acc * 10 + (48 - 48) = omega arith in
        rw (rest_none s (k + 1) (omega arith), y, ← grown_cons acc 48 (zero_filled (9 - (k + 1)) [])) z

    pub nano_digit : k < length s → (b d : ℕ) → b ≡ lower (get_or s k 0) → d ≡ b - 48 → nano_from (acc * 10 + d) s (k + 1) ≡ v
    unfolding nano_from zero_filled
    nano_digit g b d e f =
        let z : grown acc (b ∷ zero_filled (9 - (k + 1)) (drop (k + 1) (lowered s))) ≡ v = rw (one_left, rest_cons s k g b e) at inv in
        rw (f, ← grown_cons acc b (zero_filled (9 - (k + 1)) (drop (k + 1) (lowered s)))) z

-- the sum stays small
module _ (acc k : ℕ) (b : acc < 10 ^ k) (h : k < 9) where
  pub small : acc < 100000000
  small = let z = pow-le-pow_right {n = 10} (omega arith) {i = k} {j = 8} (omega arith) in omega arith

  pub next_small : (d : ℕ) → d ≤ 9 → acc * 10 + d < 10 ^ (k + 1)
  next_small d g = rw (add-one, pow-suc 10 k) (omega arith)

-- ---- the digits after the ninth

pub lost_start : (s : List ℕ) → nonzero (drop 9 (lowered s)) ≡ lost (lowered s)
unfolding lost
lost_start s = refl

module _ (s : List ℕ) (i : ℕ) (inv : nonzero (drop i (lowered s)) ≡ lost (lowered s)) where
  pub lost_none : length s ≤ i → false ≡ lost (lowered s)
  unfolding nonzero
  lost_none h = rw (rest_none s i h) at inv

  module _ (h : i < length s) where
    -- the rest with the byte as it stands
    rest_here : drop i (lowered s) ≡ lower (get_or s i 0) ∷ drop (i + 1) (lowered s)
    rest_here = rest_cons s i h (lower (get_or s i 0)) refl

    pub lost_found : (get_or s i 0 ≡ 48 → ⊥) → true ≡ lost (lowered s)
    unfolding nonzero
    lost_found g = rw (rest_here, ← lowers_alone (get_or s i 0) 48 false (omega arith) (sym (ne_eqb (get_or s i 0) 48 g))) at inv

    pub lost_next : get_or s i 0 ≡ 48 → nonzero (drop (i + 1) (lowered s)) ≡ lost (lowered s)
    unfolding nonzero lower
    lost_next g = rw (rest_here, g) at inv

pub ruleset losing = (lost_start, lost_none, lost_found, lost_next, rules)

pub ruleset fractions = (str_digits, nano_start, nano_done, nano_zero, nano_digit, next_small, chain)
