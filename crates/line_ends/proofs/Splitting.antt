-- The laws of the first line's length, and of the lines of a chunk that have ended. Assumes nothing.
use native.Mathlib.Omega.{arith}
use borrow.Author.Tests.{eq-eqb, ne_eqb, eqb-true}
use Prim.Native.Nat.{ℕ, zero, suc, ◌+◌, ◌-◌, ◌<◌, ◌≤◌}
use native.Mathlib.Nat.{add-zero}
use mathlib.Core.Path.{◌≡◌, refl, sym, ap}
use mathlib.Core.Bool.{Bool, true, false, cond}
use mathlib.Core.List.{List, [], ◌∷◌}
use lib.Dec.{eqb}
use lib.ListN.{length, take, drop, get_or, drop_of_length-le}
use Rattle.std.specs.Prelude.{Option, None, Some}
use Rattle.std.specs.Option.{unwrap_or}
use Rattle.memchr.specs.Find.{IsFirstByte, is_byte}
use Rattle.line_ends.specs.Lines.{line_length, in_front_of_ended, whole_lines}

-- ---- the first byte 10, or none
line_is : (s : List ℕ) (n : ℕ) → n ≤ length s → ((k : ℕ) → k < n → get_or s k 0 ≡ 10 → ⊥) → (n < length s → get_or s n 0 ≡ 10) → line_length s ≡ n
unfolding line_length
line_is [] n h b f = omega arith
line_is (x ∷ s) zero h b f = rw (eq-eqb x 10 (f (omega arith)))
line_is (x ∷ s) (suc n) h b f = rw (ne_eqb x 10 (b 0 (omega arith))) (ap suc (line_is s n (omega arith) (λ k l. b (suc k) (omega arith)) (λ l. f (omega arith))))

-- what `memchr` finds
pub line_found : (s : List ℕ) (r : Option ℕ) → IsFirstByte (is_byte 10) s r → (unwrap_or r (length s) ≡ line_length s) × (unwrap_or r (length s) ≤ length s)
line_found s (Some n) f = (sym (line_is s n (omega (arith, f.0.high)) (λ k l e. f.0.before k (omega arith) l (eq-eqb (get_or s k 0) 10 e)) (λ l. eqb-true (get_or s n 0) 10 f.1)), omega (arith, f.0.high))
line_found s None f = (sym (line_is s (length s) (omega arith) (λ k l e. f k (omega arith) l (eq-eqb (get_or s k 0) 10 e)) (λ l. absurd (omega arith))), omega arith)

-- no line begins behind the bytes
pub outside : (s : List ℕ) (from : ℕ) → length s < from → (from ≡ from + line_length (drop from s)) × (from ≤ from) × (from ≤ from + (length s - from))
unfolding line_length
outside s from h = let l : length s ≤ from = omega arith in (rw (drop_of_length-le s l) (sym (add-zero from)), omega arith, omega arith)

-- ---- the first line of a chunk, and those behind it
pub line_inside : (s : List ℕ) → line_length s ≤ length s
unfolding line_length
line_inside [] = omega arith
line_inside (b ∷ s) = by (eqb b 10) (line_inside s) where
  by : (t : Bool) → line_length s ≤ length s → cond t 0 (suc (line_length s)) ≤ suc (length s)
  by true h = omega arith
  by false h = omega arith

pub whole_none : (s : List ℕ) → length s ≤ line_length s → whole_lines s ≡ []
unfolding line_length whole_lines in_front_of_ended
whole_none [] h = refl
whole_none (b ∷ s) h = by (eqb b 10) h (whole_none s) where
  by : (t : Bool) → suc (length s) ≤ cond t 0 (suc (line_length s)) → (length s ≤ line_length s → whole_lines s ≡ []) → cond t ([] ∷ whole_lines s) (in_front_of_ended b (whole_lines s)) ≡ []
  by true h e = absurd (omega arith)
  by false h e = rw (e (omega arith))

pub whole_more : (s : List ℕ) → line_length s < length s → whole_lines s ≡ take (line_length s) s ∷ whole_lines (drop (suc (line_length s)) s)
unfolding line_length whole_lines in_front_of_ended
whole_more [] h = absurd (omega arith)
whole_more (b ∷ s) h = by (eqb b 10) h (whole_more s) where
  by : (t : Bool) → cond t 0 (suc (line_length s)) < suc (length s) → (line_length s < length s → whole_lines s ≡ take (line_length s) s ∷ whole_lines (drop (suc (line_length s)) s)) → cond t ([] ∷ whole_lines s) (in_front_of_ended b (whole_lines s)) ≡ take (cond t 0 (suc (line_length s))) (b ∷ s) ∷ whole_lines (drop (cond t 0 (suc (line_length s))) s)
  by true h e = refl
  by false h e = rw (e (omega arith))

-- ---- a line's end that is sought in a block of 16 bytes

-- the place where the line that begins at `from` ends, sought from i on
pub record Sought (s : List ℕ) (from i : ℕ) : Type 0 where
  pub behind : from ≤ i
  pub inside : i ≤ length s
  pub same : i + line_length (drop i s) ≡ from + line_length (drop from s)

pub sought_start : (s : List ℕ) (from : ℕ) → from ≤ length s → Sought s from from
sought_start s from h = record { behind = omega arith; inside = h; same = refl }

-- j bytes of the block are looked at: where none is found, the end is sought from behind them
pub record Looked (s : List ℕ) (at j : ℕ) (found : Bool) : Type 0 where
  pub most : j ≤ 16
  pub unfound : found ≡ false → Sought s at (at + j)

pub looked_start : (s : List ℕ) (at : ℕ) → at + 16 ≤ length s → Looked s at 0 false
looked_start s at h = record { most = omega arith; unfound = λ e. rw (add-zero at) (sought_start s at (omega arith)) }
