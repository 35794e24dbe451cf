-- Rows of digits: one digit, a row behind another, and a row with no digit behind it. Assumes nothing.
use native.Mathlib.Omega.{arith}
use borrow.Author.Rules.{rules}
use Prim.Native.Nat.{ℕ, ◌+◌, ◌-◌, ◌*◌, ◌^◌, ◌<◌, ◌≤◌}
use native.Mathlib.Nat.{pow-succ', add-mul, mul_assoc, add_assoc}
use mathlib.Core.Path.{◌≡◌, refl, sym, ap, ◌∙◌}
use mathlib.Core.List.{List, [], ◌∷◌, ◌++◌, append_assoc, append-nil}
use mathlib.Core.Bool.{false}
use lib.ListN.{length, get_or, take, length-append}
use lib.Seq.{slice, length-slice, take-take}
use Rattle.primitive.specs.Text.{lowered, digit}
use Rattle.primitive.specs.Primitive.{decimal}
use Rattle.primitive.proofs.Rows.{both}
use Rattle.dates.proofs.Forms.{all_joined}
use Rattle.primitive.proofs.Values.{decimal_more}
use Rattle.primitive.proofs.Lowered.{length_lowered, get_or_lowered, digit_lower, digit_same, slice_first, slice_over}
use Rattle.text_quick.specs.Rows.{DigitOf, RowAt, Digits, Short}
use Rattle.std.specs.Prelude.{Some, None}
use Rattle.text_quick.proofs.Places.{part}

-- ---- rows

decimal_joined : (k l : List ℕ) → decimal (k ++ l) ≡ decimal k * 10 ^ length l + decimal l
unfolding decimal
decimal_joined k [] = rw append-nil (omega arith)
decimal_joined k (b ∷ l) = ap decimal (sym (append_assoc k (b ∷ []) l)) ∙ decimal_joined (k ++ (b ∷ [])) l ∙ rw (decimal_more b k, add-mul, mul_assoc, pow-succ', add_assoc)

module _ (text : List ℕ) (a b c : ℕ) {v w : ℕ} where
  -- n digits behind a row
  joined : (n : ℕ) → c ≡ b + n → Digits text a b v → Digits text b c w → Digits text a c (v * 10 ^ n + w)
  joined n h f g =
      let e : slice a c text ≡ slice a b text ++ slice b c text = part (take c text) a b f.forward ∙ rw (take-take b c text g.forward) in
      let k : length (slice b c text) ≡ n = length-slice b c text g.within ∙ omega arith in
      let long = f.number.long in
      record {
        number = rw e (record { long = rw (length-append (slice a b text) (slice b c text)) (omega arith); digits = all_joined digit (slice a b text) (slice b c text) f.number.digits g.number.digits });
        value = rw (e, decimal_joined (slice a b text) (slice b c text), k, f.value, g.value);
        forward = omega arith;
        within = g.within;
      }

module _ (s : List ℕ) (i : ℕ) (h : i < length s) where
  one_digit : {r : ℕ} → DigitOf (get_or s i 0) (Some r) → Digits (lowered s) i (i + 1) r
  unfolding decimal
  one_digit d =
      let e : slice i (i + 1) (lowered s) ≡ get_or s i 0 ∷ [] = slice_first s i (i + 1) (omega arith) h (get_or s i 0) (digit_same (get_or s i 0) d.0) ∙ rw (slice_over s (i + 1) (i + 1) (omega arith)) in
      record {
        number = rw e (record { long = omega arith; digits = both d.0 refl });
        value = rw (e, d.1) (omega arith);
        forward = omega arith;
        within = rw (length_lowered s) (omega arith);
      }

  no_digit : DigitOf (get_or s i 0) None → digit (get_or (lowered s) i 0) ≡ false
  no_digit d = rw (get_or_lowered s i, digit_lower) d

-- ---- two digits, four, nine

pub two_digits : (s : List ℕ) (at : ℕ) {a b : ℕ} → at + 2 ≤ length s → DigitOf (get_or s at 0) (Some a) → DigitOf (get_or s (at + 1) 0) (Some b) → RowAt (lowered s) at 2 (Some (a * 10 + b))
two_digits s at h d f =
    let e : at + 2 ≡ at + 1 + 1 = omega arith in
    let p = d.2 in
    let q = f.2 in
    (omega arith, joined (lowered s) at (at + 1) (at + 2) 1 e (one_digit s at (omega arith) d) (rw e (one_digit s (at + 1) (omega arith) f)))

module _ (text : List ℕ) (at : ℕ) {a b : ℕ} where
  pub four_digits : RowAt text at 2 (Some a) → RowAt text (at + 2) 2 (Some b) → RowAt text at 4 (Some (a * 100 + b))
  four_digits f g =
      let e : at + 4 ≡ at + 2 + 2 = omega arith in
      let p = f.0 in
      let q = g.0 in
      (omega arith, joined text at (at + 2) (at + 4) 2 e f.1 (rw e g.1))

  eight_digits : RowAt text at 4 (Some a) → RowAt text (at + 4) 4 (Some b) → RowAt text at 8 (Some (a * 10000 + b))
  eight_digits f g =
      let e : at + 8 ≡ at + 4 + 4 = omega arith in
      let p = f.0 in
      let q = g.0 in
      (omega arith, joined text at (at + 4) (at + 8) 4 e f.1 (rw e g.1))

pub nine_digits : (s : List ℕ) (at : ℕ) {a b c : ℕ} → at + 9 ≤ length s → RowAt (lowered s) at 4 (Some a) → RowAt (lowered s) (at + 4) 4 (Some b) → DigitOf (get_or s (at + 8) 0) (Some c) → RowAt (lowered s) at 9 (Some ((a * 10000 + b) * 10 + c))
nine_digits s at h f g d =
    let e : at + 9 ≡ at + 8 + 1 = omega arith in
    let w = eight_digits (lowered s) at f g in
    let p = w.0 in
    let q = d.2 in
    (omega arith, joined (lowered s) at (at + 8) (at + 9) 1 e w.1 (rw e (one_digit s (at + 8) (omega arith) d)))

-- ---- one digit or two, and no digit behind them

module _ (s : List ℕ) (at : ℕ) {a : ℕ} (most : 3 ≤ length s) (h : at ≤ length s - 3) (d : DigitOf (get_or s at 0) (Some a)) where
  pub one_alone : DigitOf (get_or s (at + 1) 0) None → Short (lowered s) at a (at + 1)
  one_alone e = record {
    row = one_digit s at (omega arith) d;
    small = let z = d.2 in omega arith;
    near = omega arith;
    more = rw (length_lowered s) (omega arith);
    ends = no_digit s (at + 1) (omega arith) e;
  }

  pub two_alone : {b : ℕ} → DigitOf (get_or s (at + 1) 0) (Some b) → DigitOf (get_or s (at + 2) 0) None → Short (lowered s) at (a * 10 + b) (at + 2)
  two_alone e f =
      let w = two_digits s at (omega arith) d e in
      record {
        row = w.1;
        small = let z = w.0 in omega arith;
        near = omega arith;
        more = rw (length_lowered s) (omega arith);
        ends = no_digit s (at + 2) (omega arith) f;
      }

pub ruleset rows = (two_digits, four_digits, nine_digits, one_alone, two_alone, rules)
