-- Numbers of so many digits: what is written is read back, and what is read is written again. Assumes nothing.
use native.Mathlib.Omega.{arith}
use Prim.Native.Nat.{ℕ, zero, suc, ◌+◌, ◌-◌, ◌*◌, ◌/◌, ◌%◌, ◌<◌, ◌≤◌}
use mathlib.Core.Path.{◌≡◌, refl}
use mathlib.Core.Bool.{true}
use mathlib.Core.List.{List, [], ◌∷◌, ◌++◌}
use lib.ListN.{length, get_or, take}
use lib.Seq.{take-suc}
use Rattle.primitive.specs.Text.{digit}
use Rattle.writer.specs.Writer.{fixed}
use Rattle.text_profile.specs.Forms.{number}
use Rattle.text_profile.proofs.Forms.{digit_value, number_next}

-- the bytes from a place on, so many
abbrev pub places : List ℕ → ℕ → ℕ → List ℕ
places t at zero = []
places t at (suc n) = places t at n ++ (get_or t (at + n) 0 ∷ [])

pub whole : (t : List ℕ) (n : ℕ) → n ≤ length t → take n t ≡ places t 0 n
whole t zero h = refl
whole t (suc n) h =
    let e : 0 + n ≡ n = omega arith in
    rw (e, ← whole t n (omega arith)) (take-suc t n 0 (omega arith))

-- digits that are read are written again
pub written_again : (t : List ℕ) (at n : ℕ) → at + n ≤ length t → ((i : ℕ) → i < n → digit (get_or t (at + i) 0) ≡ true) → fixed n (number t at n) ≡ places t at n
unfolding fixed
written_again t at zero l h = refl
written_again t at (suc n) l h =
    let b = get_or t (at + n) 0 in
    let v = digit_value b (h n (omega arith)) in
    let m = number t at n in
    let q : (m * 10 + (b - 48)) / 10 ≡ m = omega arith in
    let r : 48 + (m * 10 + (b - 48)) % 10 ≡ b = omega arith in
    rw (number_next t at n (omega arith), q, r, written_again t at n (omega arith) (λ i k. h i (omega arith))) refl
