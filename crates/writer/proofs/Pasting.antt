-- A text that is built by parts, and its bytes put one after the other to the front of a place. Assumes nothing.
use native.Mathlib.Omega.{arith}
use native.Mathlib.Nat.{zero-add}
use native.Mathlib.Numerals.{add-one}
use Prim.Native.Nat.{ℕ, ◌+◌, ◌<◌, ◌≤◌}
use mathlib.Core.Path.{◌≡◌, sym, ap, ◌∙◌}
use mathlib.Core.List.{List, [], ◌∷◌, ◌++◌}
use Rattle.std.proofs.lemmas.List.{append_assoc, append-nil}
use lib.ListN.{length, take, get_or, set}
use lib.Seq.{length-take-le, paste, paste-suc}
use Rattle.writer.specs.Writer.{fixed, field, over}

-- the text u is t with the k bytes w behind it
pub record Longer (t w : List ℕ) (k : ℕ) (u : List ℕ) : Type 0 where
  pub text : u ≡ t ++ w
  pub length : length u ≡ length t + k

pub with_field : {t u v : List ℕ} (b k n : ℕ) → Longer t (b ∷ []) 1 u → Longer u (fixed k n) k v → Longer t (field b k n []) (k + 1) v
with_field {t} b k n f g = record {
  text = g.text ∙ rw (f.text, append_assoc t (b ∷ []) (fixed k n), append-nil (fixed k n));
  length = omega (arith, f.length, g.length);
}

pub pasted_next : (out₀ out bytes : List ℕ) (i : ℕ) → out ≡ paste out₀ 0 bytes i → i < length out₀ → i < length bytes → set out i (get_or bytes i 0) ≡ paste out₀ 0 bytes (i + 1)
pasted_next out₀ out bytes i e h g = rw (e, add-one i) (ap (λ (k : ℕ). set (paste out₀ 0 bytes i) k (get_or bytes i 0)) (sym (zero-add i)) ∙ paste-suc out₀ 0 bytes i 0 (omega arith) g)

pub pasted_done : (out₀ out bytes : List ℕ) (n i : ℕ) → out ≡ paste out₀ 0 bytes i → i ≡ n → n ≤ length bytes → out ≡ over (take n bytes) out₀
pasted_done out₀ out bytes n i e h g = e ∙ rw (h, length-take-le n bytes g, zero-add n)
