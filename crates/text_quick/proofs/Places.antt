-- A text from a place on: a part of it and what stands behind the part, a byte and what stands behind the byte. Assumes nothing.
use Prim.Native.Nat.{ℕ, zero, suc, ◌+◌, ◌<◌, ◌≤◌}
use native.Mathlib.Omega.{arith}
use native.Mathlib.Nat.{le_of_suc-le-suc}
use native.Mathlib.Numerals.{add-one}
use mathlib.Core.Path.{◌≡◌, refl, sym, ◌∙◌}
use mathlib.Core.List.{List, [], ◌∷◌, ◌++◌}
use lib.ListN.{length, get_or, drop, take-append-drop}
use lib.Seq.{slice, drop-cons}
use Rattle.primitive.specs.Text.{lower, lowered}
use Rattle.primitive.proofs.Lowered.{length_lowered, get_or_lowered}
use Rattle.primitive.proofs.Leaves.{head}

pub part : (text : List ℕ) (a b : ℕ) → a ≤ b → drop a text ≡ slice a b text ++ drop b text
part text zero b h = sym (take-append-drop b text)
part [] (suc a) zero h = refl
part [] (suc a) (suc b) h = refl
part (x ∷ xs) (suc a) zero h = absurd (omega arith)
part (x ∷ xs) (suc a) (suc b) h = part xs a b (le_of_suc-le-suc h)

-- a byte of a text, and the text behind it
pub byte_there : (text : List ℕ) (i : ℕ) → i < length text → drop i text ≡ get_or text i 0 ∷ drop (i + 1) text
byte_there text i h = rw add-one (drop-cons text i 0 h)

-- a byte that the code saw, where it is its own lower case
pub mark : (s : List ℕ) (i b : ℕ) → i < length s → get_or s i 0 ≡ b → lower b ≡ b → drop i (lowered s) ≡ b ∷ drop (i + 1) (lowered s)
mark s i b h e l = let g : i < length (lowered s) = rw (length_lowered s) h in byte_there (lowered s) i g ∙ rw (get_or_lowered s i, e, l)

pub head_drop : (text : List ℕ) (i : ℕ) → head (drop i text) ≡ get_or text i 0
head_drop [] zero = refl
head_drop (x ∷ xs) zero = refl
head_drop [] (suc i) = refl
head_drop (x ∷ xs) (suc i) = head_drop xs i
