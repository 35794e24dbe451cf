-- The ordinal words by their first letter: a word that begins with another letter is none. Assumes nothing.
use borrow.Author.Rules.{rules}
use borrow.Author.Tests.{ne_eqb}
use Rattle.std.proofs.lemmas.Bool.{eqb-false}
use native.Mathlib.Omega.{arith}
use Prim.Native.Nat.{ℕ}
use mathlib.Core.Path.{◌≡◌, refl}
use mathlib.Core.List.{List, [], ◌∷◌}
use mathlib.Core.Bool.{false}
use lib.Dec.{eqb}
use lib.ListN.{length, get_or, drop}
use Rattle.primitive.specs.Answer.{none}
use Rattle.primitive.specs.Text.{lower, lowered, bytes}
use Rattle.primitive.specs.Primitive.{same, named}
use Rattle.primitive.specs.Ordinal.{ordinals}
use Rattle.primitive.proofs.Lowered.{rest_cons}

pub no_word : (word text : List ℕ) (at : ℕ) → length word ≡ 0 → none ≡ named ordinals (lowered word) text at
unfolding named ordinals same bytes lowered
no_word [] text at e = refl
no_word (b ∷ bs) text at e = absurd (omega arith)

pub other_letter : (word : List ℕ) → eqb (length word) 0 ≡ false → (b : ℕ) → b ≡ lower (get_or word 0 0)
    → (b ≡ 101 → ⊥) → (b ≡ 102 → ⊥) → (b ≡ 108 → ⊥) → (b ≡ 110 → ⊥) → (b ≡ 115 → ⊥) → (b ≡ 116 → ⊥)
    → (text : List ℕ) (at : ℕ) → none ≡ named ordinals (lowered word) text at
unfolding named ordinals same bytes
other_letter word h b e p f l n s t text at =
    let some = eqb-false (length word) 0 h in
    let first : lowered word ≡ b ∷ drop 1 (lowered word) = rest_cons word 0 (omega arith) b e in
    rw (first, ne_eqb b 101 p, ne_eqb b 102 f, ne_eqb b 108 l, ne_eqb b 110 n, ne_eqb b 115 s, ne_eqb b 116 t)

pub ruleset ordinal_letters = (no_word, other_letter, rules)
