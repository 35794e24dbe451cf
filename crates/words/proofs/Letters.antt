-- The ordinal words by their first letter: where it is known, the table of all of them gives what the table of those with that letter gives.
-- Assumes nothing.
use Rattle.std.proofs.lemmas.Bool.{eqb-false}
use Rattle.std.specs.Prelude.{Option, ℤ, pos, neg_ℤ}
use lib.Dec.{eqb}
use lib.ListN.{length, get_or, drop}
use mathlib.Core.Bool.{false}
use mathlib.Core.List.{List, [], ◌∷◌}
use mathlib.Core.Path.{◌≡◌, refl, sym, ap, ◌∙◌}
use native.Mathlib.Omega.{arith}
use Prim.Native.Nat.{ℕ}
use Prim.Native.String.{String}
use Rattle.primitive.specs.Answer.{found_at}
use Rattle.primitive.specs.Text.{lower, lowered, bytes}
use Rattle.primitive.specs.Primitive.{same, named, beside}
use Rattle.primitive.specs.Ordinal.{ordinals}
use Rattle.primitive.proofs.Lowered.{rest_cons}
use Rattle.primitive.proofs.Tables.{in_lower, in_bytes, beside_named}

-- the table of the words that begin with l
abbrev pub Beginning : ℕ → List (String × ℤ) → Type 0
Beginning l es = (w text : List ℕ) (at : ℕ) → named ordinals (l ∷ w) text at ≡ named es (l ∷ w) text at

pub by_letter : (l : ℕ) (es : List (String × ℤ)) → Beginning l es → (rows : List (List ℕ × ℤ)) → in_lower rows ≡ in_bytes es → (word : List ℕ) (r : Option ℤ)
    → r ≡ beside rows (lowered word) → eqb (length word) 0 ≡ false → l ≡ lower (get_or word 0 0) → (text : List ℕ) (at : ℕ) → found_at at r ≡ named ordinals (lowered word) text at
by_letter l es begins rows g word r q h e text at =
    let some = eqb-false (length word) 0 h in
    let z : lowered word ≡ l ∷ drop 1 (lowered word) = rest_cons word 0 (omega arith) l e in
    rw z (ap (found_at at) (rw z at q) ∙ (beside_named text at (l ∷ drop 1 (lowered word)) es rows g ∙ sym (begins (drop 1 (lowered word)) text at)))

unfoldable pub e_ordinals : List (String × ℤ)
e_ordinals = ("eighth", pos 8) ∷ ("eleventh", pos 11) ∷ []

unfoldable pub f_ordinals : List (String × ℤ)
f_ordinals = ("first", pos 1) ∷ ("fourth", pos 4) ∷ ("fifth", pos 5) ∷ []

unfoldable pub l_ordinals : List (String × ℤ)
l_ordinals = ("last", neg_ℤ (pos 1)) ∷ []

unfoldable pub n_ordinals : List (String × ℤ)
n_ordinals = ("next", pos 1) ∷ ("ninth", pos 9) ∷ []

unfoldable pub s_ordinals : List (String × ℤ)
s_ordinals = ("sixth", pos 6) ∷ ("seventh", pos 7) ∷ []

unfoldable pub t_ordinals : List (String × ℤ)
t_ordinals = ("this", pos 0) ∷ ("third", pos 3) ∷ ("tenth", pos 10) ∷ ("twelfth", pos 12) ∷ []

pub e_begins : Beginning 101 e_ordinals
unfolding named ordinals same bytes e_ordinals
e_begins w text at = refl

pub f_begins : Beginning 102 f_ordinals
unfolding named ordinals same bytes f_ordinals
f_begins w text at = refl

pub l_begins : Beginning 108 l_ordinals
unfolding named ordinals same bytes l_ordinals
l_begins w text at = refl

pub n_begins : Beginning 110 n_ordinals
unfolding named ordinals same bytes n_ordinals
n_begins w text at = refl

pub s_begins : Beginning 115 s_ordinals
unfolding named ordinals same bytes s_ordinals
s_begins w text at = refl

pub t_begins : Beginning 116 t_ordinals
unfolding named ordinals same bytes t_ordinals
t_begins w text at = refl
