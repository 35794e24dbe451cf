-- The words of a table: each that stands in it has its value, where no two of its words are the same, and any other is no match. That a
-- table is such is computed. Assumes nothing.
use native.Mathlib.Omega.{arith}
use Prim.Native.Nat.{ℕ, zero, suc, ◌<◌}
use Prim.Native.String.{String}
use borrow.Author.Tests.{eq-eqb, not-true}
use mathlib.Core.Path.{◌≡◌, refl, ap, ◌∙◌}
use mathlib.Core.List.{List, [], ◌∷◌, Memᴰ}
use mathlib.Core.Bool.{Bool, true, ◌&&◌, not}
use lib.ListN.{length, get_or}
use Rattle.primitive.specs.Answer.{none, matched}
use Rattle.primitive.specs.Text.{bytes}
use Rattle.primitive.specs.Primitive.{same, named}
use Rattle.primitive.proofs.Walk.{Reads, Fails}
use Rattle.primitive.proofs.Rows.{halves}

-- whether each entry passes a test
abbrev pub every : {A : Type 0} → (A → Bool) → List A → Bool
every p [] = true
every p (e ∷ es) = p e && every p es

pub every_one : {A : Type 0} (p : A → Bool) {e : A} {es : List A} → every p es ≡ true → Memᴰ e es → p e ≡ true
every_one p {es = []} h m = elim m [ ]
every_one p {es = x ∷ xs} h (Memᴰ.head z) = ap p z ∙ (halves (p x) (every p xs) h).0
every_one p {es = x ∷ xs} h (Memᴰ.tail m) = every_one p (halves (p x) (every p xs) h).1 m

-- the entry at a place
pub entry : {A : Type 0} (d : A) (es : List A) (i : ℕ) → i < length es → Memᴰ (get_or es i d) es
entry d [] i h = absurd (omega arith)
entry d (x ∷ xs) zero h = Memᴰ.head refl
entry d (x ∷ xs) (suc i) h = Memᴰ.tail (entry d xs i (omega arith))

-- a word that the table does not have
unfoldable pub lacks : {A : Type 0} → List (String × A) → List ℕ → Bool
lacks [] w = true
lacks (e ∷ es) w = not (same w (bytes e.0)) && lacks es w

not_found : {A : Type 0} (w text : List ℕ) (at : ℕ) (es : List (String × A)) → lacks es w ≡ true → named es w text at ≡ none
unfolding lacks named
not_found w text at [] h = refl
not_found w text at (x ∷ xs) h = let t = halves (not (same w (bytes x.0))) (lacks xs w) h in rw (not-true (same w (bytes x.0)) t.0) (not_found w text at xs t.1)

pub not_named : {A : Type 0} (es : List (String × A)) (w : List ℕ) → lacks es w ≡ true → (m : List ℕ) → Fails (named es w) m
not_named es w h m = record { fails = λ text at e. not_found w text at es h }

-- no two words of the table are the same
unfoldable pub distinct : {A : Type 0} → List (String × A) → Bool
distinct [] = true
distinct (x ∷ xs) = every (λ e. not (same (bytes e.0) (bytes x.0))) xs && distinct xs

same_itself : (w : List ℕ) → same w w ≡ true
unfolding same
same_itself [] = refl
same_itself (b ∷ bs) = rw (eq-eqb b b refl) (same_itself bs)

found : {A : Type 0} (text : List ℕ) (at : ℕ) {e : String × A} {es : List (String × A)} → distinct es ≡ true → Memᴰ e es → named es (bytes e.0) text at ≡ matched e.1 at
unfolding distinct named
found text at {es = []} h m = elim m [ ]
found text at {es = x ∷ xs} h (Memᴰ.head z) = rw (z, same_itself (bytes x.0))
found text at {e} {es = x ∷ xs} h (Memᴰ.tail m) =
    let t = halves (every (λ d. not (same (bytes d.0) (bytes x.0))) xs) (distinct xs) h in
    rw (not-true (same (bytes e.0) (bytes x.0)) (every_one _ t.0 m)) (found text at t.1 m)

-- every word of such a table
pub table_read : {A : Type 0} (es : List (String × A)) → distinct es ≡ true → {e : String × A} → Memᴰ e es → (l : List ℕ) → Reads (named es (bytes e.0)) l e.1 l
table_read es h m l = record { reads = λ text at k. (at, found text at h m, k) }
