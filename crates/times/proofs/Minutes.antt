-- A number that is no hour or minute, read for another limit or as seconds. Assumes nothing.
use borrow.Author.Tests.{le-ltb, leb-false, ltb-true, ltb-false}
use native.Mathlib.Omega.{arith}
use Prim.Native.Nat.{ℕ, ◌≤◌}
use mathlib.Core.Path.{◌≡◌, refl, sym}
use mathlib.Core.List.{List, [], ◌∷◌}
use mathlib.Core.Logic.{◌⊎◌, inl, inr}
use mathlib.Core.Bool.{Bool, true, false, cond}
use lib.Dec.{ltb, leb}
use lib.Seq.{slice}
use Rattle.primitive.specs.Answer.{Answer, matched, dropped, none, stop, drops, carry, and_then, or_else, verify}
use Rattle.primitive.specs.Text.{digit, past, some, tag}
use Rattle.primitive.specs.Primitive.{space, decimal, parse_uint, dec_uint_str, dec_uint}
use Rattle.primitive.specs.Epoch.{point_or_comma, lost, fraction, sec_and_nsec}
use Rattle.primitive.specs.declared.SecAndNsec.{SecAndNsec}
use Rattle.primitive.proofs.Lowered.{clash}
use Rattle.relative.proofs.Fronts.{narrower}
use Rattle.times.specs.Time.{below, minute, second}

-- a number is there or not
number_read : (text : List ℕ) (at max : ℕ) → (dec_uint max text at ≡ none) ⊎ ((v : ℕ) × (n : ℕ) × (dec_uint max text at ≡ matched v n))
unfolding dec_uint parse_uint dec_uint_str some
number_read text at max = go (ltb at (past digit text at))
  where
    within : (u : Bool) → (cond u (matched (decimal (slice at (past digit text at) text)) (past digit text at)) none ≡ none)
        ⊎ ((v : ℕ) × (n : ℕ) × (cond u (matched (decimal (slice at (past digit text at) text)) (past digit text at)) none ≡ matched v n))
    within true = inr (_, _, refl)
    within false = inl refl

    go : (t : Bool) → (and_then (cond t (matched (slice at (past digit text at) text) (past digit text at)) none) (λ w m. cond (leb (decimal w) max) (matched (decimal w) m) none) ≡ none)
        ⊎ ((v : ℕ) × (n : ℕ) × (and_then (cond t (matched (slice at (past digit text at) text) (past digit text at)) none) (λ w m. cond (leb (decimal w) max) (matched (decimal w) m) none) ≡ matched v n))
    go true = within (leb (decimal (slice at (past digit text at) text)) max)
    go false = inl refl

module _ (text : List ℕ) (at k j : ℕ) where
  pub below_other : (h n : ℕ) → matched h n ≡ below k text at → below j text at ≡ cond (ltb h j) (matched h n) none
  unfolding below
  below_other h n e = go (number_read text (space text at) 255)
    where
      same : (v m : ℕ) (t : Bool) → matched h n ≡ cond t (matched v m) none → cond (ltb v j) (matched v m) none ≡ cond (ltb h j) (matched h n) none
      same v m true f = let x : h ≡ v = cc in let y : n ≡ m = cc in rw (x, y)
      same v m false f = let z : ◌≡◌ {A = ℕ} 0 1 = cc in absurd (clash z)

      go : (dec_uint 255 text (space text at) ≡ none) ⊎ ((v : ℕ) × (n : ℕ) × (dec_uint 255 text (space text at) ≡ matched v n)) → below j text at ≡ cond (ltb h j) (matched h n) none
      go (inl q) = let f : ◌≡◌ {A = Answer ℕ} (matched h n) none = rw q at e in let z : ◌≡◌ {A = ℕ} 0 1 = cc in absurd (clash z)
      go (inr (v, m, q)) = rw q (same v m (ltb v k) (rw q at e))

  pub below_fewer : j ≤ k → none ≡ below k text at → below j text at ≡ none
  unfolding below
  below_fewer h e = go (number_read text (space text at) 255)
    where
      over : (v m : ℕ) (t : Bool) → ltb v k ≡ t → ◌≡◌ {A = Answer ℕ} none (cond t (matched v m) none) → cond (ltb v j) (matched v m) none ≡ none
      over v m true g f = let z : ◌≡◌ {A = ℕ} 0 1 = cc in absurd (clash z)
      over v m false g f = let l = ltb-false v k g in rw (le-ltb v j (omega arith))

      go : (dec_uint 255 text (space text at) ≡ none) ⊎ ((v : ℕ) × (n : ℕ) × (dec_uint 255 text (space text at) ≡ matched v n)) → below j text at ≡ none
      go (inl q) = rw q
      go (inr (v, m, q)) = rw q (over v m (ltb v k) refl (rw q at e))

pub below_read : (text : List ℕ) (at k : ℕ) → (below k text at ≡ none) ⊎ ((v : ℕ) × (n : ℕ) × (below k text at ≡ matched v n))
unfolding below
below_read text at k = go (number_read text (space text at) 255)
  where
    within : (v n : ℕ) (t : Bool) → (cond t (matched v n) none ≡ none) ⊎ ((w : ℕ) × (m : ℕ) × (cond t (matched v n) none ≡ matched w m))
    within v n true = inr (v, n, refl)
    within v n false = inl refl

    go : (dec_uint 255 text (space text at) ≡ none) ⊎ ((v : ℕ) × (n : ℕ) × (dec_uint 255 text (space text at) ≡ matched v n)) → (below k text at ≡ none) ⊎ ((v : ℕ) × (n : ℕ) × (below k text at ≡ matched v n))
    go (inl q) = inl (rw q)
    go (inr (v, n, q)) = rw q (within v n (ltb v k))

-- ---- seconds

-- an answer that is no stop
abbrev Goes : {A : Type 0} → Answer A → Type 0
Goes (matched v n) = Unit {0}
Goes (dropped v n) = Unit {0}
Goes none = Unit {0}
Goes stop = ⊥

goes_then : {A B : Type 0} (a : Answer A) (f : A → ℕ → Answer B) → Goes a → ((v : A) (n : ℕ) → Goes (f v n)) → Goes (and_then a f)
goes_then (matched v n) f h k = k v n
goes_then (dropped v n) f h k = go (f v n) (k v n)
  where
    go : {A : Type 0} (a : Answer A) → Goes a → Goes (drops a)
    go (matched v n) h = tt
    go (dropped v n) h = tt
    go none h = tt
    go stop h = h
goes_then none f h k = tt
goes_then stop f h k = absurd h

goes_or : {A : Type 0} (a b : Answer A) → Goes a → Goes b → Goes (or_else a b)
goes_or (matched v n) b h k = tt
goes_or (dropped v n) b h k = tt
goes_or none b h k = k
goes_or stop b h k = h

goes_test : {A : Type 0} (t : Bool) (v : A) (n : ℕ) → Goes (cond t (matched v n) none)
goes_test true v n = tt
goes_test false v n = tt

goes_carry : {A : Type 0} (t : Bool) (v : A) (n : ℕ) → Goes (carry t (matched v n))
goes_carry true v n = tt
goes_carry false v n = tt

fraction_goes : (text : List ℕ) (at : ℕ) → Goes (fraction text at)
unfolding fraction point_or_comma tag dec_uint_str some
fraction_goes text at =
    goes_then (point_or_comma text at) _ (goes_or (tag (46 ∷ []) text at) (tag (44 ∷ []) text at) (goes_test _ _ _) (goes_test _ _ _))
    (λ u m. goes_then (dec_uint_str text m) _ (goes_test _ _ _) (λ ds n. goes_carry (lost ds) _ n))

abbrev seconds_of : ℕ → ℕ → SecAndNsec ℕ
seconds_of sec nsec = record { sec = sec; nsec = nsec }

-- what is no minute is no second
pub minute_second : (text : List ℕ) (at : ℕ) → none ≡ minute text at → second text at ≡ none
unfolding minute below second sec_and_nsec
minute_second text at e = go (number_read text (space text at) 18446744073709551615)
  where
    above : (v n : ℕ) (t u : Bool) → leb v 255 ≡ t → ltb v 60 ≡ u → ◌≡◌ {A = Answer ℕ} none (and_then (cond t (matched v n) none) (λ v n. cond (ltb v 60) (matched v n) none)) → ltb v 60 ≡ false
    above v n true true f g h = let z : ◌≡◌ {A = Answer ℕ} none (matched v n) = rw g at h in let y : ◌≡◌ {A = ℕ} 0 1 = cc in absurd (clash y)
    above v n false true f g h = let l = leb-false v 255 f in let m = ltb-true v 60 g in absurd (omega arith)
    above v n t false f g h = g

    after : (v n : ℕ) → ltb v 60 ≡ false → (a : Answer ℕ) → Goes a → and_then (and_then (or_else a (matched 0 n)) (λ nsec m. matched (seconds_of v nsec) m)) (λ w m. verify (ltb w.sec 60) (seconds_of w.sec w.nsec) text m) ≡ none
    after v n f (matched w m) h = rw f
    after v n f (dropped w m) h = rw f
    after v n f none h = rw f
    after v n f stop h = absurd h

    go : (dec_uint 18446744073709551615 text (space text at) ≡ none) ⊎ ((v : ℕ) × (n : ℕ) × (dec_uint 18446744073709551615 text (space text at) ≡ matched v n)) → second text at ≡ none
    go (inl q) = rw q
    go (inr (v, n, q)) =
        let h = narrower text (space text at) 18446744073709551615 255 v n (sym q) in
        let f = above v n (leb v 255) (ltb v 60) refl refl (rw h at e) in
        rw q (after v n f (fraction text n) (fraction_goes text n))
