-- What `from_fn` makes by a closure that no call changes: at each place the closure's answer. Assumes nothing.
use Prim.Native.Nat.{ℕ, zero, suc, ◌+◌, ◌<◌}
use mathlib.Core.Path.{◌≡◌, refl, subst, ap, sym, ◌∙◌}
use native.Mathlib.Omega.{arith}
use lib.ListN.{get_or}
use Rattle.std.specs.Prelude.{List}
use Rattle.std.specs.Array.{IsFromFnResultFrom, IsFromFnResult}
use Rattle.std.specs.Fn.{Mut, Called}

module _ {F B : Type 0} (g : Mut F (ℕ × Unit {0}) B) (value : ℕ → B) (f : F) (answers : (i : ℕ) (y : B) (q : F) → Called g f (i, tt) y q → (y ≡ value i) × (q ≡ f)) where
  made_from : (n i : ℕ) (p : F) (ys : List B) → p ≡ f → IsFromFnResultFrom g p ys i n → (k at : ℕ) (e : B) → k < n → at ≡ i + k → get_or ys at e ≡ value at
  made_from zero i p ys same made k at e below place = absurd (omega (arith, below))
  made_from (suc n) i p ys same made zero at e below place =
      let one = answers i made.1 made.0 (subst (λ (x : F). Called g x (i, tt) made.1 made.0) same made.3) in
      let here : at ≡ i = omega (arith, place) in
      ap (λ (j : ℕ). get_or ys j e) here ∙ made.2.1 e ∙ one.0 ∙ ap value (sym here)
  made_from (suc n) i p ys same made (suc k) at e below place =
      let one = answers i made.1 made.0 (subst (λ (x : F). Called g x (i, tt) made.1 made.0) same made.3) in
      made_from n (i + 1) made.0 ys one.1 made.4 k at e (omega (arith, below)) (omega (arith, place))

  pub made_of : (ys : List B) (n : ℕ) → IsFromFnResult g f ys n → (at : ℕ) (e : B) → at < n → get_or ys at e ≡ value at
  made_of ys n made at e below = made_from n 0 f ys refl made.each at at e below (omega arith)
