-- Which numbers an answer can have: a value, or a refusal with a number of a list. A definition made of steps has the numbers of its
-- steps. Assumes nothing.
use native.Mathlib.Omega.{arith}
use Prim.Native.Nat.{ℕ, zero, suc, ◌<◌}
use mathlib.Core.Path.{◌≡◌, refl, sym, ◌∙◌}
use mathlib.Core.List.{List, [], ◌∷◌}
use lib.Dec.{eqb}
use borrow.Author.Tests.{eqb-true}
use mathlib.Core.Bool.{Bool, true, false, cond, ◌||◌, ◌&&◌, true≢false}
use Rattle.answers.specs.Outcome.{Outcome, accepted, refused, check, ◌>>=◌, ◌>>◌}
use Rattle.primitive.proofs.Rows.{halves}
use Rattle.host_calls.specs.Given.{has}

-- a value, or a refusal with a number of the list
pub data Numbered (g : List ℕ) {A : Type 0} : Outcome A → Type 0 where
  value : (a : A) → Numbered g (accepted a)
  by_number : (k : ℕ) → has g k ≡ true → Numbered g (refused k)

-- whether each number of one list is in another
abbrev pub covers : List ℕ → List ℕ → Bool
covers [] h = true
covers (n ∷ ns) h = has h n && covers ns h

pub has_covers : (g h : List ℕ) (k : ℕ) → covers g h ≡ true → has g k ≡ true → has h k ≡ true
has_covers [] h k c e = cc
has_covers (n ∷ ns) h k c e = by (λ f. has_covers ns h k both.1 f) (eqb k n) refl e
  where
    both : (has h n ≡ true) × (covers ns h ≡ true)
    both = halves (has h n) (covers ns h) c

    by : (has ns k ≡ true → has h k ≡ true) → (t : Bool) → eqb k n ≡ t → t || has ns k ≡ true → has h k ≡ true
    by later true f z = rw (eqb-true k n f) both.0
    by later false f z = later z

-- a number that is in a list is none that is not
pub not_in : (g : List ℕ) (k n : ℕ) → has g n ≡ false → has g k ≡ true → k ≡ n → ⊥
not_in g k n f e z = absurd (true≢false (sym (sym f ∙ rw z at e)))

pub positive : (g : List ℕ) (k : ℕ) → has g 0 ≡ false → has g k ≡ true → 0 < k
positive g zero f e = absurd (not_in g 0 0 f e refl)
positive g (suc k) f e = omega arith

module _ {g : List ℕ} where
  pub wider : {A : Type 0} {o : Outcome A} (h : List ℕ) → covers g h ≡ true → Numbered g o → Numbered h o
  wider h c (value a) = value a
  wider h c (by_number k e) = by_number k (has_covers g h k c e)

  pub given : {A : Type 0} {k : ℕ} → Numbered g {A = A} (refused k) → has g k ≡ true
  given (by_number k e) = e

  pub then : {A B : Type 0} {p : Outcome A} {f : A → Outcome B} → Numbered g p → ((a : A) → Numbered g (f a)) → Numbered g (p >>= f)
  then (value a) f = f a
  then (by_number k e) f = by_number k e

  pub next : {B : Type 0} {p : Outcome (Unit {0})} {q : Outcome B} → Numbered g p → Numbered g q → Numbered g (p >> q)
  next (value a) h = h
  next (by_number k e) h = by_number k e

  pub check_numbered : (b : Bool) (k : ℕ) → has g k ≡ true → Numbered g (check b k)
  check_numbered true k e = value tt
  check_numbered false k e = by_number k e

  pub cond_numbered : {A : Type 0} (b : Bool) {p q : Outcome A} → Numbered g p → Numbered g q → Numbered g (cond b p q)
  cond_numbered true h k = h
  cond_numbered false h k = k
