-- Laws of answers: what a number says of the tests behind it. Assumes nothing.
use Prim.Native.Nat.{ℕ, suc, ◌≤◌}
use mathlib.Core.Path.{◌≡◌, refl, sym, ◌∙◌}
use mathlib.Core.Bool.{Bool, true, false}
use native.Mathlib.Omega.{arith}
use Rattle.answers.specs.Placed.{fine, refusal}
use Rattle.answers.specs.Outcome.{Outcome, accepted, refused, number, check, ◌>>=◌, ◌>>◌}

-- no answer is both
pub apart : {A : Type 0} {X : Type 0} {a : A} {n : ℕ} → refused n ≡ accepted a → X
apart e = let z : ◌≡◌ {A = ℕ} 0 1 = cc in absurd (clash z)
  where
    clash : ◌≡◌ {A = ℕ} 0 1 → ⊥
    clash z = omega arith

pub no_value : {A : Type 0} {X : Type 0} {a : A} {n at : ℕ} → refusal n at ≡ fine a → X
no_value e = let z : ◌≡◌ {A = ℕ} 0 1 = cc in absurd (clash z)
  where
    clash : ◌≡◌ {A = ℕ} 0 1 → ⊥
    clash z = omega arith

-- a test whose number is 0 is passed, where its refusal's number is not 0
abbrev pub Proper : Outcome (Unit {0}) → Type 0
Proper t = number t ≡ 0 → t ≡ accepted tt

pub check_proper : (b : Bool) (k : ℕ) → Proper (check b (suc k))
check_proper true k e = refl
check_proper false k e = absurd (clash e)
  where
    clash : suc k ≡ 0 → ⊥
    clash e = omega arith

pub then_proper : (p q : Outcome (Unit {0})) → Proper p → Proper q → Proper (p >> q)
then_proper (accepted u) q hp hq e = hq e
then_proper (refused k) q hp hq e = hp e

pub passed : {t : Outcome (Unit {0})} → Proper t → {n : ℕ} → n ≡ number t → n ≤ 0 → t ≡ accepted tt
passed h e l = h (sym e ∙ zero l)
  where
    zero : {n : ℕ} → n ≤ 0 → n ≡ 0
    zero l = omega arith

-- what was passed was passed step by step
pub check_true : (b : Bool) (k : ℕ) → check b k ≡ accepted tt → b ≡ true
check_true true k e = refl
check_true false k e = apart e

pub first_passed : {A : Type 0} (p : Outcome (Unit {0})) (q : Outcome A) {a : A} → p >> q ≡ accepted a → (p ≡ accepted tt) × (q ≡ accepted a)
first_passed (accepted tt) q e = (refl, e)
first_passed (refused n) q e = apart e

pub record Step {A B : Type 0} (p : Outcome A) (f : A → Outcome B) (b : B) : Type 0 where
  pub value : A
  pub was : p ≡ accepted value
  pub then : f value ≡ accepted b

pub step_passed : {A B : Type 0} (p : Outcome A) (f : A → Outcome B) {b : B} → p >>= f ≡ accepted b → Step p f b
step_passed (accepted a) f e = record { value = a; was = refl; then = e }
step_passed (refused n) f e = apart e

pub same : {A : Type 0} {a b : A} → accepted a ≡ accepted b → a ≡ b
same e = cc
