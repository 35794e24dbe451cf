-- What a call answers: docs/SCOPE.md, 'Answers by number'.
use Rattle.std.specs.Prelude.{ℕ, Bool, true, false}

-- a value under number 0, or the number of a refusal
pub data Outcome (A : Type 0) : Type 0 where
  accepted : A → Outcome A
  refused : ℕ → Outcome A

-- the number of an answer
abbrev pub number : {A : Type 0} → Outcome A → ℕ
number (accepted a) = 0
number (refused n) = n

-- the value of an answer, and in a refusal the blank one
abbrev pub value_or : {A : Type 0} → A → Outcome A → A
value_or blank (accepted a) = a
value_or blank (refused n) = blank

-- One step after another; the first refusal is the answer. `do` is written with these.
infixl 20 ◌>>=◌ ◌>>◌
abbrev pub ◌>>=◌ : {A B : Type 0} → Outcome A → (A → Outcome B) → Outcome B
accepted a >>= f = f a
refused n >>= f = refused n

abbrev pub ◌>>◌ : {A B : Type 0} → Outcome A → Outcome B → Outcome B
accepted a >> q = q
refused n >> q = refused n

-- a test, and the number of its refusal
abbrev pub check : Bool → ℕ → Outcome (Unit {0})
check true n = accepted tt
check false n = refused n
