-- An answer with the place of its refusal: docs/SCOPE.md, 'Answers by number'.
use Rattle.std.specs.Prelude.{ℕ}
use Rattle.answers.specs.Outcome.{Outcome, accepted, refused}

-- a value under number 0, or the number and the place of a refusal
pub data Placed (A : Type 0) : Type 0 where
  fine : A → Placed A
  refusal : ℕ → ℕ → Placed A

infixl 20 ◌>>=◌ ◌>>◌
abbrev pub ◌>>=◌ : {A B : Type 0} → Placed A → (A → Placed B) → Placed B
fine a >>= f = f a
refusal n at >>= f = refusal n at

abbrev pub ◌>>◌ : {A B : Type 0} → Placed A → Placed B → Placed B
fine a >> q = q
refusal n at >> q = refusal n at

-- an answer whose refusal is at a place
abbrev pub placed : {A : Type 0} → ℕ → Outcome A → Placed A
placed at (accepted a) = fine a
placed at (refused n) = refusal n at

-- the number and the place of an answer: 0 where it is a value
abbrev pub number_of : {A : Type 0} → Placed A → ℕ
number_of (fine a) = 0
number_of (refusal n at) = n

abbrev pub place_of : {A : Type 0} → Placed A → ℕ
place_of (fine a) = 0
place_of (refusal n at) = at

-- the value of an answer, and in a refusal the blank one
abbrev pub value_or : {A : Type 0} → A → Placed A → A
value_or blank (fine a) = a
value_or blank (refusal n at) = blank
