-- What a reader answers, and how readers are put together. docs/SCOPE.md, 'Readers': a reader answers a match with its value and the next
-- place, no match, or a stop. A match also says whether a fraction lost a digit.
use Rattle.std.specs.Prelude.{ℕ, List, Bool, true, false, Option, Some, None, Result, Ok, Err, cond}
use Rattle.primitive.specs.declared.Miss.{Miss}
use Rattle.primitive.specs.declared.Miss.TheVariants.{NoMatch, Stop}

-- a match with its value and the next place; the same after a fraction that lost a digit; no match; or a stop, which no other reader may
-- mend
pub data Answer (A : Type 0) : Type 0 where
  matched : A → ℕ → Answer A
  dropped : A → ℕ → Answer A
  none : Answer A
  stop : Answer A

-- a reader takes the text, in lower case, and a place in it
abbrev pub Reader : Type 0 → Type 0
Reader A = List ℕ → ℕ → Answer A

-- an answer after a lost digit: a match keeps the loss, any other answer forgets it
abbrev pub drops : {A : Type 0} → Answer A → Answer A
drops (matched v n) = dropped v n
drops (dropped v n) = dropped v n
drops none = none
drops stop = stop

-- the same where a flag says whether a digit was lost
abbrev pub carry : {A : Type 0} → Bool → Answer A → Answer A
carry true a = drops a
carry false a = a

-- what follows a match
abbrev pub and_then : {A B : Type 0} → Answer A → (A → ℕ → Answer B) → Answer B
and_then (matched v n) f = f v n
and_then (dropped v n) f = drops (f v n)
and_then none f = none
and_then stop f = stop

-- what is tried where there was no match
abbrev pub or_else : {A : Type 0} → Answer A → Answer A → Answer A
or_else (matched v n) b = matched v n
or_else (dropped v n) b = dropped v n
or_else none b = b
or_else stop b = stop

-- one reader, and after it another that may ask what the first one found: what `do` is written with
infixl 20 ◌>>=◌ ◌>>◌
abbrev pub ◌>>=◌ : {A B : Type 0} → Reader A → (A → Reader B) → Reader B
◌>>=◌ p f text at = and_then (p text at) (λ v n. f v text n)

abbrev pub ◌>>◌ : {A B : Type 0} → Reader A → Reader B → Reader B
◌>>◌ p q text at = and_then (p text at) (λ v n. q text n)

-- the first reader, or the second where the first does not match
infixl 15 ◌<|>◌
abbrev pub ◌<|>◌ : {A : Type 0} → Reader A → Reader A → Reader A
◌<|>◌ p q text at = or_else (p text at) (q text at)

-- nothing is read, and the value is v
abbrev pub pure : {A : Type 0} → A → Reader A
pure v text at = matched v at

-- what p reads, with the value v in place of its own
abbrev pub value : {A B : Type 0} → B → Reader A → Reader B
value v p = p >> pure v

-- what p reads, or nothing with the value d where p does not match
abbrev pub optional : {A : Type 0} → A → Reader A → Reader A
optional d p = p <|> pure d

-- nothing is read, and the value is v where a test passes; where it fails there is no match
abbrev pub verify : {A : Type 0} → Bool → A → Reader A
verify t v text at = cond t (matched v at) none

-- nothing is read, and the value is v; where a test passes a digit was lost on the way
abbrev pub cut : {A : Type 0} → Bool → A → Reader A
cut t v text at = carry t (matched v at)

-- ---- the code's answers

-- a value and where it ends
abbrev pub answer_of : {A : Type 0} → Option (A × ℕ) → Answer A
answer_of (Some p) = matched p.0 p.1
answer_of None = none

-- where a match ends
abbrev pub place_answer : Option ℕ → Answer (Unit {0})
place_answer (Some n) = matched tt n
place_answer None = none

-- a value that was found, for what ends at a place
abbrev pub found_at : {A : Type 0} → ℕ → Option A → Answer A
found_at at (Some v) = matched v at
found_at at None = none

-- a value and where it ends, for a reader that may stop
abbrev pub stop_answer : {A : Type 0} → Result (A × ℕ) Miss → Answer A
stop_answer (Ok p) = matched p.0 p.1
stop_answer (Err NoMatch) = none
stop_answer (Err Stop) = stop

-- a value, where it ends, and whether a digit was lost
abbrev pub lossy_answer : {A : Type 0} → Option (A × ℕ × Bool) → Answer A
lossy_answer (Some p) = carry p.2 (matched p.0 p.1)
lossy_answer None = none

-- the same for a reader that may stop
abbrev pub lossy_stop_answer : {A : Type 0} → Result (A × ℕ × Bool) Miss → Answer A
lossy_stop_answer (Ok p) = carry p.2 (matched p.0 p.1)
lossy_stop_answer (Err NoMatch) = none
lossy_stop_answer (Err Stop) = stop
