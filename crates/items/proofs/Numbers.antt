-- A number at the front of an item ends at one place, whatever its limit: where what has to follow it is not there, no reader that begins with
-- such a number matches. Assumes nothing.
use borrow.Author.Tests.{lt-leb}
use native.Mathlib.Omega.{arith}
use Prim.Native.Nat.{ℕ, ◌+◌, ◌<◌, ◌≤◌}
use mathlib.Core.Path.{◌≡◌, refl}
use mathlib.Core.List.{List}
use mathlib.Core.Bool.{Bool, true, false, cond}
use lib.Dec.{ltb, leb}
use lib.ListN.{length, length-drop, length-take}
use lib.Seq.{slice}
use Rattle.primitive.specs.Answer.{Answer, matched, dropped, none, stop, drops, and_then}
use Rattle.primitive.specs.Text.{digit, past, some}
use Rattle.primitive.specs.Primitive.{space, decimal, parse_uint, dec_uint_str, dec_uint}
use Rattle.dates.specs.Date.{five_digits, iso2}
use Rattle.times.specs.Time.{below}

-- an answer that is no stop, and whose match ends at n
abbrev pub At : {A : Type 0} → ℕ → Answer A → Type 0
At n (matched v m) = m ≡ n
At n (dropped v m) = m ≡ n
At n none = Unit {0}
At n stop = ⊥

-- what fails there for every value fails after such an answer
pub fails : {A B : Type 0} (n : ℕ) (a : Answer A) → At n a → (f : A → ℕ → Answer B) → ((v : A) → f v n ≡ none) → and_then a f ≡ none
fails n (matched v m) h f k = rw h (k v)
fails n (dropped v m) h f k = rw (h, k v)
fails n none h f k = refl
fails n stop h f k = absurd h

at_then : {A B : Type 0} (n : ℕ) (a : Answer A) → At n a → (f : A → ℕ → Answer B) → ((v : A) → At n (f v n)) → At n (and_then a f)
at_then n (matched v m) h f k = rw h (k v)
at_then n (dropped v m) h f k = rw h (dropped_at (f v n) (k v))
  where
    dropped_at : {A : Type 0} (a : Answer A) → At n a → At n (drops a)
    dropped_at (matched v m) h = h
    dropped_at (dropped v m) h = h
    dropped_at none h = h
    dropped_at stop h = h
at_then n none h f k = tt
at_then n stop h f k = absurd h

at_test : {A : Type 0} (n : ℕ) (t : Bool) (v : A) → At n (cond t (matched v n) none)
at_test n true v = refl
at_test n false v = tt

module _ (text : List ℕ) (at : ℕ) where
  pub digits_at : At (past digit text at) (dec_uint_str text at)
  unfolding dec_uint_str some
  digits_at = at_test (past digit text at) (ltb at (past digit text at)) (slice at (past digit text at) text)

  pub number_at : (max : ℕ) → At (past digit text at) (dec_uint max text at)
  unfolding dec_uint parse_uint
  number_at max = at_then (past digit text at) (dec_uint_str text at) digits_at _ (λ w. at_test (past digit text at) (leb (decimal w) max) (decimal w))

pub below_at : (text : List ℕ) (at k : ℕ) → At (past digit text (space text at)) (below k text at)
unfolding below
below_at text at k = at_then (past digit text (space text at)) _ (number_at text (space text at) 255) _ (λ v. at_test (past digit text (space text at)) (ltb v k) v)

-- at most four digits are no date without marks
pub few_digits : (text : List ℕ) (at : ℕ) → past digit text at ≤ at + 4 → iso2 text at ≡ none
unfolding iso2 dec_uint_str some five_digits
few_digits text at h = go (ltb at (past digit text at)) refl
  where
    short : length (slice at (past digit text at) text) < 5
    short = simp (length-drop, length-take) (omega arith)

    go : (t : Bool) → ltb at (past digit text at) ≡ t → iso2 text at ≡ none
    go true e = rw (e, lt-leb 5 (length (slice at (past digit text at) text)) short)
    go false e = rw e
