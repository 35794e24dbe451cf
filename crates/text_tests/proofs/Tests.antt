-- What is proved of the tests of a text beside the contract. Assumes nothing.
use Prim.Native.Nat.{ℕ, ◌+◌, ◌<◌, ◌≤◌}
use native.Mathlib.Omega.{arith}
use borrow.Author.Tests.{lt-ltb, lt-leb, le-leb, leb-true}
use mathlib.Core.Path.{◌≡◌, refl}
use mathlib.Core.Bool.{Bool, true, false, ◌&&◌, cond}
use mathlib.Core.List.{List, [], ◌∷◌}
use lib.Dec.{leb, ltb}
use lib.ListN.{length}
use Rattle.answers.proofs.Outcomes.{no_value}
use Rattle.primitive.specs.Text.{lower, lowered, run, past}
use Rattle.primitive.proofs.Lowered.{length_lowered}
use Rattle.answers.specs.Outcome.{Outcome, accepted, refused, check}
use Rattle.answers.specs.Placed.{Placed, fine, refusal, placed, place_of, ◌>>◌}
use Rattle.extended.specs.Extended.{test}
use Rattle.extended.specs.declared.ExtendedDateTime.{ExtendedDateTime}
use Rattle.text_tests.specs.Tests.{ascii, ascii_end, test_text}
use Rattle.text_tests.proofs.Bytes.{ascii_within}

steps_joined : {A : Type 0} (p r : Placed (Unit {0})) (q : Placed A) → ((p >> r) >> q) ≡ (p >> (r >> q))
steps_joined (fine u) r q = refl
steps_joined (refusal n at) r q = refl

-- ---- lower case

ascii_lower : (b : ℕ) → ascii (lower b) ≡ ascii b
unfolding ascii lower
ascii_lower b = go (leb 65 b) (leb b 90) refl
  where
    go : (t u : Bool) → leb b 90 ≡ u → ltb (cond (t && u) (b + 32) b) 128 ≡ ltb b 128
    go true true e = let h = leb-true b 90 e in rw (lt-ltb (b + 32) 128 (omega arith), lt-ltb b 128 (omega arith))
    go true false e = refl
    go false u e = refl

run_lowered : (s : List ℕ) → run ascii (lowered s) ≡ run ascii s
unfolding run lowered
run_lowered [] = refl
run_lowered (b ∷ bs) = rw (ascii_lower b, run_lowered bs)

-- Lower case changes nothing for the tests.
pub lowered_tests : (s : List ℕ) (base : ExtendedDateTime) → test_text (lowered s) base ≡ test_text s base
unfolding test_text ascii_end past
lowered_tests s base = rw (length_lowered s, run_lowered s)

-- ---- what the tests say

-- what a text and a base are that pass the tests
pub record Tested (text : List ℕ) (base : ExtendedDateTime) : Type 0 where
  pub accepted_base : test base ≡ accepted tt
  pub short : length text ≤ 4096
  pub ascii : length text ≤ ascii_end text

module _ (text : List ℕ) (base : ExtendedDateTime) where
  -- a text that is short enough, with all bytes below 128, leaves the test of its base
  pub base_alone : length text ≤ 4096 → length text ≤ ascii_end text → test_text text base ≡ placed 0 (test base)
  unfolding test_text
  base_alone short low = rw (le-leb (length text) 4096 short, le-leb (length text) (ascii_end text) low) (go (placed 0 (test base)))
    where
      go : (p : Placed (Unit {0})) → (p >> fine tt) ≡ p
      go (fine tt) = refl
      go (refusal n at) = refl

  pub passed_tested : test_text text base ≡ fine tt → Tested text base
  unfolding test_text
  passed_tested = go (test base) refl (leb (length text) 4096) refl (leb (length text) (ascii_end text)) refl
    where
      go : (o : Outcome (Unit {0})) → test base ≡ o → (s : Bool) → leb (length text) 4096 ≡ s → (t : Bool) → leb (length text) (ascii_end text) ≡ t
          → (placed 0 o >> (placed 0 (check s 1) >> placed (ascii_end text) (check t 2))) ≡ fine tt → Tested text base
      go (accepted tt) e true f true g h = record { accepted_base = e; short = leb-true (length text) 4096 f; ascii = leb-true (length text) (ascii_end text) g }
      go (accepted tt) e true f false g h = no_value h
      go (accepted tt) e false f t g h = no_value h
      go (refused n) e s f t g h = no_value h

  -- A text that is too long is refused with 1 at place 0, whatever bytes it has; a base that is refused is refused before it.
  pub too_long : {A : Type 0} (q : Placed A) → 4096 < length text → (test_text text base >> q) ≡ (placed 0 (test base) >> refusal 1 0)
  unfolding test_text
  too_long q h = rw (lt-leb (length text) 4096 h) (steps_joined (placed 0 (test base)) (refusal 1 0) q)

  -- The place of a refusal is at most k, if a text that is not too long has at most k bytes.
  pub tests_place : (k : ℕ) → (length text ≤ 4096 → length text ≤ k) → place_of (test_text text base) ≤ k
  unfolding test_text
  tests_place k long = go (test base) (leb (length text) 4096) refl (leb (length text) (ascii_end text))
    where
      go : (o : Outcome (Unit {0})) (s : Bool) → leb (length text) 4096 ≡ s → (t : Bool) → place_of (placed 0 o >> (placed 0 (check s 1) >> placed (ascii_end text) (check t 2))) ≤ k
      go (accepted u) true e true = omega arith
      go (accepted u) true e false = omega (arith, long (leb-true (length text) 4096 e), ascii_within text)
      go (accepted u) false e t = omega arith
      go (refused n) s e t = omega arith
