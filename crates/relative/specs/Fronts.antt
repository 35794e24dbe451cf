-- What the code reads where the first byte of a relative item is known. proofs/Fronts.antt shows that it is what `parse` reads there.
use Rattle.std.specs.Prelude.{ℕ, ◌^◌, List, Bool, not, leb, ltb, neg_ℤ, ℤ, cond}
use Rattle.primitive.specs.Answer.{Reader, none, ◌>>=◌, ◌>>◌, ◌<|>◌, verify}
use Rattle.primitive.specs.Primitive.{spaced, alpha1, named}
use Rattle.primitive.specs.Ordinal.{signed}
use Rattle.relative.specs.Relative.{direction, rounded, second_words, in_unit}
use Rattle.relative.specs.declared.Relative.{Relative}

-- the unit that a word names, n times, and -n times before `ago`
unfoldable pub united : ℤ → List ℕ → Reader Relative
united n w = do
  ago ← direction
  in_unit (cond ago (neg_ℤ n) n) w

-- seconds that an i64 can represent, or a unit as many times as an i32 can represent
unfoldable pub counted : Bool → ℕ → List ℕ → Reader Relative
counted negative n w =
    (named second_words w >> verify (ltb n (2 ^ 63)) (rounded negative (record { sec = n; nsec = 0 })))
    <|> (λ text at. cond (leb n 2147483647) (in_unit (signed negative n) w text at) none)

-- the unit of a number without a fraction
unfoldable pub unit_of_number : Bool → ℕ → Reader Relative
unit_of_number negative n = do
  w ← spaced alpha1
  ago ← direction
  counted (cond ago (not negative) negative) n w
