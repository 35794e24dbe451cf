-- Ordinal numbers, in words or in digits, as in items/ordinal.rs.
use Rattle.std.specs.Prelude.{ℕ, List, [], ◌∷◌, Bool, true, false, ℤ, pos, neg_ℤ}
use Prim.Native.String.{String}
use Rattle.primitive.specs.Answer.{Reader, ◌>>=◌, ◌<|>◌, pure, optional}
use Rattle.primitive.specs.Primitive.{spaced, sign, dec_uint, alpha1, named}

-- a number with its sign, true for minus
unfoldable pub signed : Bool → ℕ → ℤ
signed true n = neg_ℤ (pos n)
signed false n = pos n

-- 29.1: "the word 'last' stands for -1, 'this' stands for 0, and 'first' and 'next' both stand for 1. Because the word 'second'
-- stands for the unit of time there is no way to write the ordinal number 2"
unfoldable pub ordinals : List (String × ℤ)
ordinals =
    ("last", neg_ℤ (pos 1)) ∷ ("this", pos 0) ∷ ("next", pos 1) ∷ ("first", pos 1) ∷ ("third", pos 3) ∷ ("fourth", pos 4)
    ∷ ("fifth", pos 5) ∷ ("sixth", pos 6) ∷ ("seventh", pos 7) ∷ ("eighth", pos 8) ∷ ("ninth", pos 9) ∷ ("tenth", pos 10)
    ∷ ("eleventh", pos 11) ∷ ("twelfth", pos 12) ∷ []

unfoldable pub text_ordinal : Reader ℤ
text_ordinal = do
  w ← spaced alpha1
  named ordinals w

-- a number after space, below 2 to the power 31, with the sign that was read before it
unfoldable pub signed_number : Bool → Reader ℤ
signed_number negative = do
  n ← spaced (dec_uint 2147483647)
  pure (signed negative n)

-- 29.7: "an optionally signed number. Unsigned numbers are taken as positively signed."
unfoldable pub number_ordinal : Reader ℤ
number_ordinal = do
  negative ← spaced (optional false sign)
  signed_number negative

unfoldable pub ordinal : Reader ℤ
ordinal = text_ordinal <|> number_ordinal
