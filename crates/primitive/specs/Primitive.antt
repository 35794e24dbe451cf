-- What the readers of items are made of, in the order of items/primitive.rs: the space between tokens, numbers, signs; then the words of a
-- table.
use Rattle.std.specs.Prelude.{ℕ, zero, suc, ◌+◌, ◌-◌, ◌*◌, ◌^◌, ◌≡◌, List, [], ◌∷◌, ◌++◌, Bool, true, false, ◌&&◌, length, get_or, drop, leb, eqb, Option, Some, None, cond}
use Prim.Native.String.{String}
use Rattle.primitive.specs.Answer.{Answer, Reader, matched, dropped, none, stop, ◌>>=◌, ◌>>◌, ◌<|>◌, value, verify}
use Rattle.primitive.specs.Text.{lowered, bytes, blank, digit, letter, past, some, char}

-- ---- the space between tokens

-- blanks, none or more
unfoldable pub multispace0 : Reader (Unit {0})
multispace0 text at = matched tt (past blank text at)

-- one blank or more
unfoldable pub multispace1 : Reader (List ℕ)
multispace1 = some blank

-- The end of a comment, from inside it: after the parenthesis that closes it, with d comments open within it.
-- `(` is 40 and `)` is 41.
unfoldable pub closing : ℕ → List ℕ → ℕ → Answer (Unit {0})
closing d [] at = none
closing zero (b ∷ bs) at =
    cond (eqb b 41) (matched tt (at + 1))
    (cond (eqb b 40) (closing 1 bs (at + 1))
    (closing 0 bs (at + 1)))
closing (suc d) (b ∷ bs) at =
    cond (eqb b 41) (closing d bs (at + 1))
    (cond (eqb b 40) (closing (suc (suc d)) bs (at + 1))
    (closing (suc d) bs (at + 1)))

unfoldable pub inside : Reader (Unit {0})
inside text at = closing 0 (drop at text) at

-- 29.1: "Comments may be introduced between round parentheses, as long as included parentheses are properly nested."
unfoldable pub comment : Reader (Unit {0})
comment = char "(" >> inside

-- Text whose parentheses are properly nested. Such a text between parentheses is a comment, read to its very end
-- (proofs/Comments.antt, `nested_comment`).
pub data Nested : List ℕ → Type 0 where
  empty : Nested []
  other : {b : ℕ} {bs : List ℕ} → (b ≡ 40 → ⊥) → (b ≡ 41 → ⊥) → Nested bs → Nested (b ∷ bs)
  inner : {w bs : List ℕ} → Nested w → Nested bs → Nested (40 ∷ (w ++ (41 ∷ bs)))

-- a place without a digit
unfoldable pub no_digit : Reader (Unit {0})
no_digit text at = cond (digit (get_or text at 0)) none (matched tt at)

-- a plus or a minus; true for minus
unfoldable pub sign : Reader Bool
sign = value false (char "+") <|> value true (char "-")

-- 29.1: "Hyphens not followed by a digit are currently ignored." SCOPE, 'Space': so is a plus, and blanks may come before the digit.
unfoldable pub ignored_hyphen_or_plus : Reader (Unit {0})
ignored_hyphen_or_plus = do
  sign
  multispace0
  no_digit

-- SCOPE, 'Space': besides blanks, space is comments and such signs
unfoldable pub ignored : Reader (Unit {0})
ignored = comment <|> ignored_hyphen_or_plus

-- where a match ends, taken further by f; without a match, the place itself. Nothing that is skipped has a fraction.
abbrev pub behind : Answer (Unit {0}) → ℕ → (ℕ → ℕ) → ℕ
behind (matched v n) at f = f n
behind (dropped v n) at f = at
behind none at f = at
behind stop at f = at

-- comments and ignored signs, each with the blanks after it, at most k of them; any k from the text's length on gives the same place
-- (proofs/Spaces.antt, `enough`)
unfoldable pub skip : ℕ → List ℕ → ℕ → ℕ
skip zero text at = at
skip (suc k) text at = behind (ignored text at) at (λ n. skip k text (past blank text n))

-- the end of the space at a place: blanks, comments and ignored signs
unfoldable pub space : List ℕ → ℕ → ℕ
space text at = skip (length text) text (past blank text at)

-- a reader after space: the Rust's `s`
abbrev pub spaced : {A : Type 0} → Reader A → Reader A
spaced p text at = p text (space text at)

-- ---- numbers

-- the decimal value of a row of digits; `0` is 48
unfoldable pub decimal : List ℕ → ℕ
decimal [] = 0
decimal (b ∷ bs) = (b - 48) * 10 ^ length bs + decimal bs

-- the number that a row of digits writes, if it is at most max
unfoldable pub parse_uint : ℕ → List ℕ → Reader ℕ
parse_uint max w = verify (leb (decimal w) max) (decimal w)

-- one digit or more
unfoldable pub dec_uint_str : Reader (List ℕ)
dec_uint_str = some digit

-- 29.1: "Leading zeros on numbers are ignored." A number above max is no match.
unfoldable pub dec_uint : ℕ → Reader ℕ
dec_uint max = do
  w ← dec_uint_str
  parse_uint max w

-- ---- single bytes

unfoldable pub colon : Reader (Unit {0})
colon = spaced (char ":")

unfoldable pub plus_or_minus : Reader Bool
plus_or_minus = spaced sign

-- ---- words

-- one letter or more
unfoldable pub alpha1 : Reader (List ℕ)
alpha1 = some letter

-- whether two rows of bytes are the same
unfoldable pub same : List ℕ → List ℕ → Bool
same [] [] = true
same [] (b ∷ bs) = false
same (a ∷ as') [] = false
same (a ∷ as') (b ∷ bs) = eqb a b && same as' bs

-- the value that a table gives a word; a word that is not in the table is no match
unfoldable pub named : {A : Type 0} → List (String × A) → List ℕ → Reader A
named [] w text at = none
named (e ∷ es) w text at = cond (same w (bytes e.0)) (matched e.1 at) (named es w text at)

-- the value beside the first word whose lower case is w
unfoldable pub beside : {A : Type 0} → List (List ℕ × A) → List ℕ → Option A
beside [] w = None
beside (e ∷ es) w = cond (same w (lowered e.0)) (Some e.1) (beside es w)
