-- The text of a record: its parts, its length, its bytes, and what its offset tells. Assumes nothing.
use Prim.Native.Nat.{ℕ, ◌+◌, ◌*◌, ◌/◌, ◌%◌, ◌<◌, ◌≤◌, max}
use mathlib.Core.Path.{◌≡◌, refl}
use mathlib.Core.Bool.{Bool, true, false, ◌&&◌}
use mathlib.Core.List.{List, [], ◌∷◌, ◌++◌, append_assoc}
use native.Mathlib.Omega.{arith}
use lib.Dec.{ltb, leb}
use lib.IntN.{ℤ, pos, negsuc, nat_abs}
use lib.ListN.{length, length-append}
use borrow.Author.Tests.{lt-ltb, lt-leb, ltb-true, leb-true}
use Rattle.extended.specs.declared.ExtendedDateTime.{ExtendedDateTime}
use Rattle.extended.specs.Extended.{test_offset}
use Rattle.answers.specs.Outcome.{accepted}
use Rattle.extended.proofs.Counting.{and_left}
use Rattle.answers.proofs.Outcomes.{check_true}
use Rattle.extended.proofs.Records.{Accepted}
use Rattle.primitive.specs.Text.{lower, lowered, digit}
use Rattle.primitive.proofs.Rows.{all, halves}
use Rattle.writer.specs.Writer.{fixed, width, padded, negative, sign_of, field, text_of}
use Rattle.writer.proofs.Digits.{all_join, all_also, fixed_digits, fixed_length, padded_digits, padded_length, year_width}

-- the year and the fields, put one behind the other
pub fields_joined : (r : ExtendedDateTime) → (((((((padded 4 r.year ++ field 45 2 r.month []) ++ field 45 2 r.day []) ++ field 32 2 r.hour []) ++ field 58 2 r.minute []) ++ field 58 2 r.second []) ++ field 46 9 r.nanosecond []) ++ field (sign_of (negative r.offset_seconds)) 2 (nat_abs r.offset_seconds / 3600) []) ++ field 58 2 (nat_abs r.offset_seconds % 3600 / 60) [] ≡ text_of r
unfolding text_of
fields_joined r = simp append_assoc

-- ---- the length
pub text_length : (r : ExtendedDateTime) → length (text_of r) ≡ max 4 (width r.year) + 31
unfolding text_of
text_length r = simp (length-append, fixed_length, padded_length) (omega arith)

-- a text has 35 to 41 bytes
pub text_least : (r : ExtendedDateTime) → 35 ≤ length (text_of r)
text_least r = omega (arith, text_length r)

pub text_most : (r : ExtendedDateTime) → r.year < 10000000000 → length (text_of r) ≤ 41
text_most r h = let w = (year_width r.year h).1 in omega (arith, text_length r)

pub text_long : (r : ExtendedDateTime) → Accepted r → (35 ≤ length (text_of r)) × (length (text_of r) ≤ 41)
text_long r a = (text_least r, text_most r (omega (arith, a.year_high)))

-- ---- the bytes

-- every byte stands before the letters: digits, `+`, `-`, `.`, `:` and the blank do
abbrev pub plain : ℕ → Bool
plain b = ltb b 65

digit_plain : (b : ℕ) → digit b ≡ true → plain b ≡ true
unfolding digit
digit_plain b h = let l = leb-true b 57 (halves (leb 48 b) (leb b 57) h).1 in lt-ltb b 65 (omega arith)

sign_plain : (s : Bool) → plain (sign_of s) ≡ true
sign_plain true = refl
sign_plain false = refl

pub fixed_plain : (k n : ℕ) → all plain (fixed k n) ≡ true
fixed_plain k n = all_also digit plain digit_plain (fixed k n) (fixed_digits k n)

pub padded_plain : (k n : ℕ) → all plain (padded k n) ≡ true
padded_plain k n = all_also digit plain digit_plain (padded k n) (padded_digits k n)

pub text_plain : (r : ExtendedDateTime) → all plain (text_of r) ≡ true
unfolding text_of
text_plain r = simp (all_join, fixed_plain, padded_plain, sign_plain)

-- what follows of each plain text: no byte is 128 or more, none is an upper-case letter
abbrev pub ascii : ℕ → Bool
ascii b = ltb b 128

pub plain_ascii : (l : List ℕ) → all plain l ≡ true → all ascii l ≡ true
plain_ascii l h = all_also plain ascii small l h
  where
    small : (b : ℕ) → plain b ≡ true → ascii b ≡ true
    small b e = let p = ltb-true b 65 e in lt-ltb b 128 (omega arith)

pub plain_lowered : (l : List ℕ) → all plain l ≡ true → lowered l ≡ l
unfolding lowered lower
plain_lowered [] h = refl
plain_lowered (b ∷ bs) h =
    let t = halves (plain b) (all plain bs) h in
    let p = ltb-true b 65 t.0 in
    rw (lt-leb 65 b p, plain_lowered bs t.1)

pub text_ascii : (r : ExtendedDateTime) → all ascii (text_of r) ≡ true
text_ascii r = plain_ascii (text_of r) (text_plain r)

pub text_lowered : (r : ExtendedDateTime) → lowered (text_of r) ≡ text_of r
text_lowered r = plain_lowered (text_of r) (text_plain r)

-- ---- the offset
-- an offset is from -86400 to 86400 seconds
pub offset_high : (z : ℤ) → test_offset z ≡ accepted tt → nat_abs z ≤ 86400
unfolding test_offset
offset_high (pos n) e = let t = check_true (leb n 86400) 17 e in leb-true n 86400 t
offset_high (negsuc n) e = let t = check_true (leb n 86399 && true) 17 e in omega (arith, leb-true n 86399 (and_left (leb n 86399) true t))

-- hours and minutes of a number of whole minutes
pub offset_parts : (n : ℕ) → n % 60 ≡ 0 → n / 3600 * 3600 + n % 3600 / 60 * 60 ≡ n
offset_parts n h = omega arith
