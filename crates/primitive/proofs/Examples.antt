-- The definitions, computed: what each reader makes of a written text. Assumes nothing.
use Prim.Native.Nat.{ℕ}
use Prim.Native.String.{String}
use mathlib.Core.Path.{◌≡◌, refl}
use mathlib.Core.List.{List, [], ◌∷◌}
use Rattle.std.specs.Prelude.{Some, None}
use mathlib.Core.Bool.{true, false}
use lib.IntN.{pos, negsuc}
use Rattle.primitive.specs.Answer.{Answer, Reader, matched, dropped, none}
use Rattle.primitive.specs.Text.{lower, lowered, bytes, blank, digit, letter, run, past, some, starts, tag, quoted}
use Rattle.primitive.specs.Primitive.{multispace0, multispace1, closing, inside, comment, no_digit, sign, ignored_hyphen_or_plus, ignored, skip, space, decimal, parse_uint, dec_uint_str, dec_uint, colon, plus_or_minus, alpha1, same, named, beside}
use Rattle.primitive.specs.Epoch.{zero_filled, nanoseconds, nonzero, lost, point_or_comma, fraction, sec_and_nsec}
use Rattle.primitive.specs.Ordinal.{signed, signed_number, ordinals, text_ordinal, number_ordinal, ordinal}

-- what a reader makes of a quoted text, from its start
abbrev pub reads : {A : Type 0} → Reader A → String → Answer A
reads p text = p (lowered (bytes text)) 0

-- where the space in front of a quoted text ends
abbrev space_of : String → ℕ
space_of text = space (lowered (bytes text)) 0

-- Space: blanks; comments in comments; a sign without a digit; and what is no space.
spaces : (space_of "" ≡ 0) × (space_of " \t\n\r 12" ≡ 5) × (space_of "(c) 12" ≡ 4) × (space_of "- (c)  12" ≡ 7)
    × (space_of "(a(b)c)d" ≡ 7) × (space_of "(a(b)c" ≡ 0) × (space_of "(a)(b" ≡ 3) × (space_of "-- 12" ≡ 1) × (space_of "- 12" ≡ 0)
    × (space_of "+-+x" ≡ 3) × (space_of " - " ≡ 3) × (space_of "-(c)12" ≡ 4)
unfolding lower lowered bytes blank digit run past starts tag closing inside comment no_digit sign ignored_hyphen_or_plus ignored multispace0 skip space
spaces = (refl, refl, refl, refl, refl, refl, refl, refl, refl, refl, refl, refl)

-- Numbers: leading zeros count for nothing; the limit is the last number read.
numbers : (reads (dec_uint 255) "255x" ≡ matched 255 3) × (reads (dec_uint 255) "256" ≡ none) × (reads (dec_uint 255) "000000007" ≡ matched 7 9)
    × (reads (dec_uint 255) "x" ≡ none) × (reads (dec_uint 4294967295) "4294967295" ≡ matched 4294967295 10)
    × (reads (dec_uint 4294967295) "4294967296" ≡ none)
    × (reads (dec_uint 18446744073709551615) "18446744073709551615" ≡ matched 18446744073709551615 20)
    × (reads (dec_uint 18446744073709551615) "18446744073709551616" ≡ none) × (reads (dec_uint 9) "" ≡ none)
unfolding lower lowered bytes digit run past some decimal parse_uint dec_uint_str dec_uint
numbers = (refl, refl, refl, refl, refl, refl, refl, refl, refl)

-- Fixed words ask for a beginning; a colon and a sign may stand behind space, and blanks may be asked for.
singles : (reads (quoted "ago") "AGOX" ≡ matched tt 3) × (reads (quoted "ago") "ag" ≡ none) × (reads colon " (c) :" ≡ matched tt 6)
    × (reads colon "x:" ≡ none) × (reads plus_or_minus " -1" ≡ matched true 2) × (reads plus_or_minus "+ 1" ≡ matched false 1)
    × (reads plus_or_minus "- x" ≡ none) × (reads multispace1 "" ≡ none)
    × (reads multispace1 " \tx" ≡ matched (32 ∷ 9 ∷ []) 2) × (reads alpha1 "aZ1" ≡ matched (97 ∷ 122 ∷ []) 2)
unfolding lower lowered bytes blank digit letter run past some starts tag closing inside comment no_digit sign ignored_hyphen_or_plus ignored multispace0 multispace1 skip space colon plus_or_minus alpha1
singles = (refl, refl, refl, refl, refl, refl, refl, refl, refl, refl)

-- Fractions: nine digits count, and of those after them only zeros lose nothing; a point without a digit is left unread.
fractions : (reads sec_and_nsec "1.5" ≡ matched (record { sec = 1; nsec = 500000000 }) 3)
    × (reads sec_and_nsec "59,1234567899" ≡ dropped (record { sec = 59; nsec = 123456789 }) 13)
    × (reads sec_and_nsec "59,123456789000" ≡ matched (record { sec = 59; nsec = 123456789 }) 15)
    × (reads sec_and_nsec "7." ≡ matched (record { sec = 7; nsec = 0 }) 1)
    × (reads sec_and_nsec "7.x" ≡ matched (record { sec = 7; nsec = 0 }) 1)
    × (reads sec_and_nsec "7. 5" ≡ matched (record { sec = 7; nsec = 0 }) 1)
    × (reads sec_and_nsec "18446744073709551615.000000001" ≡ matched (record { sec = 18446744073709551615; nsec = 1 }) 30)
    × (reads sec_and_nsec ".5" ≡ none) × (reads sec_and_nsec "18446744073709551616" ≡ none)
unfolding lower lowered bytes digit run past some starts tag decimal parse_uint dec_uint_str dec_uint zero_filled nanoseconds nonzero lost point_or_comma fraction sec_and_nsec
fractions = (refl, refl, refl, refl, refl, refl, refl, refl, refl)

-- Ordinals: a word of 29.1 or a signed number; "second" is no ordinal; a sign in front of a comment is ignored.
ordinal_numbers : (reads ordinal "Last" ≡ matched (negsuc 0) 4) × (reads ordinal " twelfth month" ≡ matched (pos 12) 8)
    × (reads ordinal "second" ≡ none) × (reads ordinal "firsts" ≡ none) × (reads ordinal "third2" ≡ matched (pos 3) 5)
    × (reads ordinal "- 12" ≡ matched (negsuc 11) 4)
    × (reads ordinal "-(c)12" ≡ matched (pos 12) 6) × (reads ordinal "+2147483647" ≡ matched (pos 2147483647) 11)
    × (reads ordinal "-2147483648" ≡ none) × (reads ordinal "-0" ≡ matched (pos 0) 2) × (reads ordinal "--3" ≡ matched (negsuc 2) 3)
unfolding lower lowered bytes blank digit letter run past some starts tag closing inside comment no_digit sign ignored_hyphen_or_plus ignored multispace0 skip space decimal parse_uint dec_uint_str dec_uint alpha1 same named signed signed_number ordinals text_ordinal number_ordinal ordinal
ordinal_numbers = (refl, refl, refl, refl, refl, refl, refl, refl, refl, refl, refl)

-- A table: the first word that is the same, capitals or not; a part of a word is none of its words.
spring : List (List ℕ × ℕ)
spring = (bytes "march", 3) ∷ (bytes "May", 5) ∷ (bytes "may", 6) ∷ []

tables : (beside spring (bytes "may") ≡ Some 5) × (beside spring (bytes "ma") ≡ None) × (beside spring (bytes "july") ≡ None)
unfolding bytes lower lowered same beside spring
tables = (refl, refl, refl)

-- A place beyond the text is the end of a text.
beyond : (space (bytes "ab") 5 ≡ 5) × (dec_uint 255 (bytes "12") 5 ≡ none) × (alpha1 (bytes "ab") 2 ≡ none) × (ordinal (bytes "last") 9 ≡ none)
    × (quoted "" (bytes "ab") 7 ≡ matched tt 7) × (quoted "a" (bytes "a") 1 ≡ none)
unfolding bytes blank digit letter run past some starts tag closing inside comment no_digit sign ignored_hyphen_or_plus ignored multispace0 skip space decimal parse_uint dec_uint_str dec_uint alpha1 same named signed signed_number ordinals text_ordinal number_ordinal ordinal
beyond = (refl, refl, refl, refl, refl, refl)
