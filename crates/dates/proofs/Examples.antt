-- The definitions, computed: the dates of section 29.2 of the manual, the corners of docs/SCOPE.md, 'Dates', and its thirteen examples as one
-- table with one claim. Assumes nothing.
use Prim.Native.Nat.{ℕ}
use Prim.Native.String.{String}
use mathlib.Core.Path.{◌≡◌, refl}
use mathlib.Core.List.{List, [], ◌∷◌}
use lib.IntN.{pos, negsuc}
use Rattle.answers.specs.Outcome.{Outcome, accepted, refused}
use Rattle.extended.specs.Calendar.{leap, month_days}
use Rattle.extended.specs.Extended.{from_unix_seconds, add_months, add_years}
use Rattle.extended.specs.declared.ExtendedDateTime.{ExtendedDateTime}
use Rattle.extended.proofs.Examples.{at, midnight, epoch, before, first, below, march_2023, march_2024, march_2025}
use Rattle.primitive.proofs.Examples.{reads}
use Rattle.primitive.specs.Answer.{Answer, matched, none}
use Rattle.primitive.specs.Text.{lower, lowered, bytes, blank, digit, letter, run, past, some, starts, tag}
use Rattle.primitive.specs.Primitive.{multispace0, multispace1, closing, inside, comment, no_digit, sign, ignored_hyphen_or_plus, ignored, skip, space, decimal, parse_uint, dec_uint_str, dec_uint, alpha1, same, named}
use Rattle.dates.specs.Year.{widened_by, year_from_str, year_str}
use Rattle.dates.specs.Date.{date_of, exists, with_year, without_year, dated, end_of_text, blank_or_end, ended, ended_year, dated_behind, nothing, hyphen, comma, dotted, iso1, five_digits, iso2, us_date, slash_part, us_rest, us, months, word_dot, literal_month, literal1, literal2, literal3, literal, parse_non_iso}
use Rattle.dates.specs.declared.date.Date.{Date}
use Rattle.std.specs.Prelude.{Some, None}

abbrev ymd : ℕ → ℕ → ℕ → Date
ymd y m d = date_of (Some y) m d

-- ---- SCOPE, 'Thirteen examples': digits and the year they write; a record, or its number, and what it should be
abbrev pub year_of : String → Answer ℕ
year_of w = year_from_str (bytes w) [] 0

pub data Example : Type 0 where
  year : String → Answer ℕ → Example
  gives : Outcome ExtendedDateTime → Outcome ExtendedDateTime → Example

abbrev pub Right : List Example → Type 0
Right [] = Unit {0}
Right (year w a ∷ es) = (year_of w ≡ a) × Right es
Right (gives found wanted ∷ es) = (found ≡ wanted) × Right es

-- six years, four moments, three ends of months and years
pub thirteen : List Example
thirteen =
    year "68" (matched 2068 0) ∷ year "69" (matched 1969 0) ∷ year "98" (matched 1998 0) ∷ year "098" (matched 98 0)
    ∷ year "2147485547" (matched 2147485547 0) ∷ year "2147485548" none
    ∷ gives (from_unix_seconds (pos 0) 0 (pos 0)) (accepted (midnight 1970 1 1))
    ∷ gives (from_unix_seconds (negsuc 0) 0 (pos 0)) (accepted (at 1969 12 31 23 59 59))
    ∷ gives (from_unix_seconds (negsuc 62167219199) 0 (pos 0)) (accepted (midnight 0 1 1))
    ∷ gives (from_unix_seconds (negsuc 62167219200) 0 (pos 0)) (refused 10)
    ∷ gives (add_months (midnight 2023 1 31) (pos 1)) (accepted (midnight 2023 3 3))
    ∷ gives (add_months (midnight 2024 1 31) (pos 1)) (accepted (midnight 2024 3 2))
    ∷ gives (add_years (midnight 2024 2 29) (pos 1)) (accepted (midnight 2025 3 1))
    ∷ []

years : (year_of "68" ≡ matched 2068 0) × (year_of "69" ≡ matched 1969 0) × (year_of "98" ≡ matched 1998 0) × (year_of "098" ≡ matched 98 0)
    × (year_of "2147485547" ≡ matched 2147485547 0) × (year_of "2147485548" ≡ none)
unfolding bytes decimal widened_by year_from_str
years = (refl, refl, refl, refl, refl, refl)

pub thirteen_right : Right thirteen
unfolding thirteen
thirteen_right =
    let (a, b, c, d, e, f) = years
    in (a, (b, (c, (d, (e, (f, (epoch, (before, (first, (below, (march_2023, (march_2024, (march_2025, tt)))))))))))))

-- ---- ISO dates; a sign without a digit behind it is skipped; `iso2` skips no blanks
iso_dates : (reads iso1 "2022-11-14" ≡ matched (ymd 2022 11 14) 10) × (reads iso1 "22-11-14 x" ≡ matched (ymd 2022 11 14) 8)
    × (reads iso1 "72-11-14" ≡ matched (ymd 1972 11 14) 8) × (reads iso1 "2024--01-01" ≡ matched (ymd 2024 1 1) 11)
    × (reads iso1 "2023-02-29" ≡ none) × (reads iso1 "2024-02-29" ≡ matched (ymd 2024 2 29) 10) × (reads iso1 " 2022 - 1 - 2" ≡ matched (ymd 2022 1 2) 13)
    × (reads iso2 "20221114" ≡ matched (ymd 2022 11 14) 8) × (reads iso2 "221114" ≡ matched (ymd 2022 11 14) 6) × (reads iso2 " 20221114" ≡ none)
    × (reads iso2 "1114" ≡ none) × (reads iso2 "21474855471231" ≡ matched (ymd 2147485547 12 31) 14)
unfolding leap month_days lower lowered bytes blank digit run past some starts tag closing inside comment no_digit sign ignored_hyphen_or_plus ignored multispace0 skip space decimal parse_uint dec_uint_str dec_uint widened_by year_from_str year_str exists with_year iso1 five_digits iso2
iso_dates = (refl, refl, refl, refl, refl, refl, refl, refl, refl, refl, refl, refl)

-- ---- slashes and dots; of three numbers the first is the year if it has four digits
us_dates : (reads us "11/14/2022" ≡ matched (ymd 2022 11 14) 10) × (reads us "11/14" ≡ matched (date_of None 11 14) 5)
    × (reads us "2022/11/14" ≡ matched (ymd 2022 11 14) 10) × (reads us "022/11/14" ≡ none) × (reads us "2/29" ≡ matched (date_of None 2 29) 4)
    × (reads us "2/30" ≡ none) × (reads us "11/14/" ≡ matched (date_of None 11 14) 5)
    × (reads dotted "14.11.2022" ≡ matched (ymd 2022 11 14) 10) × (reads dotted "14.11." ≡ matched (date_of None 11 14) 6)
    × (reads dotted "14.11.2022x" ≡ matched (date_of None 11 14) 6)
unfolding leap month_days lower lowered bytes blank digit run past some starts tag closing inside comment no_digit sign ignored_hyphen_or_plus ignored multispace0 multispace1 skip space decimal parse_uint dec_uint_str dec_uint widened_by year_from_str year_str exists with_year without_year dated end_of_text blank_or_end ended ended_year dated_behind nothing dotted us_date slash_part us_rest us
us_dates = (refl, refl, refl, refl, refl, refl, refl, refl, refl, refl)

-- ---- literal months; "sept" is one, "sept." is none
literal_dates : (reads parse_non_iso "14 November 2022" ≡ matched (ymd 2022 11 14) 16) × (reads parse_non_iso "14 Nov 2022" ≡ matched (ymd 2022 11 14) 11)
    × (reads parse_non_iso "14-nov-2022" ≡ matched (ymd 2022 11 14) 11) × (reads parse_non_iso "14nov2022" ≡ matched (ymd 2022 11 14) 9)
    × (reads parse_non_iso "14 NOV." ≡ matched (date_of None 11 14) 7) × (reads parse_non_iso "November 14, 2022" ≡ matched (ymd 2022 11 14) 17)
    × (reads parse_non_iso "Nov 14 2022 x" ≡ matched (ymd 2022 11 14) 12) × (reads parse_non_iso "Nov-14-2022" ≡ matched (ymd 2022 11 14) 11)
    × (reads parse_non_iso "sept 3" ≡ matched (date_of None 9 3) 6) × (reads parse_non_iso "sept. 3" ≡ none) × (reads parse_non_iso "feb 29" ≡ matched (date_of None 2 29) 6)
    × (reads parse_non_iso "Nov 14,2022" ≡ matched (date_of None 11 14) 6) × (reads parse_non_iso "10:00" ≡ none)
unfolding leap month_days lower lowered bytes blank digit letter run past some starts tag closing inside comment no_digit sign ignored_hyphen_or_plus ignored multispace0 multispace1 skip space decimal parse_uint dec_uint_str dec_uint alpha1 same named widened_by year_from_str year_str exists with_year without_year dated end_of_text blank_or_end ended ended_year dated_behind nothing hyphen comma dotted us_date slash_part us_rest us months word_dot literal_month literal1 literal2 literal3 literal parse_non_iso
literal_dates = (refl, refl, refl, refl, refl, refl, refl, refl, refl, refl, refl, refl, refl)
