-- The readers that never lose a digit. All others read a fraction. Assumes nothing.
use Prim.Native.Nat.{ℕ, zero, suc, ◌+◌}
use lib.Dec.{eqb}
use lib.ListN.{drop}
use Prim.Native.String.{String}
use lib.IntN.{ℤ}
use mathlib.Core.List.{List, [], ◌∷◌}
use mathlib.Core.Bool.{Bool, true, false, cond}
use Rattle.primitive.specs.Answer.{Reader, and_then, ◌>>=◌, matched, optional}
use Rattle.primitive.specs.Text.{bytes}
use Rattle.primitive.specs.Primitive.{multispace0, multispace1, closing, inside, comment, no_digit, ignored_hyphen_or_plus, ignored, parse_uint, dec_uint_str, dec_uint, sign, colon, plus_or_minus, alpha1, same, named}
use Rattle.primitive.specs.Epoch.{point_or_comma}
use Rattle.primitive.specs.Ordinal.{signed_number, text_ordinal, number_ordinal, ordinal}
use Rattle.dates.specs.Year.{year_from_str, year_str}
use Rattle.dates.specs.Date.{with_year, without_year, WrittenYear, written, unwritten, dated, end_of_text, blank_or_end, ended, ended_year, dated_behind, nothing, hyphen, comma, dotted, iso1, five_digits, iso2, us_date, slash_part, us_rest, us, word_dot, literal_month, literal1, literal2, literal3, literal, parse_non_iso}
use Rattle.relative.specs.Relative.{direction, second_word, days, units, in_unit, displaced, displacement, stripped}
use Rattle.relative.specs.declared.Relative.{Relative}
use Rattle.times.specs.Offset.{offset_of, timezone_offset_colon, digits_offset, timezone_offset_colonless, any_offset, time_zone_correction, timezone_offset}
use Rattle.times.specs.Time.{below, minute, optional_minute, optional_correction, meridiem}
use Rattle.items.specs.Combined.{separator, skip_space}
use Rattle.items.specs.Items.{iso_date}
use Rattle.theorems_forms.proofs.Undropped.{Undropped, Whole, wholes, matched_undropped, none_undropped, if_undropped}

pub digits_whole : Whole dec_uint_str
unfolding dec_uint_str
digits_whole = search wholes

pub number_whole : (max : ℕ) → Whole (dec_uint max)
unfolding dec_uint dec_uint_str parse_uint
number_whole max = search wholes

pub point_whole : Whole point_or_comma
unfolding point_or_comma
point_whole = search wholes

pub colon_whole : Whole colon
unfolding colon
colon_whole = search wholes

pub optional_sign_whole : Whole (optional false plus_or_minus)
unfolding plus_or_minus sign
optional_sign_whole = search wholes depth 30

-- ---- what is skipped, and the digits of a pure number: `behind` and `wanted` meet no lost digit

closing_undropped : (d : ℕ) (bs : List ℕ) (at : ℕ) → Undropped (closing d bs at)
unfolding closing
closing_undropped d [] at = none_undropped
closing_undropped zero (b ∷ bs) at = if_undropped (eqb b 41) _ _ (matched_undropped tt (at + 1)) (if_undropped (eqb b 40) _ _ (closing_undropped 1 bs (at + 1)) (closing_undropped 0 bs (at + 1)))
closing_undropped (suc d) (b ∷ bs) at =
    if_undropped (eqb b 41) _ _ (closing_undropped d bs (at + 1)) (if_undropped (eqb b 40) _ _ (closing_undropped (suc (suc d)) bs (at + 1)) (closing_undropped (suc d) bs (at + 1)))

inside_whole : Whole inside
unfolding inside
inside_whole = record { whole = λ text at. closing_undropped 0 (drop at text) at }

multispace0_whole : Whole multispace0
unfolding multispace0
multispace0_whole = record { whole = λ text at. matched_undropped _ _ }

no_digit_whole : Whole no_digit
unfolding no_digit
no_digit_whole = record { whole = λ text at. if_undropped _ _ _ none_undropped (matched_undropped _ _) }

pub ignored_whole : Whole ignored
unfolding ignored comment ignored_hyphen_or_plus sign
ignored_whole = search (inside_whole, multispace0_whole, no_digit_whole, wholes) depth 30

pub parse_uint_whole : (max : ℕ) (w : List ℕ) → Whole (parse_uint max w)
unfolding parse_uint
parse_uint_whole max w = search wholes

pub year_from_str_whole : (w : List ℕ) → Whole (year_from_str w)
unfolding year_from_str
year_from_str_whole w = search wholes

-- ---- dates

pub iso_date_whole : Whole iso_date
unfolding iso_date iso1 iso2 year_str with_year year_from_str dec_uint_str dec_uint parse_uint five_digits
iso_date_whole = search wholes depth 30

dated_whole : (y : WrittenYear) (m d : ℕ) → Whole (dated y m d)
unfolding dated with_year without_year year_from_str
dated_whole (written w) m d = search wholes depth 30
dated_whole unwritten m d = search wholes

us_date_whole : (w : List ℕ) (n : ℕ) (y : WrittenYear) → Whole (us_date w n y)
unfolding us_date with_year without_year year_from_str parse_uint
us_date_whole w n (written v) = search wholes depth 30
us_date_whole w n unwritten = search wholes depth 30

end_of_text_whole : Whole end_of_text
unfolding end_of_text
end_of_text_whole = record { whole = λ text at. if_undropped _ _ _ (matched_undropped _ _) none_undropped }

pub parse_non_iso_whole : Whole parse_non_iso
unfolding parse_non_iso dotted us literal literal1 literal2 literal3 literal_month word_dot us_rest slash_part comma hyphen nothing dated_behind ended_year ended blank_or_end with_year year_str year_from_str multispace1 alpha1 dec_uint_str dec_uint parse_uint
parse_non_iso_whole = search (dated_whole, us_date_whole, end_of_text_whole, wholes) depth 30

-- ---- times

pub below_whole : (k : ℕ) → Whole (below k)
unfolding below
below_whole k = search (number_whole, wholes)

any_offset_whole : Whole any_offset
unfolding any_offset timezone_offset_colon timezone_offset_colonless digits_offset offset_of plus_or_minus sign colon dec_uint dec_uint_str parse_uint
any_offset_whole = search wholes depth 30

pub timezone_offset_whole : Whole timezone_offset
unfolding timezone_offset
timezone_offset_whole = search (any_offset_whole, wholes)

pub optional_correction_whole : Whole optional_correction
unfolding optional_correction time_zone_correction
optional_correction_whole = search (any_offset_whole, wholes)

pub optional_minute_whole : Whole optional_minute
unfolding optional_minute minute
optional_minute_whole = search (colon_whole, below_whole, wholes)

pub meridiem_whole : Whole meridiem
unfolding meridiem
meridiem_whole = search wholes depth 30

skip_space_whole : Whole skip_space
skip_space_whole = record { whole = λ text at. matched_undropped _ _ }

pub separator_whole : Whole separator
unfolding separator
separator_whole = search (skip_space_whole, wholes) depth 30

-- ---- relative items

pub direction_whole : Whole direction
unfolding direction
direction_whole = search wholes depth 30

pub second_word_whole : Whole second_word
unfolding second_word alpha1
second_word_whole = search wholes depth 30

-- the readers of a table, each of them whole
data Each (n : ℤ) : List (String × (ℤ → Reader Relative)) → Type 0 where
  no_more : Each n []
  one_more : {e : String × (ℤ → Reader Relative)} {es : List (String × (ℤ → Reader Relative))} → Whole (e.1 n) → Each n es → Each n (e ∷ es)

table_whole : (n : ℤ) (w : List ℕ) (es : List (String × (ℤ → Reader Relative))) → Each n es → Whole (named es w >>= λ unit. unit n)
unfolding named
table_whole n w [] no_more = record { whole = λ text at. none_undropped }
table_whole n w (x ∷ es) (one_more h hs) = record { whole = λ text at. go text at (same w (bytes x.0)) ((table_whole n w es hs).whole text at) }
  where
    go : (text : List ℕ) (at : ℕ) (t : Bool) → Undropped ((named es w >>= λ unit. unit n) text at)
        → Undropped (and_then (cond t (matched x.1 at) (named es w text at)) (λ unit m. unit n text m))
    go text at true g = h.whole text at
    go text at false g = g

in_unit_whole : (n : ℤ) (w : List ℕ) → Whole (in_unit n w)
unfolding in_unit units days
in_unit_whole n w = table_whole n (stripped w) units (search (one_more, no_more, wholes) depth 30)

pub displaced_whole : (n : ℤ) → Whole (displaced n)
unfolding displaced alpha1
displaced_whole n = search (in_unit_whole, direction_whole, wholes) depth 30

pub displacement_whole : Whole displacement
unfolding displacement ordinal text_ordinal number_ordinal signed_number alpha1 sign
displacement_whole = search (displaced_whole, number_whole, wholes) depth 30
