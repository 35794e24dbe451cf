-- The definitions, computed: the manual's worked examples as one table with one claim, and the corners of docs/SCOPE.md. Assumes nothing.
use Rattle.std.specs.Prelude.{Option, Some, None}
use Rattle.times.proofs.Examples.{at_time}
use Rattle.times.specs.declared.offset.Offset.{Offset}
use Prim.Native.Nat.{ℕ}
use Prim.Native.String.{String}
use mathlib.Core.Path.{◌≡◌, refl}
use mathlib.Core.List.{List, [], ◌∷◌}
use mathlib.Core.Bool.{Bool, true, false}
use lib.IntN.{pos, negsuc}
use Rattle.extended.specs.Calendar.{leap, month_days}
use Rattle.primitive.specs.Answer.{Answer, matched, none, stop}
use Rattle.primitive.specs.Text.{lower, lowered, bytes, blank, digit, letter, run, past, some, starts, tag}
use Rattle.primitive.specs.Primitive.{multispace0, multispace1, closing, inside, comment, no_digit, sign, ignored_hyphen_or_plus, ignored, skip, space, decimal, parse_uint, dec_uint_str, dec_uint, colon, plus_or_minus, alpha1, same, named}
use Rattle.primitive.specs.Epoch.{zero_filled, nanoseconds, nonzero, lost, point_or_comma, fraction, sec_and_nsec}
use Rattle.primitive.specs.Ordinal.{signed, signed_number, ordinals, text_ordinal, number_ordinal, ordinal}
use Rattle.dates.specs.Year.{widened_by, year_from_str, year_str}
use Rattle.dates.specs.Date.{date_of, exists, with_year, without_year, dated, end_of_text, blank_or_end, ended, ended_year, dated_behind, nothing, hyphen, comma, dotted, iso1, five_digits, iso2, us_date, slash_part, us_rest, us, months, word_dot, literal_month, literal1, literal2, literal3, literal, parse_non_iso}
use Rattle.times.specs.Offset.{in_range, offset_of, timezone_offset_colon, digits_offset, timezone_offset_colonless, any_offset, signed_fraction, time_zone_correction, timezone_offset}
use Rattle.times.specs.Time.{below, hour24, hour12, minute, second, optional_second, optional_minute, optional_correction, hour_offset, clock, iso, meridiem, am_pm_time}
use Rattle.times.specs.Time.{parse as time-parse}
use Rattle.times.specs.declared.time.Time.{Time}
use Rattle.relative.specs.Relative.{direction, rounded, second_words, second_word, signed_seconds, seconds, days, units, stripped, in_unit, displaced, displacement}
use Rattle.relative.specs.Relative.{parse as relative-parse}
use Rattle.relative.specs.declared.Relative.TheVariants.{Years, Days, Hours}
use Rattle.items.specs.Combined.{separator, meridiem_word, starts_with_meridiem, unless_meridiem, iso_alone, combined_time, parse_time_after_date}
use Rattle.items.specs.Items.{date_time_item, dated_item, iso_date, iso_item, date_item, time_item, relative_item, time_or_relative, other_item, parse_item, items_from, parse_items, rust_item, rust_items}
use Rattle.items.specs.declared.Item.{Item}
use Rattle.items.specs.declared.Item.TheVariants as item

abbrev date : ℕ → ℕ → ℕ → Item
date y m d = item.Date (date_of (Some y) m d)

abbrev both : ℕ → ℕ → ℕ → Time → Item
both y m d t = item.DateTime (record { date = date_of (Some y) m d; time = t })

abbrev at_offset : Bool → ℕ → ℕ → Option Offset
at_offset negative h m = Some (record { negative = negative; hours = h; minutes = m })

-- a text, and what the first item of it is
pub data Example : Type 0 where
  reads : String → Answer Item → Example

abbrev pub Right : List Example → Type 0
Right [] = Unit {0}
Right (reads text a ∷ es) = (parse_item (lowered (bytes text)) 0 ≡ a) × Right es

-- 29.2, 29.3, 29.5 and 29.7, in their order; `1970-01-01 00:00Z` is outside the domain
pub manual : List Example
manual =
    reads "2020-07-20" (matched (date 2020 7 20) 10) ∷ reads "20-7-20" (matched (date 2020 7 20) 7)
    ∷ reads "7/20/2020" (matched (date 2020 7 20) 9) ∷ reads "20 July 2020" (matched (date 2020 7 20) 12)
    ∷ reads "20 Jul 2020" (matched (date 2020 7 20) 11) ∷ reads "Jul 20, 2020" (matched (date 2020 7 20) 12)
    ∷ reads "20-jul-2020" (matched (date 2020 7 20) 11) ∷ reads "20jul2020" (matched (date 2020 7 20) 9)
    ∷ reads "7/20" (matched (item.Date (date_of None 7 20)) 4) ∷ reads "jul 20" (matched (item.Date (date_of None 7 20)) 6)
    ∷ reads "20:02:00.000000" (matched (item.Time (at_time 20 2 0 0 None)) 15)
    ∷ reads "20:02" (matched (item.Time (at_time 20 2 0 0 None)) 5)
    ∷ reads "8:02pm" (matched (item.Time (at_time 20 2 0 0 None)) 6)
    ∷ reads "20:02-0500" (matched (item.Time (at_time 20 2 0 0 (at_offset true 5 0))) 10)
    ∷ reads "2012-09-24T20:02:00.052-05:00" (matched (both 2012 9 24 (at_time 20 2 0 52000000 (at_offset true 5 0))) 29)
    ∷ reads "2012-12-31T23:59:59,999999999+11:00" (matched (both 2012 12 31 (at_time 23 59 59 999999999 (at_offset false 11 0))) 35)
    ∷ reads "1 year" (matched (item.Relative (Years (pos 1))) 6) ∷ reads "1 year ago" (matched (item.Relative (Years (negsuc 0))) 10)
    ∷ reads "3 years" (matched (item.Relative (Years (pos 3))) 7) ∷ reads "2 days" (matched (item.Relative (Days (pos 2))) 6)
    ∷ []

pub manual_right : Right manual
unfolding leap month_days lower lowered bytes blank digit letter run past some starts tag multispace0 multispace1 closing inside comment no_digit sign ignored_hyphen_or_plus ignored skip space decimal parse_uint dec_uint_str dec_uint colon plus_or_minus alpha1 same named zero_filled nanoseconds nonzero lost point_or_comma fraction sec_and_nsec signed signed_number ordinals text_ordinal number_ordinal ordinal widened_by year_from_str year_str exists with_year without_year dated end_of_text blank_or_end ended ended_year dated_behind nothing hyphen comma dotted iso1 five_digits iso2 us_date slash_part us_rest us months word_dot literal_month literal1 literal2 literal3 literal parse_non_iso in_range offset_of timezone_offset_colon digits_offset timezone_offset_colonless any_offset signed_fraction time_zone_correction timezone_offset below hour24 hour12 minute second optional_second optional_minute optional_correction hour_offset clock iso meridiem am_pm_time time-parse direction rounded second_words second_word signed_seconds seconds days units stripped in_unit displaced displacement relative-parse separator meridiem_word starts_with_meridiem unless_meridiem iso_alone combined_time parse_time_after_date date_time_item dated_item iso_date iso_item date_item time_item relative_item time_or_relative other_item parse_item manual
manual_right = (
  refl,
  (
    refl,
    (
      refl,
      (
        refl,
        (
          refl,
          (
            refl,
            (
              refl,
              (
                refl,
                (
                  refl,
                  (
                    refl,
                    (
                      refl,
                      (
                        refl,
                        (
                          refl,
                          (
                            refl,
                            (
                              refl,
                              (
                                refl,
                                (
                                  refl,
                                  (
                                    refl,
                                    (
                                      refl,
                                      (refl, tt),
                                    ),
                                  ),
                                ),
                              ),
                            ),
                          ),
                        ),
                      ),
                    ),
                  ),
                ),
              ),
            ),
          ),
        ),
      ),
    ),
  ),
)

-- A date followed by no time is a date alone; am or pm sends a time to `time::parse`, behind blanks and not behind a comment; what stops
-- in an ISO time may be a time in 12 hours; hour 0 with am stops the item.
corners : (parse_item (lowered (bytes "2020-07-20 x")) 0 ≡ matched (date 2020 7 20) 10)
    × (parse_item (lowered (bytes "2020-07-20 +2 hours")) 0 ≡ matched (date 2020 7 20) 10)
    × (parse_item (lowered (bytes "2020-07-20 10:00 pm")) 0 ≡ matched (both 2020 7 20 (at_time 22 0 0 0 None)) 19)
    × (parse_item (lowered (bytes "2020-07-20 10:00(c)pm")) 0 ≡ matched (both 2020 7 20 (at_time 10 0 0 0 None)) 16)
    × (parse_item (lowered (bytes "2020-07-20 0:30am")) 0 ≡ stop) × (parse_item (lowered (bytes "20200720t1 pm")) 0 ≡ matched (both 2020 7 20 (at_time 13 0 0 0 None)) 13)
    × (parse_item (lowered (bytes "2020-07-20 10:00 +25:00")) 0 ≡ stop) × (parse_item (lowered (bytes "10:00 +2 hours")) 0 ≡ matched (item.Time (at_time 10 0 0 0 (at_offset false 2 0))) 8)
    × (parse_item (lowered (bytes "hours")) 0 ≡ matched (item.Relative (Hours (pos 1))) 5) × (parse_item (lowered (bytes "monday")) 0 ≡ none)
    × (parse_item (lowered (bytes "")) 0 ≡ none)
unfolding leap month_days lower lowered bytes blank digit letter run past some starts tag multispace0 multispace1 closing inside comment no_digit sign ignored_hyphen_or_plus ignored skip space decimal parse_uint dec_uint_str dec_uint colon plus_or_minus alpha1 same named zero_filled nanoseconds nonzero lost point_or_comma fraction sec_and_nsec signed signed_number ordinals text_ordinal number_ordinal ordinal widened_by year_from_str year_str exists with_year without_year dated end_of_text blank_or_end ended ended_year dated_behind nothing hyphen comma dotted iso1 five_digits iso2 us_date slash_part us_rest us months word_dot literal_month literal1 literal2 literal3 literal parse_non_iso in_range offset_of timezone_offset_colon digits_offset timezone_offset_colonless any_offset signed_fraction time_zone_correction timezone_offset below hour24 hour12 minute second optional_second optional_minute optional_correction hour_offset clock iso meridiem am_pm_time time-parse direction rounded second_words second_word signed_seconds seconds days units stripped in_unit displaced displacement relative-parse separator meridiem_word starts_with_meridiem unless_meridiem iso_alone combined_time parse_time_after_date date_time_item dated_item iso_date iso_item date_item time_item relative_item time_or_relative other_item parse_item
corners = (refl, refl, refl, refl, refl, refl, refl, refl, refl, refl, refl)

-- The number and the place that a text's items end with: here, and as the Rust reads them.
abbrev Here : String → ℕ → ℕ → Type 0
Here text n p = ((parse_items (lowered (bytes text))).number ≡ n) × ((parse_items (lowered (bytes text))).place ≡ p)

abbrev Rust : String → ℕ → ℕ → Type 0
Rust text n p = ((rust_items (lowered (bytes text))).number ≡ n) × ((rust_items (lowered (bytes text))).place ≡ p)

-- docs/requests/02-long-fractions.md: 22 comes before what follows in the text and before the rules of the items; only a fraction that an item takes counts.
long_fractions : Here "10:00 11:00:00.1234567891" 22 5 × Rust "10:00 11:00:00.1234567891" 0 0
    × Here "10:00 +1.1234567891 seconds x" 22 5 × Rust "10:00 +1.1234567891 seconds x" 3 27
    × Here "-5.0000000001 seconds" 22 0 × Here "-5.0000000000 seconds" 0 0 × Here "1.0000000002.2024" 0 0 × Here "10:00 (.1234567891)" 0 0
    × Here "10:00:60.1234567891" 3 5 × Here "5.1234567891 days" 3 0 × Here "9223372036854775808.1234567891 sec" 3 0
    × Here "10:00:00.1234567891 +24:01" 4 0 × Here "0:00:00.1234567891 am" 4 0 × Here "10 +2.1234567891 seconds" 3 0
unfolding leap month_days lower lowered bytes blank digit letter run past some starts tag multispace0 multispace1 closing inside comment no_digit sign ignored_hyphen_or_plus ignored skip space decimal parse_uint dec_uint_str dec_uint colon plus_or_minus alpha1 same named zero_filled nanoseconds nonzero lost point_or_comma fraction sec_and_nsec signed signed_number ordinals text_ordinal number_ordinal ordinal widened_by year_from_str year_str exists with_year without_year dated end_of_text blank_or_end ended ended_year dated_behind nothing hyphen comma dotted iso1 five_digits iso2 us_date slash_part us_rest us months word_dot literal_month literal1 literal2 literal3 literal parse_non_iso in_range offset_of timezone_offset_colon digits_offset timezone_offset_colonless any_offset signed_fraction time_zone_correction timezone_offset below hour24 hour12 minute second optional_second optional_minute optional_correction hour_offset clock iso meridiem am_pm_time time-parse direction rounded second_words second_word signed_seconds seconds days units stripped in_unit displaced displacement relative-parse separator meridiem_word starts_with_meridiem unless_meridiem iso_alone combined_time parse_time_after_date date_time_item dated_item iso_date iso_item date_item time_item relative_item time_or_relative other_item parse_item items_from parse_items rust_item rust_items
long_fractions = ((refl, refl), (refl, refl), (refl, refl), (refl, refl), (refl, refl), (refl, refl), (refl, refl), (refl, refl), (refl, refl), (refl, refl), (refl, refl), (refl, refl), (refl, refl), (refl, refl))
