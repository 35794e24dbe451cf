-- Fractions of items, computed: the item that each text begins with, and the digits that `fraction_of` finds. Assumes nothing.
use Rattle.std.specs.Prelude.{Some, None}
use Prim.Native.Nat.{ℕ}
use Prim.Native.String.{String}
use native.Mathlib.Omega.{arith}
use native.Mathlib.Bridge.{le_by_compare, IsLe}
use mathlib.Core.Path.{◌≡◌, refl}
use lib.IntN.{pos, negsuc}
use Rattle.extended.specs.Calendar.{leap, month_days}
use Rattle.primitive.specs.Answer.{matched, dropped, none}
use Rattle.primitive.specs.Text.{lower, lowered, bytes, blank, digit, letter, run, past, some, starts, tag}
use Rattle.primitive.specs.Primitive.{multispace0, multispace1, closing, inside, comment, no_digit, sign, ignored_hyphen_or_plus, ignored, skip, space, decimal, parse_uint, dec_uint_str, dec_uint, colon, plus_or_minus, alpha1, same, named}
use Rattle.primitive.specs.Epoch.{zero_filled, nanoseconds, nonzero, lost, point_or_comma, fraction, sec_and_nsec}
use Rattle.primitive.specs.Ordinal.{signed, signed_number, ordinals, text_ordinal, number_ordinal, ordinal}
use Rattle.dates.specs.Year.{widened_by, year_from_str, year_str}
use Rattle.dates.specs.Date.{date_of, exists, with_year, without_year, dated, end_of_text, blank_or_end, ended, ended_year, dated_behind, nothing, hyphen, comma, dotted, iso1, five_digits, iso2, us_date, slash_part, us_rest, us, months, word_dot, literal_month, literal1, literal2, literal3, literal, parse_non_iso}
use Rattle.times.specs.Offset.{in_range, offset_of, timezone_offset_colon, digits_offset, timezone_offset_colonless, any_offset, signed_fraction, time_zone_correction, timezone_offset}
use Rattle.times.specs.Time.{below, hour24, hour12, minute, second, optional_second, optional_minute, optional_correction, hour_offset, clock, iso, meridiem, am_pm_time}
use Rattle.times.specs.Time.{parse as time-parse}
use Rattle.times.specs.declared.time.Time.{Time}
use Rattle.relative.specs.Relative.{direction, rounded, second_words, second_word, signed_seconds, seconds, days, units, stripped, in_unit, displaced, displacement}
use Rattle.relative.specs.Relative.{parse as relative-parse}
use Rattle.relative.specs.declared.Relative.TheVariants.{Seconds}
use Rattle.items.specs.Combined.{separator, meridiem_word, starts_with_meridiem, unless_meridiem, iso_alone, combined_time, parse_time_after_date}
use Rattle.items.specs.Items.{date_time_item, dated_item, iso_date, iso_item, date_item, time_item, relative_item, time_or_relative, other_item, parse_item}
use Rattle.items.specs.declared.Item.{Item}
use Rattle.items.specs.declared.Item.TheVariants as item
use Rattle.theorems_forms.specs.Fractions.{fraction_digits, clock_fraction, seconds_fraction, dated_fraction, no_fraction, fraction_of, Loses}
use Rattle.theorems_forms.proofs.Losses.{loses_none}

abbrev clock_time : ℕ → ℕ → ℕ → ℕ → Time
clock_time h m s n = record { hour = h; minute = m; second = s; nanosecond = n; offset = None }

abbrev both : ℕ → ℕ → ℕ → Time → Item
both y m d t = item.DateTime (record { date = date_of (Some y) m d; time = t })

-- The text begins with the item v, which ends at n and has lost a digit; `fraction_of` finds those digits up to `end`.
abbrev Lossy : String → Item → ℕ → String → ℕ → Type 0
Lossy text v n digits end = (parse_item (bytes text) 0 ≡ dropped v n) × (fraction_of v (bytes text) 0 ≡ matched (bytes digits) end)

-- The same of an item that has lost none.
abbrev Kept : String → Item → ℕ → String → ℕ → Type 0
Kept text v n digits end = (parse_item (bytes text) 0 ≡ matched v n) × (fraction_of v (bytes text) 0 ≡ matched (bytes digits) end)

-- an item without a fraction
abbrev Without : String → Item → ℕ → Type 0
Without text v n = (parse_item (bytes text) 0 ≡ matched v n) × (fraction_of v (bytes text) 0 ≡ none)

-- Second 60 is left unread: there the digits end after the item.
examples : Lossy "10:00:05.1234567891" (item.Time (clock_time 10 0 5 123456789)) 19 "1234567891" 19
    × Kept "10:00:05.1234567890" (item.Time (clock_time 10 0 5 123456789)) 19 "1234567890" 19
    × Lossy "10:00:05,0000000000001 pm" (item.Time (clock_time 22 0 5 0)) 25 "0000000000001" 22
    × Kept "10:00:60.1234567891" (item.Time (clock_time 10 0 0 0)) 5 "1234567891" 19
    × Lossy "1.0000000001 seconds ago" (item.Relative (Seconds (negsuc 0) 0)) 24 "0000000001" 12
    × Kept "+ 1.5 sec" (item.Relative (Seconds (pos 1) 500000000)) 9 "5" 5
    × Lossy "2024-03-13 10:00:05,1234567891" (both 2024 3 13 (clock_time 10 0 5 123456789)) 30 "1234567891" 30
    × Kept "2024-03-13 10:00:60.1234567891" (both 2024 3 13 (clock_time 10 0 0 0)) 16 "1234567891" 30
    × Without "2024-03-13" (item.Date (date_of (Some 2024) 3 13)) 10
    × Without "1.2.2024" (item.Date (date_of (Some 2024) 2 1)) 8
unfolding leap month_days lower lowered bytes blank digit letter run past some starts tag multispace0 multispace1 closing inside comment no_digit sign ignored_hyphen_or_plus ignored skip space decimal parse_uint dec_uint_str dec_uint colon plus_or_minus alpha1 same named zero_filled nanoseconds nonzero lost point_or_comma fraction sec_and_nsec signed signed_number ordinals text_ordinal number_ordinal ordinal widened_by year_from_str year_str exists with_year without_year dated end_of_text blank_or_end ended ended_year dated_behind nothing hyphen comma dotted iso1 five_digits iso2 us_date slash_part us_rest us months word_dot literal_month literal1 literal2 literal3 literal parse_non_iso in_range offset_of timezone_offset_colon digits_offset timezone_offset_colonless any_offset signed_fraction time_zone_correction timezone_offset below hour24 hour12 minute second optional_second optional_minute optional_correction hour_offset clock iso meridiem am_pm_time time-parse direction rounded second_words second_word signed_seconds seconds days units stripped in_unit displaced displacement relative-parse separator meridiem_word starts_with_meridiem unless_meridiem iso_alone combined_time parse_time_after_date date_time_item dated_item iso_date iso_item date_item time_item relative_item time_or_relative other_item parse_item fraction_digits clock_fraction seconds_fraction dated_fraction no_fraction fraction_of
examples = ((refl, refl), (refl, refl), (refl, refl), (refl, refl), (refl, refl), (refl, refl), (refl, refl), (refl, refl), (refl, refl), (refl, refl))

lost_digit : Loses (bytes "10:00:05.1234567891") 0 (item.Time (clock_time 10 0 5 123456789)) 19
unfolding IsLe bytes
lost_digit = record {
  digits = bytes "1234567891";
  end = 19;
  there = examples.0.1;
  within = le_by_compare 19 19 tt;
  place = 9;
  late = le_by_compare 9 9 tt;
  inside = le_by_compare 10 10 tt;
  other = λ z. omega arith;
}

no_lost_digit : Loses (bytes "10:00:60.1234567891") 0 (item.Time (clock_time 10 0 0 0)) 5 → ⊥
no_lost_digit = loses_none (bytes "10:00:60.1234567891") 0 (item.Time (clock_time 10 0 0 0)) 5 examples.3.0
