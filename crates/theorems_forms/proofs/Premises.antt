-- What the premises of the written forms keep out, computed: beside each form a text that does not meet its premise, and what is read
-- there. Assumes nothing.
use Rattle.std.specs.Prelude.{Some, None}
use Prim.Native.Nat.{ℕ}
use mathlib.Core.Path.{◌≡◌, refl}
use mathlib.Core.Bool.{false}
use lib.IntN.{pos, negsuc}
use Rattle.extended.specs.Calendar.{leap, month_days}
use Rattle.primitive.specs.Answer.{matched, none}
use Rattle.primitive.specs.Text.{lower, lowered, bytes, blank, digit, letter, run, past, some, starts, tag}
use Rattle.primitive.specs.Primitive.{multispace0, multispace1, closing, inside, comment, no_digit, sign, ignored_hyphen_or_plus, ignored, skip, space, decimal, parse_uint, dec_uint_str, dec_uint, colon, plus_or_minus, alpha1, same, named}
use Rattle.primitive.specs.Epoch.{zero_filled, nanoseconds, nonzero, lost, point_or_comma, fraction, sec_and_nsec}
use Rattle.primitive.specs.Ordinal.{signed, signed_number, ordinals, text_ordinal, number_ordinal, ordinal}
use Rattle.dates.specs.Year.{widened_by, year_from_str, year_str}
use Rattle.dates.specs.Date.{date_of, exists, with_year, without_year, dated, end_of_text, blank_or_end, ended, ended_year, dated_behind, nothing, hyphen, comma, dotted, iso1, five_digits, iso2, us_date, slash_part, us_rest, us, months, word_dot, literal_month, literal1, literal2, literal3, literal, parse_non_iso}
use Rattle.times.specs.Offset.{in_range, offset_of, timezone_offset_colon, digits_offset, timezone_offset_colonless, any_offset, signed_fraction, time_zone_correction, timezone_offset}
use Rattle.times.specs.Time.{below, hour24, hour12, minute, second, optional_second, optional_minute, optional_correction, hour_offset, clock, iso, meridiem, am_pm_time}
use Rattle.times.specs.Time.{parse as time-parse}
use Rattle.relative.specs.Relative.{direction, rounded, second_words, second_word, signed_seconds, seconds, days, units, stripped, in_unit, displaced, displacement}
use Rattle.relative.specs.Relative.{parse as relative-parse}
use Rattle.relative.specs.declared.Relative.TheVariants.{Years, Seconds}
use Rattle.items.specs.Combined.{separator, meridiem_word, starts_with_meridiem, unless_meridiem, iso_alone, combined_time, parse_time_after_date}
use Rattle.items.specs.Items.{date_time_item, dated_item, iso_date, iso_item, date_item, time_item, relative_item, time_or_relative, other_item, parse_item}
use Rattle.items.specs.declared.Item.{Item}
use Rattle.items.specs.declared.Item.TheVariants as item

abbrev date : ℕ → ℕ → ℕ → Item
date y m d = item.Date (date_of (Some y) m d)

-- Digits in a row that are a date are read as one in front of a unit and of a slash, but not behind a blank. A month in front of a slash has
-- three digits or fewer. A number behind day and month is the year where a blank or the end of the text follows.
pub dates_first : (parse_item (bytes "20221114 seconds") 0 ≡ matched (date 2022 11 14) 8)
    × (parse_item (bytes " 20221114 seconds") 0 ≡ matched (item.Relative (Seconds (pos 20221114) 0)) 17)
    × (parse_item (bytes " 20221114") 0 ≡ none)
    × (parse_item (bytes "20221/11/14") 0 ≡ matched (date 2 2 21) 5)
    × (parse_item (bytes "0007/20/2020") 0 ≡ none)
    × (parse_item (bytes "14 nov 10 am") 0 ≡ matched (date 2010 11 14) 10)
    × (parse_item (bytes "14 nov 10am") 0 ≡ matched (item.Date (date_of None 11 14)) 6)
    × (parse_item (bytes "20221114 -1 day") 0 ≡ matched (date 2022 11 14) 8)
unfolding leap month_days lower lowered bytes blank digit letter run past some starts tag multispace0 multispace1 closing inside comment no_digit sign ignored_hyphen_or_plus ignored skip space decimal parse_uint dec_uint_str dec_uint colon plus_or_minus alpha1 same named zero_filled nanoseconds nonzero lost point_or_comma fraction sec_and_nsec signed signed_number ordinals text_ordinal number_ordinal ordinal widened_by year_from_str year_str exists with_year without_year dated end_of_text blank_or_end ended ended_year dated_behind nothing hyphen comma dotted iso1 five_digits iso2 us_date slash_part us_rest us months word_dot literal_month literal1 literal2 literal3 literal parse_non_iso in_range offset_of timezone_offset_colon digits_offset timezone_offset_colonless any_offset signed_fraction time_zone_correction timezone_offset below hour24 hour12 minute second optional_second optional_minute optional_correction hour_offset clock iso meridiem am_pm_time time-parse direction rounded second_words second_word signed_seconds seconds days units stripped in_unit displaced displacement relative-parse separator meridiem_word starts_with_meridiem unless_meridiem iso_alone combined_time parse_time_after_date date_time_item dated_item iso_date iso_item date_item time_item relative_item time_or_relative other_item parse_item
dates_first = (refl, refl, refl, refl, refl, refl, refl, refl)

-- No number past an i32 counts a unit but seconds, a word of letters is read whole, and a direction is a beginning.
pub words_whole : (parse_item (bytes "2147483648 days") 0 ≡ none) × (parse_item (bytes "lastyear") 0 ≡ none) × (parse_item (bytes "1 yearly") 0 ≡ none) × (parse_item (bytes "1 year agog") 0 ≡ matched (item.Relative (Years (negsuc 0))) 10)
unfolding leap month_days lower lowered bytes blank digit letter run past some starts tag multispace0 multispace1 closing inside comment no_digit sign ignored_hyphen_or_plus ignored skip space decimal parse_uint dec_uint_str dec_uint colon plus_or_minus alpha1 same named zero_filled nanoseconds nonzero lost point_or_comma fraction sec_and_nsec signed signed_number ordinals text_ordinal number_ordinal ordinal widened_by year_from_str year_str exists with_year without_year dated end_of_text blank_or_end ended ended_year dated_behind nothing hyphen comma dotted iso1 five_digits iso2 us_date slash_part us_rest us months word_dot literal_month literal1 literal2 literal3 literal parse_non_iso in_range offset_of timezone_offset_colon digits_offset timezone_offset_colonless any_offset signed_fraction time_zone_correction timezone_offset below hour24 hour12 minute second optional_second optional_minute optional_correction hour_offset clock iso meridiem am_pm_time time-parse direction rounded second_words second_word signed_seconds seconds days units stripped in_unit displaced displacement relative-parse separator meridiem_word starts_with_meridiem unless_meridiem iso_alone combined_time parse_time_after_date date_time_item dated_item iso_date iso_item date_item time_item relative_item time_or_relative other_item parse_item
words_whole = (refl, refl, refl, refl)

-- A time in 24 hours ends in front of am or pm where its hour is past 12, and a correction is read with a colon first.
pub times_first : (parse_item (bytes "13:00 pm") 0 ≡ matched (item.Time (record { hour = 13; minute = 0; second = 0; nanosecond = 0; offset = None })) 5)
    × (parse_item (bytes "10:00 +05:x") 0 ≡ matched (item.Time (record { hour = 10; minute = 0; second = 0; nanosecond = 0; offset = Some (record { negative = false; hours = 5; minutes = 0 }) })) 9)
    × (parse_item (bytes "10:00 +1.5 sec") 0 ≡ matched (item.Time (record { hour = 10; minute = 0; second = 0; nanosecond = 0; offset = None })) 5)
    × (parse_item (bytes "2022-11-14 10:00 am") 0 ≡ matched (item.DateTime (record { date = date_of (Some 2022) 11 14; time = record { hour = 10; minute = 0; second = 0; nanosecond = 0; offset = None } })) 19)
unfolding leap month_days lower lowered bytes blank digit letter run past some starts tag multispace0 multispace1 closing inside comment no_digit sign ignored_hyphen_or_plus ignored skip space decimal parse_uint dec_uint_str dec_uint colon plus_or_minus alpha1 same named zero_filled nanoseconds nonzero lost point_or_comma fraction sec_and_nsec signed signed_number ordinals text_ordinal number_ordinal ordinal widened_by year_from_str year_str exists with_year without_year dated end_of_text blank_or_end ended ended_year dated_behind nothing hyphen comma dotted iso1 five_digits iso2 us_date slash_part us_rest us months word_dot literal_month literal1 literal2 literal3 literal parse_non_iso in_range offset_of timezone_offset_colon digits_offset timezone_offset_colonless any_offset signed_fraction time_zone_correction timezone_offset below hour24 hour12 minute second optional_second optional_minute optional_correction hour_offset clock iso meridiem am_pm_time time-parse direction rounded second_words second_word signed_seconds seconds days units stripped in_unit displaced displacement relative-parse separator meridiem_word starts_with_meridiem unless_meridiem iso_alone combined_time parse_time_after_date date_time_item dated_item iso_date iso_item date_item time_item relative_item time_or_relative other_item parse_item
times_first = (refl, refl, refl, refl)
