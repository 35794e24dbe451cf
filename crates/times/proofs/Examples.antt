-- The definitions, computed: what each reader makes of a written text. Assumes nothing.
use Prim.Native.Nat.{ℕ}
use mathlib.Core.Path.{◌≡◌, refl}
use mathlib.Core.Bool.{true, false}
use lib.IntN.{ℤ, pos, negsuc}
use Rattle.primitive.proofs.Examples.{reads}
use Rattle.primitive.specs.Answer.{matched, none, stop}
use Rattle.primitive.specs.Text.{lower, lowered, bytes, blank, digit, letter, run, past, some, starts, tag}
use Rattle.primitive.specs.Primitive.{multispace0, closing, inside, comment, no_digit, sign, ignored_hyphen_or_plus, ignored, skip, space, decimal, parse_uint, dec_uint_str, dec_uint, colon, plus_or_minus, alpha1, same, named}
use Rattle.primitive.specs.Epoch.{zero_filled, nanoseconds, nonzero, lost, point_or_comma, fraction, sec_and_nsec}
use Rattle.primitive.specs.Ordinal.{signed, signed_number, ordinals, text_ordinal, number_ordinal, ordinal}
use Rattle.relative.specs.Relative.{direction, rounded, second_words, second_word, signed_seconds, seconds, days, units, stripped, in_unit, displaced, displacement}
use Rattle.relative.specs.Relative.{parse as relative}
use Rattle.times.specs.Offset.{in_range, moved, normalized, total_seconds, offset_of, timezone_offset_colon, digits_offset, timezone_offset_colonless, any_offset, signed_fraction, time_zone_correction, timezone_offset}
use Rattle.times.specs.Time.{below, hour24, hour12, minute, second, optional_second, optional_minute, optional_correction, hour_offset, clock, iso, meridiem, am_pm_time, parse}
use Rattle.times.specs.declared.offset.Offset.{Offset}
use Rattle.times.specs.declared.offset.Normalized.{Normalized}
use Rattle.times.specs.declared.time.Time.{Time}
use Rattle.std.specs.Prelude.{Option, Some, None}

-- an offset east and west of UTC
abbrev east : ℕ → ℕ → Offset
east h m = record { negative = false; hours = h; minutes = m }

abbrev west : ℕ → ℕ → Offset
west h m = record { negative = true; hours = h; minutes = m }

abbrev pub at_time : ℕ → ℕ → ℕ → ℕ → Option Offset → Time
at_time h m s n o = record { hour = h; minute = m; second = s; nanosecond = n; offset = o }

abbrev adjusted : Offset → ℤ → Normalized
adjusted o z = record { offset = o; hour_adjustment = z }

-- SCOPE, 'Zones' and 'Offsets and corrections': +25:00 is +23:00 and two hours earlier; 24:00 is not moved; +23:60 is 86400 seconds.
normal : (normalized (east 25 0) ≡ adjusted (east 23 0) (negsuc 1)) × (normalized (west 25 30) ≡ adjusted (west 23 30) (pos 2))
    × (normalized (east 24 0) ≡ adjusted (east 24 0) (pos 0)) × (normalized (east 24 30) ≡ adjusted (east 23 30) (negsuc 0))
    × (normalized (west 23 60) ≡ adjusted (west 23 60) (pos 0)) × (total_seconds (east 23 60) ≡ pos 86400) × (total_seconds (west 5 30) ≡ negsuc 19799)
    × (total_seconds (west 0 0) ≡ pos 0)
unfolding normalized moved total_seconds signed
normal = (refl, refl, refl, refl, refl, refl, refl, refl)

-- 29.3: '+0530' and '+05:30'; the forms without minutes, glued or behind space.
corrections : (reads time_zone_correction "+0530" ≡ matched (east 5 30) 5) × (reads time_zone_correction "+05:30" ≡ matched (east 5 30) 6)
    × (reads time_zone_correction "-0500" ≡ matched (west 5 0) 5) × (reads time_zone_correction "+8" ≡ matched (east 8 0) 2)
    × (reads time_zone_correction "+08" ≡ matched (east 8 0) 3) × (reads time_zone_correction "+800" ≡ matched (east 8 0) 4)
    × (reads time_zone_correction " - 8 : 5" ≡ matched (west 8 5) 8) × (reads time_zone_correction "+5:0x" ≡ matched (east 5 0) 4)
    × (reads time_zone_correction "0530" ≡ none)
unfolding lower lowered bytes blank digit letter run past some starts tag multispace0 closing inside comment no_digit sign ignored_hyphen_or_plus ignored skip space decimal parse_uint dec_uint_str dec_uint colon plus_or_minus zero_filled nanoseconds nonzero lost point_or_comma fraction in_range offset_of timezone_offset_colon digits_offset timezone_offset_colonless any_offset signed_fraction time_zone_correction
corrections = (refl, refl, refl, refl, refl, refl, refl, refl, refl)

-- SCOPE, 'Offsets and corrections': what is in range, what stops, and zeros that are lost.
ranges : (reads time_zone_correction "+24:00" ≡ matched (east 24 0) 6) × (reads time_zone_correction "+24:01" ≡ stop)
    × (reads time_zone_correction "+23:60" ≡ matched (east 23 60) 6) × (reads time_zone_correction "+23:61" ≡ stop)
    × (reads time_zone_correction "+25" ≡ stop) × (reads time_zone_correction "-2401" ≡ stop) × (reads time_zone_correction "+2360" ≡ matched (east 23 60) 5)
    × (reads time_zone_correction "+000000110" ≡ matched (east 1 10) 10) × (reads time_zone_correction "+0000530" ≡ matched (east 5 30) 8)
    × (reads time_zone_correction "+00005" ≡ matched (east 0 5) 6) × (reads time_zone_correction "+10000" ≡ none)
    × (reads time_zone_correction "+256:00" ≡ matched (east 2 56) 4) × (reads time_zone_correction "+5:256" ≡ matched (east 5 0) 2)
unfolding lower lowered bytes blank digit letter run past some starts tag multispace0 closing inside comment no_digit sign ignored_hyphen_or_plus ignored skip space decimal parse_uint dec_uint_str dec_uint colon plus_or_minus zero_filled nanoseconds nonzero lost point_or_comma fraction in_range offset_of timezone_offset_colon digits_offset timezone_offset_colonless any_offset signed_fraction time_zone_correction
ranges = (refl, refl, refl, refl, refl, refl, refl, refl, refl, refl, refl, refl, refl)

-- A relative item goes before an offset, not before a correction; a fraction is no correction. A stop out of range yields too.
yields : (reads timezone_offset "+2 hours" ≡ none) × (reads time_zone_correction "+2 hours" ≡ matched (east 2 0) 2)
    × (reads timezone_offset "+2 x" ≡ matched (east 2 0) 2) × (reads timezone_offset "+25 days" ≡ none) × (reads timezone_offset "+25" ≡ stop)
    × (reads timezone_offset "+1.5 seconds" ≡ none) × (reads time_zone_correction "+1.5 seconds" ≡ none)
    × (reads time_zone_correction "+1,5 seconds" ≡ none) × (reads time_zone_correction "+1. 5" ≡ matched (east 1 0) 2)
    × (reads timezone_offset "hours" ≡ none)
unfolding lower lowered bytes blank digit letter run past some starts tag multispace0 closing inside comment no_digit sign ignored_hyphen_or_plus ignored skip space decimal parse_uint dec_uint_str dec_uint colon plus_or_minus alpha1 same named zero_filled nanoseconds nonzero lost point_or_comma fraction sec_and_nsec signed signed_number ordinals text_ordinal number_ordinal ordinal direction rounded second_words second_word signed_seconds seconds days units stripped in_unit displaced displacement relative in_range offset_of timezone_offset_colon digits_offset timezone_offset_colonless any_offset signed_fraction time_zone_correction timezone_offset
yields = (refl, refl, refl, refl, refl, refl, refl, refl, refl, refl)

-- 29.3: the manual's four examples, all of the same time, and midnight and noon.
manual : (reads parse "20:02:00.000000" ≡ matched (at_time 20 2 0 0 None) 15) × (reads parse "20:02" ≡ matched (at_time 20 2 0 0 None) 5)
    × (reads parse "8:02pm" ≡ matched (at_time 20 2 0 0 None) 6) × (reads parse "20:02-0500" ≡ matched (at_time 20 2 0 0 (Some (west 5 0))) 10)
    × (reads parse "12am" ≡ matched (at_time 0 0 0 0 None) 4) × (reads parse "12pm" ≡ matched (at_time 12 0 0 0 None) 4)
    × (reads parse "20:02:00.052-05:00" ≡ matched (at_time 20 2 0 52000000 (Some (west 5 0))) 18)
    × (reads parse "23:59:59,999999999+11:00" ≡ matched (at_time 23 59 59 999999999 (Some (east 11 0))) 24)
unfolding lower lowered bytes blank digit letter run past some starts tag multispace0 closing inside comment no_digit sign ignored_hyphen_or_plus ignored skip space decimal parse_uint dec_uint_str dec_uint colon plus_or_minus alpha1 same named zero_filled nanoseconds nonzero lost point_or_comma fraction sec_and_nsec signed signed_number ordinals text_ordinal number_ordinal ordinal direction rounded second_words second_word signed_seconds seconds days units stripped in_unit displaced displacement relative in_range offset_of timezone_offset_colon digits_offset timezone_offset_colonless any_offset signed_fraction time_zone_correction timezone_offset below hour24 hour12 minute second optional_second optional_minute optional_correction hour_offset clock iso meridiem am_pm_time parse
manual = (refl, refl, refl, refl, refl, refl, refl, refl)

-- SCOPE, 'Times': hour 0 with am or pm stops; `:60` is left unread. The spellings of am and pm.
corners : (reads parse "0am" ≡ stop) × (reads parse "00:30 p.m." ≡ stop) × (reads parse "10:00:60" ≡ matched (at_time 10 0 0 0 None) 5)
    × (reads parse "1 a.m." ≡ matched (at_time 1 0 0 0 None) 6) × (reads parse "11:59:59.5P.M." ≡ matched (at_time 23 59 59 500000000 None) 14)
    × (reads parse "13:00pm" ≡ matched (at_time 13 0 0 0 None) 5) × (reads parse "24:00" ≡ none) × (reads parse "10:60" ≡ none)
    × (reads parse "10:00 +2 hours" ≡ matched (at_time 10 0 0 0 (Some (east 2 0))) 8) × (reads parse "10 +2 hours" ≡ none)
    × (reads parse "10 +2" ≡ matched (at_time 10 0 0 0 (Some (east 2 0))) 5) × (reads parse "10:00 +24:01" ≡ stop) × (reads parse "10 +24:01" ≡ stop)
    × (reads parse "10:00:60 +24:01" ≡ matched (at_time 10 0 0 0 None) 5) × (reads parse "10:00 +1.5 seconds" ≡ matched (at_time 10 0 0 0 None) 5)
    × (reads parse "10" ≡ none) × (reads parse "256:00" ≡ none) × (reads parse "3:04:05am" ≡ matched (at_time 3 4 5 0 None) 9)
    × (reads parse "3amx" ≡ matched (at_time 3 0 0 0 None) 3) × (reads parse "" ≡ none)
unfolding lower lowered bytes blank digit letter run past some starts tag multispace0 closing inside comment no_digit sign ignored_hyphen_or_plus ignored skip space decimal parse_uint dec_uint_str dec_uint colon plus_or_minus alpha1 same named zero_filled nanoseconds nonzero lost point_or_comma fraction sec_and_nsec signed signed_number ordinals text_ordinal number_ordinal ordinal direction rounded second_words second_word signed_seconds seconds days units stripped in_unit displaced displacement relative in_range offset_of timezone_offset_colon digits_offset timezone_offset_colonless any_offset signed_fraction time_zone_correction timezone_offset below hour24 hour12 minute second optional_second optional_minute optional_correction hour_offset clock iso meridiem am_pm_time parse
corners = (refl, refl, refl, refl, refl, refl, refl, refl, refl, refl, refl, refl, refl, refl, refl, refl, refl, refl, refl, refl)
