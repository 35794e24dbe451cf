-- The definitions, computed: what each reader makes of a written text. Assumes nothing.
use mathlib.Core.Path.{◌≡◌, refl}
use mathlib.Core.Bool.{true, false}
use lib.IntN.{pos, negsuc}
use Rattle.primitive.proofs.Examples.{reads}
use Rattle.primitive.specs.Answer.{matched, none}
use Rattle.primitive.specs.Text.{lower, lowered, bytes, blank, digit, letter, run, past, some, starts, tag}
use Rattle.primitive.specs.Primitive.{multispace0, closing, inside, comment, no_digit, sign, ignored_hyphen_or_plus, ignored, skip, space, decimal, parse_uint, dec_uint_str, dec_uint, plus_or_minus, alpha1, same, named}
use Rattle.primitive.specs.Epoch.{zero_filled, nanoseconds, nonzero, lost, point_or_comma, fraction, sec_and_nsec}
use Rattle.primitive.specs.Ordinal.{signed, signed_number, ordinals, text_ordinal, number_ordinal, ordinal}
use Rattle.relative.specs.Relative.{direction, rounded, second_words, second_word, signed_seconds, seconds, days, units, stripped, in_unit, displaced, displacement, parse}
use Rattle.relative.specs.declared.Relative.TheVariants.{Years, Months, Days, Hours, Minutes, Seconds}

-- 29.7: the manual's examples, and a number of months below 0.
manual : (reads parse "1 year" ≡ matched (Years (pos 1)) 6) × (reads parse "1 year ago" ≡ matched (Years (negsuc 0)) 10)
    × (reads parse "3 years" ≡ matched (Years (pos 3)) 7) × (reads parse "2 days" ≡ matched (Days (pos 2)) 6)
    × (reads parse "-1 month" ≡ matched (Months (negsuc 0)) 8) × (reads parse "day" ≡ matched (Days (pos 1)) 3)
    × (reads parse "day ago" ≡ matched (Days (negsuc 0)) 7)
unfolding lower lowered bytes blank digit letter run past some starts tag multispace0 closing inside comment no_digit sign ignored_hyphen_or_plus ignored skip space decimal parse_uint dec_uint_str dec_uint plus_or_minus alpha1 same named zero_filled nanoseconds nonzero lost point_or_comma fraction sec_and_nsec signed signed_number ordinals text_ordinal number_ordinal ordinal direction rounded second_words second_word signed_seconds seconds days units stripped in_unit displaced displacement parse
manual = (refl, refl, refl, refl, refl, refl, refl)

-- Every unit, with and without its `s`; one `s` alone is ignored.
all_units : (reads parse "Months" ≡ matched (Months (pos 1)) 6) × (reads parse "fortnight" ≡ matched (Days (pos 14)) 9)
    × (reads parse "-2 fortnights" ≡ matched (Days (negsuc 27)) 13) × (reads parse "last week" ≡ matched (Days (negsuc 6)) 9)
    × (reads parse "3 weeks hence" ≡ matched (Days (pos 21)) 13) × (reads parse "+2 hours" ≡ matched (Hours (pos 2)) 8)
    × (reads parse "third minute" ≡ matched (Minutes (pos 3)) 12) × (reads parse "5mins" ≡ matched (Minutes (pos 5)) 5)
    × (reads parse "last second" ≡ matched (Seconds (negsuc 0) 0) 11) × (reads parse "secs" ≡ matched (Seconds (pos 1) 0) 4)
    × (reads parse "this year" ≡ matched (Years (pos 0)) 9) × (reads parse "3 yearss" ≡ none) × (reads parse "s" ≡ none)
unfolding lower lowered bytes blank digit letter run past some starts tag multispace0 closing inside comment no_digit sign ignored_hyphen_or_plus ignored skip space decimal parse_uint dec_uint_str dec_uint plus_or_minus alpha1 same named zero_filled nanoseconds nonzero lost point_or_comma fraction sec_and_nsec signed signed_number ordinals text_ordinal number_ordinal ordinal direction rounded second_words second_word signed_seconds seconds days units stripped in_unit displaced displacement parse
all_units = (refl, refl, refl, refl, refl, refl, refl, refl, refl, refl, refl, refl, refl)

-- SCOPE, 'Relative items': seconds round down; those that no i64 can represent are no match.
fractions : (reads parse "1.5 seconds ago" ≡ matched (Seconds (negsuc 1) 500000000) 15)
    × (reads parse "-0,25 sec" ≡ matched (Seconds (negsuc 0) 750000000) 9) × (reads parse "-2 secs ago" ≡ matched (Seconds (pos 2) 0) 11)
    × (reads parse "-1.000000000 second" ≡ matched (Seconds (negsuc 0) 0) 19) × (reads parse "1.5 seconds" ≡ matched (Seconds (pos 1) 500000000) 11)
    × (reads parse "9223372036854775807 seconds" ≡ matched (Seconds (pos 9223372036854775807) 0) 27)
    × (reads parse "9223372036854775808 seconds" ≡ none)
    × (reads parse "-9223372036854775807.5 sec" ≡ matched (Seconds (negsuc 9223372036854775807) 500000000) 26)
    × (reads parse "1.5 hours" ≡ none) × (reads seconds "1 minute" ≡ none)
unfolding lower lowered bytes blank digit letter run past some starts tag multispace0 closing inside comment no_digit sign ignored_hyphen_or_plus ignored skip space decimal parse_uint dec_uint_str dec_uint plus_or_minus alpha1 same named zero_filled nanoseconds nonzero lost point_or_comma fraction sec_and_nsec signed signed_number ordinals text_ordinal number_ordinal ordinal direction rounded second_words second_word signed_seconds seconds days units stripped in_unit displaced displacement parse
fractions = (refl, refl, refl, refl, refl, refl, refl, refl, refl, refl)

-- The last numbers that fit: a number of days that no i32 holds is no match, and so is a number that no ordinal is.
limits : (reads parse "153391689 fortnights" ≡ matched (Days (pos 2147483646)) 20) × (reads parse "153391690 fortnights" ≡ none)
    × (reads parse "306783378 weeks ago" ≡ matched (Days (negsuc 2147483645)) 19) × (reads parse "-306783379 weeks" ≡ none)
    × (reads parse "2147483647 days ago" ≡ matched (Days (negsuc 2147483646)) 19) × (reads parse "2147483648 days" ≡ none)
    × (reads parse "-2147483648 days" ≡ none)
unfolding lower lowered bytes blank digit letter run past some starts tag multispace0 closing inside comment no_digit sign ignored_hyphen_or_plus ignored skip space decimal parse_uint dec_uint_str dec_uint plus_or_minus alpha1 same named zero_filled nanoseconds nonzero lost point_or_comma fraction sec_and_nsec signed signed_number ordinals text_ordinal number_ordinal ordinal direction rounded second_words second_word signed_seconds seconds days units stripped in_unit displaced displacement parse
limits = (refl, refl, refl, refl, refl, refl, refl)

-- A direction is a beginning; an ordinal that was read is kept; words outside the domain are not read; comments stand between tokens.
corners : (reads parse "day agog" ≡ matched (Days (negsuc 0)) 7) × (reads parse "day ahead" ≡ matched (Days (pos 1)) 3)
    × (reads direction " ago" ≡ matched true 4) × (reads direction "hence" ≡ matched false 5) × (reads direction " then" ≡ matched false 0)
    × (reads parse "last" ≡ none) × (reads parse "last monday" ≡ none) × (reads parse "tomorrow" ≡ none) × (reads parse "now" ≡ none)
    × (reads parse "today" ≡ none) × (reads parse "yesterday" ≡ none) × (reads parse "- 3 (c) days" ≡ matched (Days (negsuc 2)) 12)
    × (reads parse "-(c)3 days" ≡ matched (Days (pos 3)) 10) × (reads parse "" ≡ none) × (reads parse "12" ≡ none)
unfolding lower lowered bytes blank digit letter run past some starts tag multispace0 closing inside comment no_digit sign ignored_hyphen_or_plus ignored skip space decimal parse_uint dec_uint_str dec_uint plus_or_minus alpha1 same named zero_filled nanoseconds nonzero lost point_or_comma fraction sec_and_nsec signed signed_number ordinals text_ordinal number_ordinal ordinal direction rounded second_words second_word signed_seconds seconds days units stripped in_unit displaced displacement parse
corners = (refl, refl, refl, refl, refl, refl, refl, refl, refl, refl, refl, refl, refl, refl, refl)
