-- The manual's worked examples, each by the theorem of its form: what the theorems ask for can be met. Assumes nothing.
use Rattle.std.specs.Prelude.{Option, Some, None}
use Rattle.times.specs.declared.offset.Offset.{Offset}
use native.Mathlib.Omega.{arith}
use borrow.Author.Tests.{ltb-true, leb-true}
use Prim.Native.Nat.{ℕ}
use mathlib.Core.Path.{◌≡◌, refl}
use mathlib.Core.List.{List, []}
use mathlib.Core.Bool.{true, false, ◌&&◌}
use lib.ListN.{length}
use lib.Dec.{ltb, leb}
use lib.IntN.{pos, negsuc}
use Rattle.extended.specs.Calendar.{leap, month_days}
use Rattle.answers.specs.Limits.{last_year}
use Rattle.primitive.specs.Text.{bytes, blank, digit, letter}
use Rattle.primitive.specs.Primitive.{decimal, same}
use Rattle.primitive.specs.Epoch.{zero_filled, nanoseconds, nonzero, lost}
use Rattle.primitive.specs.Ordinal.{signed, ordinals}
use Rattle.dates.specs.Year.{widened_by, widened}
use Rattle.dates.specs.Date.{date_of, exists, months}
use Rattle.times.specs.Offset.{in_range}
use Rattle.relative.specs.Relative.{rounded}
use Rattle.relative.specs.declared.Relative.TheVariants.{Years, Days, Seconds}
use Rattle.items.specs.Items.{parse_item}
use Rattle.items.specs.declared.Item.{Item}
use Rattle.items.specs.declared.Item.TheVariants as item
use Rattle.primitive.proofs.Walk.{Reads, at_once, not_behind_space}
use Rattle.primitive.proofs.Leaves.{plain, minus, still, blanks, over_sign, byte_else, colon_else, fraction_else, seconds_read, fractional_read}
use Rattle.primitive.proofs.Rows.{all, halves, Number}
use Rattle.primitive.proofs.WordTables.{entry, lacks}
use Rattle.dates.proofs.Forms.{Year, text_ends, no_slash_part, short_no_date, with_it, without_it, no_digit_year}
use Rattle.dates.proofs.LiteralForms.{Month, month_names, hyphen_read, no_hyphen_read, comma_read, no_comma_read}
use Rattle.items.proofs.DateTimes.{no_meridiem, iso_time, other_time, hour_alone, combined_hyphens, combined_row, no_time_behind}
use Rattle.times.proofs.Forms.{iso_read, half_day_item, second_read, no_minutes, no_second, correction_given, no_correction, no_sign_correction, no_colon_offset, digits_correction_read, hours_and_minutes_said, meridiem_else, meridiem_read}
use Rattle.items.proofs.TimeItems.{time_24, time_12}
use Rattle.relative.proofs.Forms.{ago_read, no_direction, year_word, week_word, sec_unit}
use Rattle.items.proofs.RelativeItems.{tested, other_word, number_and_unit, ordinal_and_unit, signed_fractional_seconds}
use Rattle.items.proofs.DateItems.{year_month_day, month_day_year, month_day, day_month, name_day}

-- what a text is read as, to its end
abbrev Whole : List ℕ → Item → Type 0
Whole text v = Reads parse_item text v []

-- digits and years, computed
row : (w : List ℕ) → ltb 0 (length w) && all digit w ≡ true → Number w
row w h = let t = halves (ltb 0 (length w)) (all digit w) h in record { long = ltb-true 0 (length w) t.0; digits = t.1 }

year_of : (w : List ℕ) (m d : ℕ) → (ltb 0 (length w) && all digit w) && (leb (widened w) last_year && exists (widened w) m d) ≡ true → Year w m d
year_of w m d h =
    let t = halves (ltb 0 (length w) && all digit w) (leb (widened w) last_year && exists (widened w) m d) h in
    let u = halves (leb (widened w) last_year) (exists (widened w) m d) t.1 in
    record { number = row w t.0; last = leb-true (widened w) last_year u.0; there = u.1 }

-- 29.2: "All these strings specify the same calendar date"
abbrev day : Item
day = item.Date (date_of (Some 2020) 7 20)

iso_day : Whole (bytes "2020-07-20") day
unfolding bytes digit decimal widened_by exists leap month_days blank
iso_day = year_month_day [] refl (row (bytes "07") refl) (row (bytes "20") refl) (year_of (bytes "2020") 7 20 refl) refl (no_time_behind _ [] [] refl (plain refl) refl refl)

widened_day : Whole (bytes "20-7-20") day
unfolding bytes digit decimal widened_by exists leap month_days blank
widened_day = year_month_day [] refl (row (bytes "7") refl) (row (bytes "20") refl) (year_of (bytes "20") 7 20 refl) refl (no_time_behind _ [] [] refl (plain refl) refl refl)

us_day : Whole (bytes "7/20/2020") day
unfolding bytes digit decimal widened_by exists leap month_days
us_day = month_day_year [] refl (row (bytes "7") refl) (omega arith) (row (bytes "20") refl) (year_of (bytes "2020") 7 20 refl) refl

july : Month (bytes "july") 7
unfolding months
july = month_names (entry ("", 0) months 17 (omega arith))

jul : Month (bytes "jul") 7
unfolding months
jul = month_names (entry ("", 0) months 18 (omega arith))

spoken_day : Whole (bytes "20 july 2020") day
unfolding bytes digit letter decimal widened_by exists leap month_days blank
spoken_day =
    day_month [] refl (row (bytes "20") refl) refl (blanks (bytes " ") refl (plain refl)) july (λ z. (refl, refl))
    (with_it (no_hyphen_read (blanks (bytes " ") refl (plain refl)) refl) (blanks (bytes " ") refl (plain refl)) text_ends (year_of (bytes "2020") 7 20 refl))

hyphened_day : Whole (bytes "20-jul-2020") day
unfolding bytes digit letter decimal widened_by exists leap month_days blank
hyphened_day =
    day_month [] refl (row (bytes "20") refl) refl (over_sign [] true refl (plain refl) refl) jul (λ z. (refl, refl))
    (with_it (hyphen_read [] (row (bytes "2020") refl)) (still (plain refl)) text_ends (year_of (bytes "2020") 7 20 refl))

glued_day : Whole (bytes "20jul2020") day
unfolding bytes digit letter decimal widened_by exists leap month_days blank
glued_day =
    day_month [] refl (row (bytes "20") refl) refl (still (plain refl)) jul (λ z. (refl, refl))
    (with_it (no_hyphen_read (still (plain refl)) refl) (still (plain refl)) text_ends (year_of (bytes "2020") 7 20 refl))

named_day : Whole (bytes "jul 20, 2020") day
unfolding bytes digit letter decimal widened_by exists leap month_days blank
named_day =
    name_day [] refl jul (λ z. (refl, refl)) (blanks (bytes " ") refl (plain refl)) (row (bytes "20") refl) refl
    (with_it (comma_read 32 [] (still (plain refl)) refl refl) (still (plain refl)) text_ends (year_of (bytes "2020") 7 20 refl))

-- 29.2: "The year can also be omitted."
abbrev yearless : Item
yearless = item.Date (date_of None 7 20)

us_yearless : Whole (bytes "7/20") yearless
unfolding bytes digit letter decimal widened_by exists leap month_days blank
us_yearless = month_day [] refl (row (bytes "7") refl) (row (bytes "20") refl) refl refl (no_slash_part (not_behind_space (still (plain refl)) (byte_else 47 refl)))

named_yearless : Whole (bytes "jul 20") yearless
unfolding bytes digit letter decimal widened_by exists leap month_days blank
named_yearless =
    name_day [] refl jul (λ z. (refl, refl)) (blanks (bytes " ") refl (plain refl)) (row (bytes "20") refl) refl
    (without_it (no_digit_year _ (no_comma_read (still (plain refl)) refl) (still (plain refl)) refl) refl)

-- 29.3: "all of which represent the same time"
abbrev clock : Option Offset → Item
clock o = item.Time (record { hour = 20; minute = 2; second = 0; nanosecond = 0; offset = o })

whole_time : Whole (bytes "20:02:00.000000") (clock None)
unfolding bytes digit decimal nanoseconds zero_filled nonzero lost blank
whole_time =
    time_24 [] refl (row (bytes "20") refl) (row (bytes "02") refl) (omega arith) (omega arith) refl
    (second_read refl (fractional_read false (row (bytes "00") refl) (omega arith) (row (bytes "000000") refl) refl refl) (omega arith)) (no_correction (no_sign_correction (still (plain refl)) refl refl))
    (λ z. meridiem_else (still (plain refl)) refl refl)

short_time : Whole (bytes "20:02") (clock None)
unfolding bytes digit decimal blank
short_time =
    time_24 [] refl (row (bytes "20") refl) (row (bytes "02") refl) (omega arith) (omega arith) refl
    (no_second (at_once _ (colon_else (still (plain refl)) refl))) (no_correction (no_sign_correction (still (plain refl)) refl refl)) (λ z. meridiem_else (still (plain refl)) refl refl)

evening : Whole (bytes "8:02pm") (clock None)
unfolding bytes digit decimal blank
evening =
    time_12 [] refl (row (bytes "8") refl) (row (bytes "02") refl) (omega arith) (omega arith) (omega arith) refl
    (no_second (at_once _ (colon_else (still (plain refl)) refl))) (meridiem_read [] refl true false)

zoned : Whole (bytes "20:02-0500") (clock (Some (record { negative = true; hours = 5; minutes = 0 })))
unfolding bytes digit decimal in_range blank
zoned =
    let s = still (minus refl) in
    time_24 [] refl (row (bytes "20") refl) (row (bytes "02") refl) (omega arith) (omega arith) refl (no_second (at_once _ (colon_else s refl)))
    (correction_given (digits_correction_read true s (row (bytes "0500") refl) refl (no_colon_offset true s (row (bytes "0500") refl) refl (not_behind_space (still (plain refl)) (colon_else (still (plain refl)) refl))) (omega arith) (hours_and_minutes_said true 4 500 (omega arith) refl) (fraction_else refl refl)))
    (λ z. meridiem_else s refl refl)

-- 29.5: an ISO date, a `t`, an ISO time
both_in_one : Whole (bytes "2022-09-06t14:19:13") (item.DateTime (record { date = date_of (Some 2022) 9 6; time = record { hour = 14; minute = 19; second = 13; nanosecond = 0; offset = None } }))
unfolding bytes digit letter decimal widened_by exists leap month_days blank
both_in_one =
    combined_hyphens true refl
    (iso_time
    (iso_read (still (plain refl)) (row (bytes "14") refl) (row (bytes "19") refl) (omega arith) (omega arith) refl
    (second_read refl (seconds_read (row (bytes "13") refl) (omega arith) refl refl refl) (omega arith)) (no_correction (no_sign_correction (still (plain refl)) refl refl)))
    (no_meridiem [] [] refl refl refl refl)) [] refl (row (bytes "09") refl) (row (bytes "06") refl) (year_of (bytes "2022") 9 6 refl)

-- the Rust reads a time in 12 hours there too
evening_in_one : Whole (bytes "20220906 8 p.m.") (item.DateTime (record { date = date_of (Some 2022) 9 6; time = record { hour = 20; minute = 0; second = 0; nanosecond = 0; offset = None } }))
unfolding bytes digit letter decimal widened_by exists leap month_days blank
evening_in_one =
    let s = still (plain refl) in
    let k = blanks (bytes " ") refl (plain refl) in
    let c = colon_else k refl in
    combined_row false refl
    (other_time (hour_alone (row (bytes "8") refl) s refl k refl refl refl)
    (half_day_item s (row (bytes "8") refl) (omega arith) (omega arith) refl (no_minutes (at_once _ c)) (no_second (at_once _ c)) (meridiem_read (bytes " ") refl true true))) (bytes "2022") (bytes "09") (bytes "06") refl refl
    (row (bytes "09") refl) (row (bytes "06") refl) (year_of (bytes "2022") 9 6 refl)

-- 29.7: "1 year", "1 year ago", "3 years", "2 days"
year_ago : Whole (bytes "1 year ago") (item.Relative (Years (negsuc 0)))
unfolding bytes digit letter decimal blank tested lacks months same
year_ago =
    number_and_unit (other_word (bytes "year") refl) (ago_read (bytes " ") refl) refl (bytes " ") refl [] refl (year_word false) (row (bytes "1") refl) (omega arith) (λ z. short_no_date (bytes "1") (omega arith)) tt

half_second_back : Whole (bytes "-0.5 sec") (item.Relative (Seconds (negsuc 0) 500000000))
unfolding bytes digit letter decimal nanoseconds zero_filled nonzero lost rounded signed blank tested lacks months same
half_second_back =
    signed_fractional_seconds (sec_unit false) (other_word (bytes "sec") refl) (no_direction (still (plain refl)) refl refl) refl (bytes " ") refl [] refl (row (bytes "0") refl) (omega arith) false (row (bytes "5") refl) refl true

next_week : Whole (bytes "next week") (item.Relative (Days (pos 7)))
unfolding bytes letter blank tested lacks months same ordinals
next_week =
    ordinal_and_unit (other_word (bytes "week") refl) (no_direction (still (plain refl)) refl refl) refl (bytes " ") refl [] refl (week_word false).word (entry ("", pos 0) ordinals 2 (omega arith)) refl (omega arith)
