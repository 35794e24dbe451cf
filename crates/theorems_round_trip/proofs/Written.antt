-- The digits of a written record are in range, and their item has the record's own fields. Assumes nothing.
use Rattle.std.specs.Prelude.{Some}
use native.Mathlib.Omega.{arith}
use borrow.Author.Tests.{le-leb, ltb-false, eq-eqb, eqb-true}
use Prim.Native.Nat.{ℕ, ◌/◌, ◌%◌, ◌<◌, ◌≤◌}
use mathlib.Core.Path.{◌≡◌, refl, ap, ◌∙◌}
use mathlib.Core.Bool.{Bool, true, false, ◌&&◌, ◌||◌}
use mathlib.Core.List.{[]}
use lib.Dec.{leb, ltb, eqb}
use lib.IntN.{ℤ, pos, negsuc, nat_abs}
use Rattle.answers.specs.Outcome.{accepted}
use Rattle.extended.specs.Calendar.{month_days}
use Rattle.extended.specs.Extended.{test}
use Rattle.extended.specs.declared.ExtendedDateTime.{ExtendedDateTime}
use Rattle.extended.proofs.Counting.{month_bound}
use Rattle.extended.proofs.Records.{Accepted, facts}
use Rattle.primitive.specs.Primitive.{decimal}
use Rattle.primitive.specs.Epoch.{nanoseconds}
use Rattle.primitive.specs.Ordinal.{signed}
use Rattle.dates.specs.Date.{exists}
use Rattle.dates.specs.Year.{widened}
use Rattle.times.specs.Offset.{in_range, total_seconds}
use Rattle.times.specs.declared.offset.Offset.{Offset}
use Rattle.items.specs.declared.combined.DateTime.{DateTime}
use Rattle.items.specs.declared.Item.TheVariants as item
use Rattle.primitive.proofs.Leaves.{nine_lose_none}
use Rattle.items.proofs.TwoItems.{Digits, Sound, moment_text, moment_item, long_year, nine_digits}
use Rattle.writer.specs.Writer.{fixed, padded, negative, whole_minutes, text_of}
use Rattle.writer.proofs.Digits.{fixed_length, fixed_value, fixed_number, padded_value, padded_number, year_length}
use Rattle.writer.proofs.Texts.{offset_high, offset_parts}

-- ---- the digits

pub digits_of : ExtendedDateTime → Digits
digits_of r = record {
  year = padded 4 r.year;
  month = fixed 2 r.month;
  day = fixed 2 r.day;
  hour = fixed 2 r.hour;
  minute = fixed 2 r.minute;
  second = fixed 2 r.second;
  fraction = fixed 9 r.nanosecond;
  negative = negative r.offset_seconds;
  zone_hours = fixed 2 (nat_abs r.offset_seconds / 3600);
  zone_minutes = fixed 2 (nat_abs r.offset_seconds % 3600 / 60);
}

pub text_is : (r : ExtendedDateTime) → text_of r ≡ moment_text (digits_of r) []
unfolding text_of digits_of
text_is r = refl

two : (n : ℕ) → n < 100 → decimal (fixed 2 n) ≡ n
two n h = fixed_value 2 n h

-- ---- the offset

abbrev pub offset_of : ℤ → Offset
offset_of z = record { negative = negative z; hours = nat_abs z / 3600; minutes = nat_abs z % 3600 / 60 }

range : (n : ℕ) → n ≤ 86400 → in_range (n / 3600) (n % 3600 / 60) ≡ true
unfolding in_range
range n h = go (ltb (n / 3600) 24) refl
  where
    go : (t : Bool) → ltb (n / 3600) 24 ≡ t → (leb (n / 3600) 24 && (leb (n % 3600 / 60) 60 && (ltb (n / 3600) 24 || eqb (n % 3600 / 60) 0))) ≡ true
    go true e = rw (le-leb (n / 3600) 24 (omega arith), le-leb (n % 3600 / 60) 60 (omega arith), e)
    go false e =
        let k = ltb-false (n / 3600) 24 e in
        rw (le-leb (n / 3600) 24 (omega arith), le-leb (n % 3600 / 60) 60 (omega arith), e, eq-eqb (n % 3600 / 60) 0 (omega arith))

same_sign : (z : ℤ) → signed (negative z) (nat_abs z) ≡ z
unfolding signed
same_sign (pos n) = refl
same_sign (negsuc n) = refl

pub seconds_of : (z : ℤ) → whole_minutes z ≡ true → total_seconds (offset_of z) ≡ z
unfolding total_seconds
seconds_of z h = ap (signed (negative z)) (offset_parts (nat_abs z) (eqb-true (nat_abs z % 60) 0 h)) ∙ same_sign z

-- ---- the item

abbrev pub both_of : ExtendedDateTime → DateTime
both_of r = record {
  date = record { day = r.day; month = r.month; year = Some r.year };
  time = record { hour = r.hour; minute = r.minute; second = r.second; nanosecond = r.nanosecond; offset = Some (offset_of r.offset_seconds) };
}

module _ (r : ExtendedDateTime) (t : test r ≡ accepted tt) where
  a : Accepted r
  a = facts r t

  day_small : r.day ≤ 31
  day_small = omega (arith, a.date.day_high, month_bound r.year r.month)

  year_value : widened (padded 4 r.year) ≡ r.year
  year_value = long_year (padded 4 r.year) (omega (arith, year_length r.year a.year_high)) ∙ padded_value 4 r.year

  month_value : decimal (fixed 2 r.month) ≡ r.month
  month_value = two r.month (omega (arith, a.date.month_high))

  day_value : decimal (fixed 2 r.day) ≡ r.day
  day_value = two r.day (omega (arith, day_small))

  hour_value : decimal (fixed 2 r.hour) ≡ r.hour
  hour_value = two r.hour (omega (arith, a.hour_high))

  minute_value : decimal (fixed 2 r.minute) ≡ r.minute
  minute_value = two r.minute (omega (arith, a.minute_high))

  second_value : decimal (fixed 2 r.second) ≡ r.second
  second_value = two r.second (omega (arith, a.second_high))

  fraction_value : nanoseconds (fixed 9 r.nanosecond) ≡ r.nanosecond
  fraction_value = nine_digits (fixed 9 r.nanosecond) (fixed_length 9 r.nanosecond) ∙ fixed_value 9 r.nanosecond (omega (arith, a.nanosecond_high))

  abbrev far : ℕ
  far = nat_abs r.offset_seconds

  far_small : far ≤ 86400
  far_small = offset_high r.offset_seconds a.offset_in

  zone_hours_value : decimal (fixed 2 (far / 3600)) ≡ far / 3600
  zone_hours_value = two (far / 3600) (omega (arith, far_small))

  zone_minutes_value : decimal (fixed 2 (far % 3600 / 60)) ≡ far % 3600 / 60
  zone_minutes_value = two (far % 3600 / 60) (omega arith)

  there : exists r.year r.month r.day ≡ true
  unfolding exists
  there = rw (le-leb 1 r.day a.date.day_low, le-leb r.day (month_days r.year r.month) a.date.day_high)

  pub sound : Sound (digits_of r)
  unfolding digits_of
  sound = record {
    year = record {
      number = padded_number 4 r.year;
      last = rw year_value a.year_high;
      there = rw (year_value, month_value, day_value) there;
    };
    month = fixed_number 2 r.month (omega arith);
    day = fixed_number 2 r.day (omega arith);
    hour = fixed_number 2 r.hour (omega arith);
    minute = fixed_number 2 r.minute (omega arith);
    second = fixed_number 2 r.second (omega arith);
    fraction = fixed_number 9 r.nanosecond (omega arith);
    fraction_kept = nine_lose_none (fixed 9 r.nanosecond) (omega (arith, fixed_length 9 r.nanosecond));
    zone_hours = fixed_number 2 (far / 3600) (omega arith);
    zone_minutes = fixed_number 2 (far % 3600 / 60) (omega arith);
    hour_small = rw hour_value (omega (arith, a.hour_high));
    minute_small = rw minute_value (omega (arith, a.minute_high));
    second_small = rw second_value (omega (arith, a.second_high));
    zone = rw (zone_hours_value, zone_minutes_value) (range far far_small);
  }

  pub item_is : moment_item (digits_of r) ≡ item.DateTime (both_of r)
  unfolding digits_of
  item_is = rw (year_value, month_value, day_value, hour_value, minute_value, second_value, fraction_value, zone_hours_value, zone_minutes_value)
