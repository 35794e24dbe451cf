-- Where an offset and a time end: never before the place asked, and within the text where that place is. Assumes nothing.
use Rattle.std.specs.Prelude.{Some, None, cond}
use Prim.Native.Nat.{ℕ, ◌+◌, ◌/◌, ◌%◌}
use mathlib.Core.Bool.{Bool}
use lib.ListN.{length}
use lib.Dec.{ltb, leb}
use Rattle.primitive.specs.Answer.{Answer, Reader, matched, dropped, none, stop}
use Rattle.primitive.proofs.Forward.{Ends, Forward, none_ends, stop_ends, if_ends, if_forward, then_forward, next_forward, or_forward, pure_forward, verify_forward, optional_forward, value_forward, spaced_forward, tag_forward, colon_forward, plus_or_minus_forward, dec_uint_forward, dec_uint_str_forward, parse_uint_forward, sec_and_nsec_forward}
use Rattle.times.specs.Offset.{certain, without, unless, in_range, offset_of, timezone_offset_colon, digits_offset, timezone_offset_colonless, any_offset, signed_fraction, time_zone_correction, timezone_offset}
use Rattle.relative.specs.Relative.{parse as relative}
use Rattle.times.specs.Time.{below, hour24, hour12, minute, second, optional_second, optional_minute, optional_correction, hour_offset, clock, iso, meridiem, am_pm_time, parse}

-- ---- combinators

pub certain_forward : {A : Type 0} (t : Bool) (v : A) → Forward (certain t v)
certain_forward t v text at = if_ends text at t _ _ (pure_forward v text at) (stop_ends text at)

pub unless_forward : {A B : Type 0} (p : Reader A) (q : Reader B) → Forward q → Forward (unless p q)
unless_forward {A = A} p q h text at = go (p text at)
  where
    go : (a : Answer A) → Ends text at (without a (q text at))
    go (matched v n) = none_ends text at
    go (dropped v n) = none_ends text at
    go none = h text at
    go stop = h text at

-- ---- offsets

pub offset_of_forward : (negative : Bool) (hours minutes : ℕ) → Forward (offset_of negative hours minutes)
unfolding offset_of
offset_of_forward negative hours minutes = certain_forward (in_range hours minutes) (record { negative = negative; hours = hours; minutes = minutes })

pub timezone_offset_colon_forward : Forward timezone_offset_colon
unfolding timezone_offset_colon
timezone_offset_colon_forward =
    then_forward _ _ plus_or_minus_forward
    (λ negative. then_forward _ _ (spaced_forward _ (dec_uint_forward 255))
    (λ hours. next_forward _ _ (spaced_forward _ colon_forward)
    (then_forward _ _ (spaced_forward _ (dec_uint_forward 255)) (λ minutes. offset_of_forward negative hours minutes))))

digits_offset_forward : (negative : Bool) (digits n : ℕ) → Forward (digits_offset negative digits n)
unfolding digits_offset
digits_offset_forward negative digits n =
    if_forward (leb digits 2) (offset_of negative n 0) (offset_of negative (n / 100) (n % 100)) (offset_of_forward negative n 0) (offset_of_forward negative (n / 100) (n % 100))

pub timezone_offset_colonless_forward : Forward timezone_offset_colonless
unfolding timezone_offset_colonless
timezone_offset_colonless_forward =
    then_forward _ _ plus_or_minus_forward
    (λ negative. then_forward _ _ (spaced_forward _ dec_uint_str_forward)
    (λ w. then_forward _ _ (parse_uint_forward 9999 w) (λ n. digits_offset_forward negative (length w) n)))

pub any_offset_forward : Forward any_offset
unfolding any_offset
any_offset_forward = or_forward _ _ timezone_offset_colon_forward timezone_offset_colonless_forward

pub time_zone_correction_forward : Forward time_zone_correction
unfolding time_zone_correction
time_zone_correction_forward = unless_forward signed_fraction any_offset any_offset_forward

pub timezone_offset_forward : Forward timezone_offset
unfolding timezone_offset
timezone_offset_forward = unless_forward relative any_offset any_offset_forward

-- ---- times

below_forward : (k : ℕ) → Forward (below k)
unfolding below
below_forward k = then_forward _ _ (spaced_forward _ (dec_uint_forward 255)) (λ v. verify_forward (ltb v k) v)

pub hour24_forward : Forward hour24
unfolding hour24
hour24_forward = below_forward 24

pub hour12_forward : Forward hour12
unfolding hour12
hour12_forward = below_forward 13

pub minute_forward : Forward minute
unfolding minute
minute_forward = below_forward 60

pub second_forward : Forward second
unfolding second
second_forward =
    then_forward _ _ (spaced_forward _ sec_and_nsec_forward) (λ v. verify_forward (ltb v.sec 60) (record { sec = v.sec; nsec = v.nsec }))

pub optional_second_forward : Forward optional_second
unfolding optional_second
optional_second_forward = optional_forward _ _ (next_forward _ _ colon_forward second_forward)

pub optional_minute_forward : Forward optional_minute
unfolding optional_minute
optional_minute_forward = optional_forward _ _ (next_forward _ _ colon_forward minute_forward)

pub optional_correction_forward : Forward optional_correction
unfolding optional_correction
optional_correction_forward = optional_forward _ _ (then_forward _ _ time_zone_correction_forward (λ o. pure_forward (Some o)))

pub hour_offset_forward : Forward hour_offset
unfolding hour_offset
hour_offset_forward = then_forward _ _ hour24_forward (λ h. then_forward _ _ timezone_offset_forward (λ o. pure_forward _))

pub clock_forward : Forward clock
unfolding clock
clock_forward =
    then_forward _ _ hour24_forward
    (λ h. next_forward _ _ colon_forward
    (then_forward _ _ minute_forward
    (λ m. then_forward _ _ optional_second_forward (λ v. then_forward _ _ optional_correction_forward (λ o. pure_forward _)))))

pub iso_forward : Forward iso
unfolding iso
iso_forward = or_forward _ _ hour_offset_forward clock_forward

pub meridiem_forward : Forward meridiem
unfolding meridiem
meridiem_forward =
    or_forward _ _
    (or_forward _ _
    (or_forward _ _ (value_forward _ _ (spaced_forward _ (tag_forward _))) (value_forward _ _ (spaced_forward _ (tag_forward _))))
    (value_forward _ _ (spaced_forward _ (tag_forward _))))
    (value_forward _ _ (spaced_forward _ (tag_forward _)))

pub am_pm_time_forward : Forward am_pm_time
unfolding am_pm_time
am_pm_time_forward =
    then_forward _ _ hour12_forward
    (λ h. then_forward _ _ optional_minute_forward
    (λ m. then_forward _ _ optional_second_forward
    (λ v. then_forward _ _ meridiem_forward
    (λ pm. certain_forward (ltb 0 h) (record { hour = h % 12 + cond pm 12 0; minute = m; second = v.sec; nanosecond = v.nsec; offset = None })))))

pub parse_forward : Forward parse
unfolding parse
parse_forward = or_forward _ _ am_pm_time_forward iso_forward
