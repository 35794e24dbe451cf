-- Which numbers the builder refuses an accepted base with, if the parts are in range. Assumes nothing.
use native.Mathlib.Omega.{arith}
use Prim.Native.Nat.{ℕ, zero, suc, ◌+◌, ◌*◌, ◌≤◌}
use mathlib.Core.Path.{◌≡◌, refl}
use mathlib.Core.Bool.{Bool, true, false, cond, ◌&&◌, ◌||◌}
use mathlib.Core.List.{List, [], ◌∷◌}
use lib.Dec.{ltb, eqb}
use lib.IntN.{pos}
use borrow.Author.Tests.{le-leb, ltb-true, eqb-true}
use Rattle.std.specs.Prelude.{Option, Some, None}
use Rattle.answers.specs.Numbers as refusal
use Rattle.answers.specs.Outcome.{accepted}
use Rattle.extended.specs.Extended.{date, test_offset, test, with_date, add_days, add_hours, weekday_monday0}
use Rattle.extended.specs.declared.ExtendedDateTime.{ExtendedDateTime}
use Rattle.extended.proofs.Records.{facts}
use Rattle.primitive.specs.Ordinal.{signed}
use Rattle.dates.specs.declared.date.Date.{Date}
use Rattle.relative.specs.declared.Relative.{Relative}
use Rattle.times.specs.Offset.{moved, normalized, total_seconds}
use Rattle.times.specs.declared.offset.Offset.{Offset}
use Rattle.times.specs.declared.time.Time.{Time}
use Rattle.items.specs.declared.Weekday.{Weekday}
use Rattle.rules.specs.Rules.{need_midnight}
use Rattle.rules.specs.declared.DateTimeBuilder.{DateTimeBuilder}
use Rattle.rules.specs.declared.Zone.{Zone}
use Rattle.rules.specs.declared.Zone.TheVariants as given-zone
use Rattle.builder.specs.Building.{start, year_or, on_date, on_offset, on_time, weekday_sum, delta, forwarded, on_weekday, add_relative, add_relatives, with_zone, on_zone, absolute, none, build_extended}
use Rattle.host_calls.proofs.Numbered.{Numbered, covers}
use Rattle.theorems_round_trip.proofs.Refusals.{steps}
use Rattle.theorems_hosts.proofs.AcceptedRecords.{Yields, a_record, yields_wider, onto, first, either, accept_yields, moved_numbers, units_yield, day_yields, time_yields, offset_yields}
use Rattle.theorems_hosts.proofs.PartsInRange.{YearFits, DateFits, OffsetFits, IfAny, TimeFits, ZoneFits, Fits}

-- ---- offsets and zones

-- an offset of at most 86400 seconds passes its test
total_fits : (o : Offset) → OffsetFits o → test_offset (total_seconds o) ≡ accepted tt
unfolding total_seconds signed test_offset
total_fits o h = by o.negative (o.hours * 3600 + o.minutes * 60) h
  where
    by : (b : Bool) (n : ℕ) → n ≤ 86400 → test_offset (signed b n) ≡ accepted tt
    by false n h = rw (le-leb n 86400 h) refl
    by true zero h = refl
    by true (suc n) h = rw (le-leb n 86399 (omega arith)) refl

-- Hours above 23 are moved into the clock, but for 24:00.
normalized_fits : (o : Offset) → o.minutes ≤ 60 → OffsetFits (normalized o).offset
unfolding normalized moved
normalized_fits o h = by (ltb o.hours 24) (eqb o.hours 24) (eqb o.minutes 0) refl refl refl
  where
    by : (a b c : Bool) → ltb o.hours 24 ≡ a → eqb o.hours 24 ≡ b → eqb o.minutes 0 ≡ c → OffsetFits (cond (a || (b && c)) (record { offset = o; hour_adjustment = pos 0 }) (moved o)).offset
    by true b c k l m = omega (arith, ltb-true o.hours 24 k)
    by false true true k l m = omega (arith, eqb-true o.hours 24 l, eqb-true o.minutes 0 m)
    by false true false k l m = omega arith
    by false false c k l m = omega arith

-- ---- the builder's steps

-- relative items that refuse an accepted record with numbers of the list alone
pub data AllMove (g : List ℕ) : List Relative → Type 0 where
  no_move : AllMove g []
  a_move : {x : Relative} {xs : List Relative} → ((r : ExtendedDateTime) → test r ≡ accepted tt → Yields g (add_relative x r)) → AllMove g xs → AllMove g (x ∷ xs)

delta_numbered : (w : Weekday) (today : ℕ) → Numbered moved_numbers (delta w today)
unfolding delta weekday_sum
delta_numbered w today = search steps

module _ (g : List ℕ) (c : covers moved_numbers g ≡ true) (d : covers (refusal.day ∷ []) g ≡ true) where
  start_yields : (b : DateTimeBuilder) (bare : Bool) (base : ExtendedDateTime) → test base ≡ accepted tt → Yields g (start b bare base)
  unfolding start
  start_yields b bare base t = either (need_midnight b bare) (time_yields base t g 0 0 0 0 (omega arith) (omega arith) (omega arith) (omega arith)) (accept_yields base t)

  relatives_yield : (xs : List Relative) → AllMove g xs → (r : ExtendedDateTime) → test r ≡ accepted tt → Yields g (add_relatives xs r)
  unfolding add_relatives
  relatives_yield [] no_move r t = a_record r t
  relatives_yield (x ∷ xs) (a_move m ms) r t = onto (m r t) (relatives_yield xs ms)

  module _ (r : ExtendedDateTime) (t : test r ≡ accepted tt) where
    on_date_yields : (v : Option Date) → IfAny DateFits v → Yields g (on_date v r)
    unfolding on_date
    on_date_yields None h = a_record r t
    on_date_yields (Some v) h = by v.year h.year
      where
        by : (y : Option ℕ) → YearFits y → Yields g (with_date r (date (year_or r.year y) v.month v.day))
        by (Some y) k = yields_wider g d (day_yields r t y v.month v.day k h.month_low h.month_high h.day_low)
        by None k = yields_wider g d (day_yields r t r.year v.month v.day (facts r t).year_high h.month_low h.month_high h.day_low)

    on_offset_yields : (o : Option Offset) → IfAny OffsetFits o → Yields g (on_offset o r)
    on_offset_yields None h = a_record r t
    on_offset_yields (Some o) h = offset_yields r t g (total_seconds o) (total_fits o h)

    on_weekday_yields : (w : Option Weekday) → Yields g (on_weekday w r)
    unfolding on_weekday weekday_monday0 forwarded add_days
    on_weekday_yields None = a_record r t
    on_weekday_yields (Some w) = rw t (yields_wider g c (first (delta_numbered w _) (λ n. units_yield r t 86400 n)))

    on_zone_yields : (z : Option Zone) → IfAny ZoneFits z → Yields g (on_zone z r)
    unfolding on_zone with_zone add_hours
    on_zone_yields None h = a_record r t
    on_zone_yields (Some given-zone.Local) h = a_record r t
    on_zone_yields (Some (given-zone.Offset o)) h =
        let z = normalized o in
        onto (yields_wider g c (units_yield r t 3600 z.hour_adjustment)) (λ next k. offset_yields next k g (total_seconds z.offset) (total_fits z.offset (normalized_fits o h)))

  on_time_yields : (r : ExtendedDateTime) → test r ≡ accepted tt → (v : Option Time) → IfAny TimeFits v → Yields g (on_time v r)
  unfolding on_time
  on_time_yields r t None h = a_record r t
  on_time_yields r t (Some v) h =
      onto (on_offset_yields r t v.offset h.offset) (λ next k. time_yields next k g v.hour v.minute v.second v.nanosecond h.hour_high h.minute_high h.second_high h.nanosecond_high)

  -- What is built of an accepted base and of parts in range.
  pub build_yields : (b : DateTimeBuilder) → Fits b → (xs : List Relative) → AllMove g xs → (base : ExtendedDateTime) → test base ≡ accepted tt → Yields g (build_extended b xs base)
  unfolding build_extended absolute
  build_yields b f xs ms base t =
      onto
      (onto (start_yields b (none xs) base t) (λ r s. onto (on_date_yields r s b.date f.date) (λ dated u. onto (on_time_yields dated u b.time f.time) (λ timed v. on_weekday_yields timed v b.weekday))))
      (λ r s. onto (relatives_yield xs ms r s) (λ moved u. on_zone_yields moved u b.zone f.zone))
