-- The fields of an item are that item again. Assumes nothing.
use Rattle.std.specs.Prelude.{Option, Some, None}
use native.Mathlib.Omega.{arith}
use Prim.Native.Nat.{ℕ, ◌-◌}
use mathlib.Core.Path.{◌≡◌, refl, ap}
use mathlib.Core.Bool.{Bool, true, false}
use lib.Dec.{leb, eqb}
use lib.IntN.{ℤ, pos, negsuc}
use borrow.Author.Tests.{lt-ltb, le-ltb, ltb-true, leb-true, eq-eqb}
use Rattle.integers.specs.Integers.{in_i32, in_i64}
use Rattle.answers.specs.Outcome.{accepted}
use Rattle.dates.specs.declared.date.Date.{Date}
use Rattle.relative.specs.declared.Relative.{Relative}
use Rattle.relative.specs.declared.Relative.TheVariants as relative
use Rattle.times.specs.declared.offset.Offset.{Offset}
use Rattle.times.specs.declared.time.Time.{Time}
use Rattle.items.specs.declared.combined.DateTime.{DateTime}
use Rattle.items.specs.declared.Day.{Day}
use Rattle.items.specs.declared.Day.TheVariants as day
use Rattle.items.specs.declared.Weekday.{Weekday}
use Rattle.items.specs.declared.Pure.{Pure}
use Rattle.items.specs.declared.Item.{Item}
use Rattle.items.specs.declared.Item.TheVariants as item
use Rattle.items.specs.Items.{day_index}
use Rattle.primitive.proofs.Rows.{halves}
use Rattle.packet_fields.specs.Fields.{from_twos_complement, twos_complement, small, year_of, date_of, time_offset_of, time_of, day_of, weekday_of, unit_of, relative_of, item_of, in_range, with_date, with_time, of_zone, of_relative, of_pure, counted, fields_of, same, fitting, unpacked}
use Rattle.packet_fields.specs.declared.Fields.{Fields}
use Rattle.theorems_packets.specs.Writing.{amount, amounts}
use Rattle.theorems_packets.specs.Packets.{placed}

-- ---- amounts

pub signed_back : (z : ℤ) → in_i64 z ≡ true → from_twos_complement (twos_complement z) ≡ z
unfolding from_twos_complement twos_complement
signed_back (pos n) h = rw (lt-ltb n 9223372036854775808 (omega (arith, ltb-true n 9223372036854775808 h)))
signed_back (negsuc n) h =
    let k = ltb-true n 9223372036854775808 h in
    let e : 18446744073709551615 - (18446744073709551615 - n) ≡ n = omega arith in
    rw (le-ltb (18446744073709551615 - n) 9223372036854775808 (omega arith), e)

pub wide : (z : ℤ) → in_i32 z ≡ true → in_i64 z ≡ true
wide (pos n) h = lt-ltb n 9223372036854775808 (omega (arith, leb-true n 2147483647 h))
wide (negsuc n) h = lt-ltb n 9223372036854775808 (omega (arith, leb-true n 2147483647 (halves (leb n 2147483647) true h).0))

small_back : (z : ℤ) → in_i32 z ≡ true → small (twos_complement z) ≡ accepted z
unfolding small
small_back z h = rw (signed_back z (wide z h), h)

-- ---- parts

day_back : (d : Day) → day_of (day_index d) ≡ accepted d
unfolding day_of
day_back day.Monday = refl
day_back day.Tuesday = refl
day_back day.Wednesday = refl
day_back day.Thursday = refl
day_back day.Friday = refl
day_back day.Saturday = refl
day_back day.Sunday = refl

date_back : (d : Date) → date_of (with_date 1 d) ≡ d
unfolding date_of with_date year_of
date_back d = by d.year refl
  where
    by : (y : Option ℕ) → d.year ≡ y → date_of (with_date 1 d) ≡ d
    by (Some y) e = rw e refl
    by None e = rw e refl

time_back : (t : Time) → time_of (with_time (counted 2 0 0 0) t) ≡ t
unfolding time_of with_time time_offset_of
time_back t = by t.offset refl
  where
    signed_by : (o : Offset) (n : Bool) → t.offset ≡ Some o → o.negative ≡ n → time_of (with_time (counted 2 0 0 0) t) ≡ t
    signed_by o true e k = rw (e, k) refl
    signed_by o false e k = rw (e, k) refl

    by : (o : Option Offset) → t.offset ≡ o → time_of (with_time (counted 2 0 0 0) t) ≡ t
    by (Some o) e = signed_by o o.negative e refl
    by None e = rw e refl

-- ---- the item

relative_back : (r : Relative) (used : ℕ) → amount r ≡ true → item_of (of_relative r) used ≡ accepted (item.Relative r)
unfolding item_of relative_of unit_of of_relative amount
relative_back (relative.Years n) used h = rw (small_back n h) refl
relative_back (relative.Months n) used h = rw (small_back n h) refl
relative_back (relative.Days n) used h = rw (small_back n h) refl
relative_back (relative.Hours n) used h = rw (small_back n h) refl
relative_back (relative.Minutes n) used h = rw (small_back n h) refl
relative_back (relative.Seconds n k) used h = rw (signed_back n h) refl

date_item : (d : Date) (used : ℕ) → item_of (with_date 1 d) used ≡ accepted (item.Date d)
unfolding item_of with_date
date_item d used = ap (λ (v : Date). accepted (item.Date v)) (date_back d)

time_item : (t : Time) (used : ℕ) → item_of (with_time (counted 2 0 0 0) t) used ≡ accepted (item.Time t)
unfolding item_of with_time
time_item t used = ap (λ (v : Time). accepted (item.Time v)) (time_back t)

both_item : (v : DateTime) (used : ℕ) → item_of (with_time (with_date 3 v.date) v.time) used ≡ accepted (item.DateTime v)
unfolding item_of date_of time_of with_date with_time year_of time_offset_of
both_item v used = by v.date.year refl v.time.offset refl
  where
    signed_by : (y : Option ℕ) (o : Offset) (n : Bool) → v.date.year ≡ y → v.time.offset ≡ Some o → o.negative ≡ n → item_of (with_time (with_date 3 v.date) v.time) used ≡ accepted (item.DateTime v)
    signed_by (Some y) o true d e k = rw (d, e, k) refl
    signed_by (Some y) o false d e k = rw (d, e, k) refl
    signed_by None o true d e k = rw (d, e, k) refl
    signed_by None o false d e k = rw (d, e, k) refl

    by : (y : Option ℕ) → v.date.year ≡ y → (o : Option Offset) → v.time.offset ≡ o → item_of (with_time (with_date 3 v.date) v.time) used ≡ accepted (item.DateTime v)
    by y d (Some o) e = signed_by y o o.negative d e refl
    by (Some y) d None e = rw (d, e) refl
    by None d None e = rw (d, e) refl

weekday_item : (w : Weekday) (used : ℕ) → in_i32 w.offset ≡ true → item_of (counted 4 (day_index w.day) (twos_complement w.offset) 0) used ≡ accepted (item.Weekday w)
unfolding item_of weekday_of
weekday_item w used h = rw (small_back w.offset h, day_back w.day) refl

zone_item : (o : Offset) (used : ℕ) → item_of (of_zone o) used ≡ accepted (item.Offset o)
unfolding item_of of_zone
zone_item o used = by o.negative refl
  where
    by : (t : Bool) → o.negative ≡ t → item_of (of_zone o) used ≡ accepted (item.Offset o)
    by true k = rw k refl
    by false k = rw k refl

local_item : (used : ℕ) → item_of (counted 6 0 0 0) used ≡ accepted item.LocalZone
unfolding item_of
local_item used = refl

pure_item : (p : Pure) (used : ℕ) → p.start ≡ used → item_of (of_pure p) used ≡ accepted (item.Pure p)
unfolding item_of
pure_item p used s = rw (← s) refl

item_back : (x : Item) (used : ℕ) → amounts x ≡ true → placed used x → item_of (fields_of x) used ≡ accepted x
unfolding fields_of amounts placed
item_back (item.Relative r) used h s = relative_back r used h
item_back (item.Date d) used h s = date_item d used
item_back (item.Time t) used h s = time_item t used
item_back (item.DateTime v) used h s = both_item v used
item_back (item.Weekday w) used h s = weekday_item w used h
item_back (item.Offset o) used h s = zone_item o used
item_back item.LocalZone used h s = local_item used
item_back (item.Pure p) used h s = pure_item p used s

-- ---- the whole

itself : (n : ℕ) → eqb n n ≡ true
itself n = eq-eqb n n refl

same_itself : (f : Fields) → same f f ≡ true
unfolding same
same_itself f =
    rw (itself f.kind, itself f.which, itself f.month, itself f.day, itself f.year, itself f.hour, itself f.minute, itself f.second, itself f.flags, itself f.nanosecond, itself f.offset_hours, itself f.offset_minutes, itself f.length, itself f.amount) refl

pub unpacked_back : (x : Item) (used : ℕ) → in_range x ≡ true → amounts x ≡ true → placed used x → unpacked (fields_of x) used ≡ accepted x
unfolding unpacked fitting
unpacked_back x used r h s = rw (item_back x used h s, r, same_itself (fields_of x)) refl
