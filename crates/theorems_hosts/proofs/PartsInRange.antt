-- Parts in range: what an item in range gives, and what the rules keep of it. A date may be 29 February without a year, so its day is tested only
-- when the year is known. Assumes nothing.
use native.Mathlib.Omega.{arith}
use Prim.Native.Nat.{ℕ, suc, ◌+◌, ◌*◌, ◌≤◌}
use mathlib.Core.Path.{◌≡◌, refl}
use mathlib.Core.Bool.{Bool, true, false, cond, ◌&&◌, ◌||◌, not}
use mathlib.Core.List.{List, [], ◌∷◌}
use lib.Dec.{ltb, leb, eqb}
use borrow.Author.Tests.{leb-true, ltb-true, eqb-true, ltb-false}
use Rattle.std.specs.Prelude.{Option, Some, None, is_some}
use Rattle.answers.specs.Outcome.{Outcome, accepted, refused, ◌>>=◌, ◌>>◌, check}
use Rattle.answers.specs.Placed.{fine}
use Rattle.calendar.specs.Calendar.{month_days}
use Rattle.calendar.proofs.Counting.{month_zero, month_beyond}
use Rattle.primitive.specs.Answer.{Answer, matched, dropped, none, stop, verify}
use Rattle.primitive.specs.Primitive.{decimal, parse_uint}
use Rattle.primitive.proofs.Dropped.{Has}
use Rattle.primitive.proofs.Rows.{halves}
use Rattle.dates.specs.declared.date.Date.{Date}
use Rattle.dates.specs.Date.{exists}
use Rattle.dates.specs.Year.{widened, year_from_str}
use Rattle.times.specs.declared.offset.Offset.{Offset}
use Rattle.times.specs.declared.time.Time.{Time}
use Rattle.times.specs.Offset as offset-range
use Rattle.items.specs.declared.Item.{Item}
use Rattle.items.specs.declared.Item.TheVariants as item
use Rattle.items.specs.declared.Pure.{Pure}
use Rattle.rules.specs.Rules.{has_offset, set_date, set_time, set_weekday, set_zone, set_date_time, wanted, clock, set_pure_year, set_hour, set_hour_and_minute, set_pure_time, pure_year, pure, set_pure, set_item, onward, gather}
use Rattle.rules.specs.declared.DateTimeBuilder.{DateTimeBuilder}
use Rattle.rules.specs.declared.Zone.{Zone}
use Rattle.rules.specs.declared.Zone.TheVariants as given-zone
use Rattle.packet_fields.specs.Fields.{date_in_range, offset_in_range, time_in_range, zone_in_range, in_range}
use Rattle.theorems_packets.proofs.Exact.{refusal_fine, fine_same}

-- ---- the parts

abbrev pub YearFits : Option ℕ → Type 0
YearFits (Some y) = y ≤ 2147485547
YearFits None = Unit {0}

-- a date whose day its month may not have, as 29 February with the year of a base
pub record DateFits (d : Date) : Type 0 where
  pub month_low : 1 ≤ d.month
  pub month_high : d.month ≤ 12
  pub day_low : 1 ≤ d.day
  pub year : YearFits d.year

-- at most 86400 seconds
abbrev pub OffsetFits : Offset → Type 0
OffsetFits o = o.hours * 3600 + o.minutes * 60 ≤ 86400

-- what is known of a part, if there is one
abbrev pub IfAny : {A : Type 0} → (A → Type 0) → Option A → Type 0
IfAny P (Some a) = P a
IfAny P None = Unit {0}

pub record TimeFits (t : Time) : Type 0 where
  pub hour_high : t.hour ≤ 23
  pub minute_high : t.minute ≤ 59
  pub second_high : t.second ≤ 59
  pub nanosecond_high : t.nanosecond ≤ 999999999
  pub offset : IfAny OffsetFits t.offset

-- hours of any number: those above 23 move the clock
abbrev pub ZoneFits : Zone → Type 0
ZoneFits given-zone.Local = Unit {0}
ZoneFits (given-zone.Offset o) = o.minutes ≤ 60

pub record Fits (b : DateTimeBuilder) : Type 0 where
  pub date : IfAny DateFits b.date
  pub time : IfAny TimeFits b.time
  pub zone : IfAny ZoneFits b.zone

-- ---- items in range have parts in range

real_month : (y m d : ℕ) → exists y m d ≡ true → (1 ≤ m) × (m ≤ 12) × (1 ≤ d)
unfolding exists
real_month y m d e = (low (ltb m 1) refl, high (ltb 12 m) refl, leb-true 1 d h.0)
  where
    h : (leb 1 d ≡ true) × (leb d (month_days y m) ≡ true)
    h = halves (leb 1 d) (leb d (month_days y m)) e

    low : (t : Bool) → ltb m 1 ≡ t → 1 ≤ m
    low true k = absurd (omega (arith, leb-true 1 d h.0, leb-true d (month_days y m) h.1, month_zero y m (ltb-true m 1 k)))
    low false k = omega (arith, ltb-false m 1 k)

    high : (t : Bool) → ltb 12 m ≡ t → m ≤ 12
    high true k = absurd (omega (arith, leb-true 1 d h.0, leb-true d (month_days y m) h.1, month_beyond y m (ltb-true 12 m k)))
    high false k = omega (arith, ltb-false 12 m k)

date_fits : (d : Date) → date_in_range d.year d.month d.day ≡ true → DateFits d
unfolding date_in_range
date_fits d h = by d.year refl
  where
    by : (y : Option ℕ) → d.year ≡ y → DateFits d
    by (Some y) e =
        let k = halves (leb y 2147485547) (exists y d.month d.day) (rw e at h) in
        let m = real_month y d.month d.day k.1 in
        record { month_low = m.0; month_high = m.1; day_low = m.2; year = rw e (leb-true y 2147485547 k.0) }
    by None e =
        let m = real_month 2000 d.month d.day (rw e at h) in
        record { month_low = m.0; month_high = m.1; day_low = m.2; year = rw e tt }

offset_fits : (o : Option Offset) → offset_in_range o ≡ true → IfAny OffsetFits o
unfolding offset_in_range offset-range.in_range
offset_fits None h = tt
offset_fits (Some o) h =
    let a = halves (leb o.hours 24) _ h in
    let b = halves (leb o.minutes 60) _ a.1 in
    by (ltb o.hours 24) refl (leb-true o.hours 24 a.0) (leb-true o.minutes 60 b.0) b.1
  where
    by : (t : Bool) → ltb o.hours 24 ≡ t → o.hours ≤ 24 → o.minutes ≤ 60 → t || eqb o.minutes 0 ≡ true → OffsetFits o
    by true e k l m = omega (arith, ltb-true o.hours 24 e)
    by false e k l m = omega (arith, eqb-true o.minutes 0 m)

time_fits : (t : Time) → time_in_range t ≡ true → TimeFits t
unfolding time_in_range
time_fits t h =
    let a = halves (leb t.hour 23) _ h in
    let b = halves (leb t.minute 59) _ a.1 in
    let c = halves (leb t.second 59) _ b.1 in
    let d = halves (leb t.nanosecond 999999999) _ c.1 in
    record { hour_high = leb-true t.hour 23 a.0; minute_high = leb-true t.minute 59 b.0; second_high = leb-true t.second 59 c.0; nanosecond_high = leb-true t.nanosecond 999999999 d.0; offset = offset_fits t.offset d.1 }

-- ---- the rules keep the parts in range

-- what is known of the value, if there is one
abbrev IfAccepted : {A : Type 0} → (A → Type 0) → Outcome A → Type 0
IfAccepted P (accepted a) = P a
IfAccepted P (refused n) = Unit {0}

checked_then : {A : Type 0} (P : A → Type 0) (t : Bool) (n : ℕ) (o : Outcome A) → IfAccepted P o → IfAccepted P (check t n >> o)
checked_then P true n o h = h
checked_then P false n o h = tt

cond_then : {A : Type 0} (P : A → Type 0) (t : Bool) (o p : Outcome A) → IfAccepted P o → IfAccepted P p → IfAccepted P (cond t o p)
cond_then P true o p h k = h
cond_then P false o p h k = k

next_then : {A B : Type 0} (P : A → Type 0) (Q : B → Type 0) (o : Outcome A) (f : A → Outcome B) → IfAccepted P o → ((a : A) → P a → IfAccepted Q (f a)) → IfAccepted Q (o >>= f)
next_then P Q (accepted a) f h k = k a h
next_then P Q (refused n) f h k = tt

wanted_then : (P : ℕ → Type 0) (n : ℕ) (a : Answer ℕ) → Has P a → IfAccepted P (wanted n a)
wanted_then P n (matched v at) h = h
wanted_then P n (dropped v at) h = tt
wanted_then P n none h = tt
wanted_then P n stop h = tt

number_below : (most : ℕ) (w text : List ℕ) (at : ℕ) → Has (λ v. v ≤ most) (parse_uint most w text at)
unfolding parse_uint
number_below most w text at = by (leb (decimal w) most) refl
  where
    by : (t : Bool) → leb (decimal w) most ≡ t → Has (λ v. v ≤ most) (verify t (decimal w) text at)
    by true e = leb-true (decimal w) most e
    by false e = tt

year_below : (w text : List ℕ) (at : ℕ) → Has (λ v. v ≤ 2147485547) (year_from_str w text at)
unfolding year_from_str
year_below w text at = by (leb (widened w) 2147485547) refl
  where
    by : (t : Bool) → leb (widened w) 2147485547 ≡ t → Has (λ v. v ≤ 2147485547) (verify t (widened w) text at)
    by true e = leb-true (widened w) 2147485547 e
    by false e = tt

module _ (b : DateTimeBuilder) (f : Fits b) where
  set_date_fits : (d : Date) → DateFits d → IfAccepted Fits (set_date b d)
  unfolding set_date
  set_date_fits d h = checked_then Fits (not (is_some b.date)) 6 _ (record { date = h; time = f.time; zone = f.zone })

  set_time_fits : (t : Time) → TimeFits t → IfAccepted Fits (set_time b t)
  unfolding set_time
  set_time_fits t h = checked_then Fits (not (is_some b.time)) 6 _ (checked_then Fits (not (is_some b.zone && is_some t.offset)) 7 _ (record { date = f.date; time = h; zone = f.zone }))

  set_zone_fits : (z : Option Zone) → IfAny ZoneFits z → IfAccepted Fits (set_zone b z)
  unfolding set_zone
  set_zone_fits z h = checked_then Fits (not (is_some b.zone || has_offset b.time)) 6 _ (record { date = f.date; time = f.time; zone = h })

  clock_fits : (h m : ℕ) → h ≤ 23 → m ≤ 59 → IfAccepted Fits (set_time b (clock h m))
  clock_fits h m k l = set_time_fits (clock h m) (record { hour_high = k; minute_high = l; second_high = omega arith; nanosecond_high = omega arith; offset = tt })

  module _ (area : List ℕ) (p : Pure) where
    pure_time_fits : IfAccepted Fits (set_pure_time area b p)
    unfolding set_pure_time set_hour set_hour_and_minute
    pure_time_fits =
        checked_then Fits (leb 1 p.length) 8 _
        (checked_then Fits (leb p.length 4) 8 _
        (cond_then Fits (leb p.length 2) _ _
        (next_then (λ v. v ≤ 23) Fits _ _ (wanted_then (λ v. v ≤ 23) 8 _ (number_below 23 _ area _)) (λ h k. clock_fits h 0 k (omega arith)))
        (next_then (λ v. v ≤ 23) Fits _ _ (wanted_then (λ v. v ≤ 23) 8 _ (number_below 23 _ area _)) (λ h k. next_then (λ v. v ≤ 59) Fits _ _ (wanted_then (λ v. v ≤ 59) 8 _ (number_below 59 _ area _)) (λ m l. clock_fits h m k l)))))

    -- Its date may be 29 February, and the year that it gets may have none.
    pure_year_fits : (d : Date) → DateFits d → (y : Option ℕ) → IfAccepted Fits (pure_year area b p d y)
    unfolding set_pure_year
    pure_year_fits d h (Some y) = pure_time_fits
    pure_year_fits d h None =
        next_then (λ v. v ≤ 2147485547) Fits _ _ (wanted_then (λ v. v ≤ 2147485547) 9 _ (year_below _ area _))
        (λ y k. record { date = record { month_low = h.month_low; month_high = h.month_high; day_low = h.day_low; year = k }; time = f.time; zone = f.zone })

    pure_fits : (d : Option Date) → IfAny DateFits d → IfAccepted Fits (pure area b p d)
    pure_fits None h = pure_time_fits
    pure_fits (Some d) h = pure_year_fits d h d.year

set_item_fits : (area : List ℕ) (b : DateTimeBuilder) (x : Item) → Fits b → in_range x ≡ true → IfAccepted Fits (set_item area b x)
unfolding set_item set_date_time set_weekday set_pure in_range zone_in_range
set_item_fits area b (item.Date d) f h = set_date_fits b f d (date_fits d h)
set_item_fits area b (item.Time t) f h = set_time_fits b f t (time_fits t h)
set_item_fits area b (item.DateTime v) f h =
    let k = halves (date_in_range v.date.year v.date.month v.date.day) _ h in
    next_then Fits Fits (set_date b v.date) _ (set_date_fits b f v.date (date_fits v.date k.0)) (λ next g. set_time_fits next g v.time (time_fits v.time k.1))
set_item_fits area b (item.Weekday w) f h = checked_then Fits (not (is_some b.weekday)) 6 _ (record { date = f.date; time = f.time; zone = f.zone })
set_item_fits area b (item.Offset o) f h = set_zone_fits b f (Some (given-zone.Offset o)) (leb-true o.minutes 60 (halves (leb o.hours 47) (leb o.minutes 60) h).1)
set_item_fits area b item.LocalZone f h = set_zone_fits b f (Some given-zone.Local) tt
set_item_fits area b (item.Relative r) f h = f
set_item_fits area b (item.Pure p) f h = pure_fits b f area p b.date f.date

-- ---- all items

pub data AllInRange : List Item → Type 0 where
  nothing : AllInRange []
  ranged : {x : Item} {xs : List Item} → in_range x ≡ true → AllInRange xs → AllInRange (x ∷ xs)

pub gather_fits : (area : List ℕ) (i : ℕ) (b c : DateTimeBuilder) (xs : List Item) → Fits b → AllInRange xs → gather area i b xs ≡ fine c → Fits c
unfolding gather
gather_fits area i b c [] f nothing e = rw (← fine_same e) f
gather_fits area i b c (x ∷ xs) f (ranged h hs) e = by (λ next g k. gather_fits area (suc i) next c xs g hs k) (set_item area b x) (set_item_fits area b x f h) e
  where
    by : ((next : DateTimeBuilder) → Fits next → gather area (suc i) next xs ≡ fine c → Fits c) → (o : Outcome DateTimeBuilder) → IfAccepted Fits o → onward i o (λ next. gather area (suc i) next xs) ≡ fine c → Fits c
    by later (accepted next) g k = later next g k
    by later (refused n) g k = refusal_fine k
