-- Whatever is built is accepted, for every base and every list of items; and its offset is the base's, or one that an item gives: what is known
-- of these is known of it. Assumes nothing.
use Rattle.std.specs.Prelude.{Option, Some, None}
use Rattle.items.specs.declared.Item.{Item}
use Rattle.dates.specs.declared.date.Date.{Date}
use Rattle.items.specs.declared.Weekday.{Weekday}
use Rattle.times.specs.declared.time.Time.{Time}
use Rattle.rules.specs.declared.Zone.{Zone}
use Prim.Native.Nat.{ℕ, zero, suc, ◌+◌, ◌-◌, ◌*◌, ◌/◌, ◌%◌, min}
use mathlib.Core.Path.{◌≡◌, refl, sym, ap}
use mathlib.Core.Bool.{Bool, true, false, cond}
use mathlib.Core.List.{List, [], ◌∷◌}
use native.Mathlib.Omega.{arith}
use borrow.Author.Tests.{eq-eqb}
use lib.Dec.{ltb, eqb}
use lib.IntN.{ℤ, pos}
use Rattle.integers.specs.Integers.{sum, product, natural_of}
use Rattle.answers.specs.Outcome.{Outcome, accepted, refused, check, ◌>>=◌, ◌>>◌}
use Rattle.extended.specs.Calendar.{month_days}
use Rattle.extended.specs.Extended.{checked, from_zero, make, date, time, date_of, time_of, test, test_year, accept, moment, from_unix_seconds, with_date, with_time, with_offset, carried, add_seconds, add_units, add_days, add_hours, add_minutes, clamp, add_years, add_months, weekday_monday0}
use Rattle.extended.specs.declared.ExtendedDateTime.{ExtendedDateTime}
use Rattle.answers.proofs.Outcomes.{apart, same, first_passed}
use Rattle.extended.proofs.Theorems.{from_unix_seconds_exact}
use Rattle.relative.specs.declared.Relative.{Relative}
use Rattle.relative.specs.declared.Relative.TheVariants as relative
use Rattle.answers.specs.Placed as placed
use Rattle.answers.specs.Placed.{Placed, fine, refusal}
use Rattle.rules.specs.Rules.{empty, need_midnight, gather, relatives}
use Rattle.times.specs.Offset.{total_seconds}
use Rattle.times.specs.declared.offset.Offset.{Offset}
use Rattle.primitive.specs.Ordinal.{signed}
use Rattle.writer.specs.Writer.{whole_minutes}
use Rattle.builder.specs.Building.{start, on_date, on_offset, on_time, delta, forwarded, on_weekday, add_relative, add_relatives, with_zone, on_zone, absolute, none, build_extended, built, build}
use Rattle.rules.specs.declared.Zone.TheVariants as given-zone
use Rattle.rules.specs.declared.DateTimeBuilder.{DateTimeBuilder}

-- each record that an answer gives is accepted, and its offset has the property P
abbrev pub Good : (ℤ → Type 0) → Outcome ExtendedDateTime → Type 0
Good P o = (r : ExtendedDateTime) → o ≡ accepted r → (test r ≡ accepted tt) × P r.offset_seconds

module _ (P : ℤ → Type 0) where
  refusal_good : (n : ℕ) → Good P (refused n)
  refusal_good n r e = apart e

  itself : (s : ExtendedDateTime) → (test s ≡ accepted tt) × P s.offset_seconds → Good P (accepted s)
  itself s k r e = rw (sym (same e)) k

  then_good : {A : Type 0} (p : Outcome A) (f : A → Outcome ExtendedDateTime) → ((a : A) → p ≡ accepted a → Good P (f a)) → Good P (p >>= f)
  then_good (accepted a) f g = g a refl
  then_good (refused n) f g = refusal_good n

  -- a step of records: what is known after it
  onto : (p : Outcome ExtendedDateTime) (f : ExtendedDateTime → Outcome ExtendedDateTime) → Good P p → ((r : ExtendedDateTime) → (test r ≡ accepted tt) × P r.offset_seconds → Good P (f r)) → Good P (p >>= f)
  onto p f h g = then_good p f (λ r e. g r (h r e))

  behind : (p : Outcome (Unit {0})) (q : Outcome ExtendedDateTime) → Good P q → Good P (p >> q)
  behind (accepted u) q g = g
  behind (refused n) q g = refusal_good n

  pub accept_good : (s : ExtendedDateTime) → P s.offset_seconds → Good P (accept s)
  unfolding accept
  accept_good s k r e =
      let p = first_passed (test s) (accepted s) e in
      rw (sym (same p.1)) (p.0, k)

  pub unix_good : (u : ℤ) (n : ℕ) (o : ℤ) → P o → Good P (from_unix_seconds u n o)
  unix_good u n o k r e =
      let w = (from_unix_seconds_exact u n o r).0 e in
      (w.is_accepted, rw w.has_offset k)

  carried_good : (s : ℤ) (n : ℕ) (o : ℤ) → P o → Good P (carried s n o)
  unfolding carried
  carried_good s n o k = by (ltb n 1000000000)
    where
      by : (t : Bool) → Good P (cond t (from_unix_seconds s n o) (checked (sum s (pos 1)) >>= (λ next. from_unix_seconds next (n - 1000000000) o)))
      by true = unix_good s n o k
      by false = then_good (checked (sum s (pos 1))) (λ next. from_unix_seconds next (n - 1000000000) o) (λ z h. unix_good z (n - 1000000000) o k)

  -- ---- the calendar's steps

  module _ (dt : ExtendedDateTime) where
    with_offset_good : (z : ℤ) → P z → Good P (with_offset dt z)
    unfolding with_offset make
    with_offset_good z k = behind (test dt) _ (accept_good (make (date_of dt) (time_of dt) z) k)

    module _ (k : P dt.offset_seconds) where
      with_date_good : (y m d : ℕ) → Good P (with_date dt (date y m d))
      unfolding with_date make
      with_date_good y m d = behind (test dt) _ (accept_good (make (date y m d) (time_of dt) dt.offset_seconds) k)

      with_time_good : (h m s n : ℕ) → Good P (with_time dt (time h m s n))
      unfolding with_time make
      with_time_good h m s n = behind (test dt) _ (accept_good (make (date_of dt) (time h m s n) dt.offset_seconds) k)

      pub seconds_good : (d : ℤ) (n : ℕ) → Good P (add_seconds dt d n)
      unfolding add_seconds
      seconds_good d n =
          behind (test dt) _
          (then_good (checked (sum (moment dt) d)) _ (λ s h. behind (check (ltb (dt.nanosecond + n) 4294967296) 18) _ (carried_good s (dt.nanosecond + n) dt.offset_seconds k)))

      units_good : (w : ℕ) (n : ℤ) → Good P (add_units w dt n)
      unfolding add_units
      units_good w n = behind (test dt) _ (then_good (checked (product n (pos w))) _ (λ d h. seconds_good d 0))

      pub days_good : (n : ℤ) → Good P (add_days dt n)
      unfolding add_days
      days_good n = units_good 86400 n

      pub hours_good : (n : ℤ) → Good P (add_hours dt n)
      unfolding add_hours
      hours_good n = units_good 3600 n

      pub minutes_good : (n : ℤ) → Good P (add_minutes dt n)
      unfolding add_minutes
      minutes_good n = units_good 60 n

  module _ (dt : ExtendedDateTime) (k : P dt.offset_seconds) where
    clamp_good : (y m : ℕ) → Good P (clamp dt y m)
    unfolding clamp
    clamp_good y m =
        behind (test_year y) _
        (onto (with_date dt (date y m (min dt.day (month_days y m)))) _ (with_date_good dt k y m (min dt.day (month_days y m))) (λ next h. days_good next h.1 (pos (dt.day - month_days y m))))

    pub years_good : (n : ℤ) → Good P (add_years dt n)
    unfolding add_years
    years_good n =
        behind (test dt) _
        (then_good (checked (sum (pos dt.year) n)) _ (λ s h. then_good (from_zero (natural_of s)) _ (λ y l. clamp_good y dt.month)))

    pub months_good : (n : ℤ) → Good P (add_months dt n)
    unfolding add_months
    months_good n =
        behind (test dt) _
        (then_good (checked (sum (pos (dt.year * 12 + (dt.month - 1))) n)) _ (λ s h. then_good (from_zero (natural_of s)) _ (λ t l. clamp_good (t / 12) (t % 12 + 1))))

    -- ---- the builder's steps

    relative_good : (x : Relative) → Good P (add_relative x dt)
    unfolding add_relative
    relative_good (relative.Years n) = years_good n
    relative_good (relative.Months n) = months_good n
    relative_good (relative.Days n) = days_good dt k n
    relative_good (relative.Hours n) = hours_good dt k n
    relative_good (relative.Minutes n) = minutes_good dt k n
    relative_good (relative.Seconds n j) = seconds_good dt k n j

  start_good : (b : DateTimeBuilder) (bare : Bool) (base : ExtendedDateTime) → P base.offset_seconds → Good P (start b bare base)
  unfolding start
  start_good b bare base k = by (need_midnight b bare)
    where
      by : (t : Bool) → Good P (cond t (with_time base (time 0 0 0 0)) (accept base))
      by true = with_time_good base k 0 0 0 0
      by false = accept_good base k

  relatives_good : (rs : List Relative) (dt : ExtendedDateTime) → (test dt ≡ accepted tt) × P dt.offset_seconds → Good P (add_relatives rs dt)
  unfolding add_relatives
  relatives_good [] dt h = itself dt h
  relatives_good (x ∷ xs) dt h = onto (add_relative x dt) _ (relative_good dt h.1 x) (relatives_good xs)

  -- each offset that an item can give has the property
  module _ (given : (o : Offset) → P (total_seconds o)) where
    module _ (dt : ExtendedDateTime) (h : (test dt ≡ accepted tt) × P dt.offset_seconds) where
      date_good : (g : Option Date) → Good P (on_date g dt)
      unfolding on_date
      date_good None = itself dt h
      date_good (Some d) = with_date_good dt h.1 _ _ _

      offset_good : (g : Option Offset) → Good P (on_offset g dt)
      offset_good None = itself dt h
      offset_good (Some o) = with_offset_good dt (total_seconds o) (given o)

      time_good : (g : Option Time) → Good P (on_time g dt)
      unfolding on_time
      time_good None = itself dt h
      time_good (Some x) = onto (on_offset x.offset dt) _ (offset_good x.offset) (λ next k. with_time_good next k.1 _ _ _ _)

      weekday_good : (g : Option Weekday) → Good P (on_weekday g dt)
      unfolding on_weekday forwarded
      weekday_good None = itself dt h
      weekday_good (Some w) = then_good (weekday_monday0 dt) _ (λ today l. then_good (delta w today) _ (λ n m. days_good dt h.1 n))

      zone_good : (g : Option Zone) → Good P (on_zone g dt)
      unfolding on_zone with_zone
      zone_good None = itself dt h
      zone_good (Some given-zone.Local) = itself dt h
      zone_good (Some (given-zone.Offset o)) = then_good (add_hours dt _) _ (λ next l. with_offset_good next _ (given _))

    module _ (b : DateTimeBuilder) (base : ExtendedDateTime) (k : P base.offset_seconds) where
      absolute_good : (bare : Bool) → Good P (absolute b bare base)
      unfolding absolute
      absolute_good bare =
          onto (start b bare base) _ (start_good b bare base k) (λ r h. onto (on_date b.date r) _ (date_good r h b.date) (λ d l. onto (on_time b.time d) _ (time_good d l b.time) (λ t m. weekday_good t m b.weekday)))

      built_good : (rs : List Relative) → Good P (build_extended b rs base)
      unfolding build_extended
      built_good rs = onto (absolute b (none rs) base) _ (absolute_good (none rs)) (λ r h. onto (add_relatives rs r) _ (relatives_good rs r h) (λ m l. zone_good m l b.zone))

    -- What `build` gives is accepted, whatever the items, their digits and the base, and its offset has the property if the base's has.
    build_good : (digits : List ℕ) (xs : List Item) (base r : ExtendedDateTime) → P base.offset_seconds → build digits xs base ≡ fine r → (test r ≡ accepted tt) × P r.offset_seconds
    unfolding build built
    build_good digits xs base r k e = by (gather digits 0 empty xs) e
      where
        good : (o : Outcome ExtendedDateTime) → Good P o → placed.placed 0 o ≡ fine r → (test r ≡ accepted tt) × P r.offset_seconds
        good (accepted s) g h = g r (ap accepted (cc))
        good (refused n) g h = cc

        by : (p : Placed DateTimeBuilder) → placed.◌>>=◌ p (λ b. placed.placed 0 (build_extended b (relatives xs) base)) ≡ fine r → (test r ≡ accepted tt) × P r.offset_seconds
        by (fine b) h = good (build_extended b (relatives xs) base) (built_good b base k (relatives xs)) h
        by (refusal n at) h = cc

-- of an offset nothing needs to be known
abbrev pub Any : ℤ → Type 0
Any z = Unit {0}

pub accepted_built : (digits : List ℕ) (xs : List Item) (base r : ExtendedDateTime) → build digits xs base ≡ fine r → test r ≡ accepted tt
accepted_built digits xs base r e = (build_good Any (λ o. tt) digits xs base r tt e).0

-- ---- offsets of whole minutes

abbrev Whole : ℤ → Type 0
Whole z = whole_minutes z ≡ true

offset_whole : (o : Offset) → Whole (total_seconds o)
unfolding total_seconds signed
offset_whole o = by o.negative (o.hours * 3600 + o.minutes * 60) (eq-eqb ((o.hours * 3600 + o.minutes * 60) % 60) 0 (omega arith))
  where
    by : (t : Bool) (n : ℕ) → eqb (n % 60) 0 ≡ true → Whole (signed t n)
    by false n e = e
    by true zero e = e
    by true (suc n) e = e

-- Under a base of whole minutes, what is built has an offset of whole minutes.
pub whole_built : (digits : List ℕ) (xs : List Item) (base r : ExtendedDateTime) → whole_minutes base.offset_seconds ≡ true → build digits xs base ≡ fine r → whole_minutes r.offset_seconds ≡ true
whole_built digits xs base r k e = (build_good Whole offset_whole digits xs base r k e).1
