-- What a date and a time, in one item or in two, build under an accepted base: the record of them, midnight where no time is given, and with
-- a relative item behind them what that makes of the record. Assumes nothing.
use Rattle.std.specs.Prelude.{Option, Some, None}
use Rattle.times.specs.declared.offset.Offset.{Offset}
use native.Mathlib.Omega.{arith}
use Prim.Native.Nat.{ℕ}
use mathlib.Core.Path.{◌≡◌, refl}
use mathlib.Core.Bool.{Bool, true, false}
use mathlib.Core.List.{[], ◌∷◌}
use lib.IntN.{ℤ}
use Rattle.answers.specs.Outcome.{Outcome, accepted, refused, ◌>>=◌}
use Rattle.extended.specs.Extended.{make, date, time, date_of, test, accept, with_date, with_time, with_offset}
use Rattle.extended.specs.declared.ExtendedDateTime.{ExtendedDateTime}
use Rattle.extended.proofs.Records.{facts, tested}
use Rattle.dates.specs.Date as dates
use Rattle.dates.specs.declared.date.Date.{Date}
use Rattle.times.specs.Offset.{total_seconds}
use Rattle.times.specs.declared.time.Time.{Time}
use Rattle.relative.specs.declared.Relative.{Relative}
use Rattle.items.specs.declared.Item.{Item}
use Rattle.items.specs.declared.Item.TheVariants as item
use Rattle.answers.specs.Placed.{fine, placed}
use Rattle.rules.specs.Rules.{need_midnight, set_date, set_time, set_date_time, set_item, gather, relatives}
use Rattle.builder.specs.Building.{start, on_date, on_offset, on_time, on_weekday, add_relative, add_relatives, on_zone, absolute, build_extended, built, build}
use Rattle.rules.specs.declared.DateTimeBuilder.{DateTimeBuilder}

-- the offset that is given, or that of the base
abbrev pub offset_or : ℤ → Option Offset → ℤ
offset_or base (Some o) = total_seconds o
offset_or base None = base

abbrev slot : Item → Item
slot v = v

abbrev day_of : ℕ → ℕ → ℕ → Date
day_of y m d = dates.date_of (Some y) m d

abbrev time_of : ℕ → ℕ → ℕ → ℕ → Option Offset → Time
time_of h i s n o = record { hour = h; minute = i; second = s; nanosecond = n; offset = o }

-- a last step that changes nothing
no_more : {A : Type 0} (p : Outcome A) → p >>= accepted ≡ p
no_more (accepted x) = refl
no_more (refused n) = refl

accept_ok : (r : ExtendedDateTime) → test r ≡ accepted tt → accept r ≡ accepted r
unfolding accept
accept_ok r t = rw t

module _ (base : ExtendedDateTime) (tb : test base ≡ accepted tt) (y m d h i s n : ℕ) (z : Option Offset) where
  abbrev whole : ExtendedDateTime
  whole = make (date y m d) (time h i s n) (offset_or base.offset_seconds z)

  abbrev at_midnight : ExtendedDateTime
  at_midnight = make (date_of base) (time 0 0 0 0) base.offset_seconds

  abbrev on_date_lem : ExtendedDateTime
  on_date_lem = make (date y m d) (time 0 0 0 0) base.offset_seconds

  abbrev at_offset : Option Offset → ExtendedDateTime
  at_offset w = make (date y m d) (time 0 0 0 0) (offset_or base.offset_seconds w)

  module _ (tr : test whole ≡ accepted tt) where
    first : test at_midnight ≡ accepted tt
    unfolding make
    first =
        let a = facts base tb in
        tested _ (record { date = a.date; year_high = a.year_high; hour_high = omega arith; minute_high = omega arith; second_high = omega arith; nanosecond_high = omega arith; offset_in = a.offset_in })

    second : test on_date_lem ≡ accepted tt
    unfolding make
    second =
        let a = facts base tb in
        let b = facts whole tr in
        tested _ (record { date = b.date; year_high = b.year_high; hour_high = omega arith; minute_high = omega arith; second_high = omega arith; nanosecond_high = omega arith; offset_in = a.offset_in })

    third : test (at_offset z) ≡ accepted tt
    unfolding make
    third =
        let b = facts whole tr in
        tested _ (record { date = b.date; year_high = b.year_high; hour_high = omega arith; minute_high = omega arith; second_high = omega arith; nanosecond_high = omega arith; offset_in = b.offset_in })

    midnight : with_time base (time 0 0 0 0) ≡ accepted at_midnight
    unfolding with_time
    midnight = rw tb (accept_ok at_midnight first)

    dated : with_date at_midnight (date y m d) ≡ accepted on_date_lem
    unfolding with_date make
    dated = rw first (accept_ok _ second)

    placed_at : on_offset z on_date_lem ≡ accepted (at_offset z)
    unfolding with_offset make
    placed_at = go z third
      where
        go : (w : Option Offset) → test (at_offset w) ≡ accepted tt → on_offset w on_date_lem ≡ accepted (at_offset w)
        go None t = refl
        go (Some o) t = rw second (accept_ok _ t)

    timed : with_time (at_offset z) (time h i s n) ≡ accepted whole
    unfolding with_time make
    timed = rw third (accept_ok whole tr)

    -- ---- a date alone

    abbrev day_held : DateTimeBuilder
    day_held = record { date = Some (day_of y m d); time = None; weekday = None; zone = None }

    day_whole : (bare : Bool) → absolute day_held bare base ≡ accepted on_date_lem
    unfolding absolute start need_midnight on_date on_time on_weekday
    day_whole bare = rw (midnight, dated)

    pub day_built : build [] (slot (item.Date (day_of y m d)) ∷ []) base ≡ fine on_date_lem
    unfolding build built gather set_item set_date relatives build_extended add_relatives on_zone
    day_built = rw (day_whole true)

    pub day_moved : (v : Relative) → build [] (slot (item.Date (day_of y m d)) ∷ slot (item.Relative v) ∷ []) base ≡ placed 0 (add_relative v on_date_lem)
    unfolding build built gather set_item set_date relatives build_extended add_relatives on_zone
    day_moved v = rw (day_whole false, no_more (add_relative v on_date_lem), no_more (add_relative v on_date_lem))

    -- ---- with a time

    abbrev both_held : DateTimeBuilder
    both_held = record { date = Some (day_of y m d); time = Some (time_of h i s n z); weekday = None; zone = None }

    both_whole : (bare : Bool) → absolute both_held bare base ≡ accepted whole
    unfolding absolute start need_midnight on_date on_time on_weekday
    both_whole bare = rw (midnight, dated, placed_at, timed)

    pub combined_built : build [] (slot (item.DateTime (record { date = day_of y m d; time = time_of h i s n z })) ∷ []) base ≡ fine whole
    unfolding build built gather set_item set_date_time set_date set_time relatives build_extended add_relatives on_zone
    combined_built = rw (both_whole true)

    pub combined_moved : (v : Relative) → build [] (slot (item.DateTime (record { date = day_of y m d; time = time_of h i s n z })) ∷ slot (item.Relative v) ∷ []) base ≡ placed 0 (add_relative v whole)
    unfolding build built gather set_item set_date_time set_date set_time relatives build_extended add_relatives on_zone
    combined_moved v = rw (both_whole false, no_more (add_relative v whole), no_more (add_relative v whole))

    pub apart_built : build [] (slot (item.Date (day_of y m d)) ∷ slot (item.Time (time_of h i s n z)) ∷ []) base ≡ fine whole
    unfolding build built gather set_item set_date set_time relatives build_extended add_relatives on_zone
    apart_built = rw (both_whole true)

    pub apart_moved : (v : Relative) → build [] (slot (item.Date (day_of y m d)) ∷ slot (item.Time (time_of h i s n z)) ∷ slot (item.Relative v) ∷ []) base ≡ placed 0 (add_relative v whole)
    unfolding build built gather set_item set_date set_time relatives build_extended add_relatives on_zone
    apart_moved v = rw (both_whole false, no_more (add_relative v whole), no_more (add_relative v whole))
