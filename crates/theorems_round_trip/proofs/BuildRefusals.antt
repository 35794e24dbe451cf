-- Which numbers the rules of the items and the building refuse with. Assumes nothing.
use Prim.Native.Nat.{ℕ, suc}
use mathlib.Core.Path.{◌≡◌, refl}
use mathlib.Core.Bool.{Bool, true, false, not}
use mathlib.Core.List.{List, [], ◌∷◌}
use Rattle.std.specs.Prelude.{Option, Some, None, is_some}
use Rattle.answers.specs.Numbers as refusal
use Rattle.answers.specs.Outcome.{Outcome, accepted, refused, check, ◌>>◌, ◌>>=◌}
use Rattle.host_calls.specs.Given.{sum_numbers}
use Rattle.items.specs.declared.combined.DateTime.{DateTime}
use Rattle.extended.specs.Extended.{add_days, add_hours, weekday_monday0}
use Rattle.extended.specs.declared.ExtendedDateTime.{ExtendedDateTime}
use Rattle.items.specs.declared.Item.{Item}
use Rattle.items.specs.declared.Item.TheVariants as item
use Rattle.items.specs.declared.Pure.{Pure}
use Rattle.items.specs.declared.Weekday.{Weekday}
use Rattle.dates.specs.declared.date.Date.{Date}
use Rattle.times.specs.declared.time.Time.{Time}
use Rattle.times.specs.declared.offset.Offset.{Offset}
use Rattle.relative.specs.declared.Relative.{Relative}
use Rattle.rules.specs.Rules.{empty, with_date, relatives, set_date, set_time, set_weekday, set_zone, set_date_time, set_pure_year, set_hour, set_hour_and_minute, set_pure_time, pure_year, pure, set_pure, set_item, rule_place, onward, gather}
use Rattle.rules.specs.declared.Zone.{Zone}
use Rattle.rules.specs.declared.Zone.TheVariants as given-zone
use Rattle.rules.specs.declared.DateTimeBuilder.{DateTimeBuilder}
use Rattle.builder.specs.Building.{start, on_date, on_offset, on_time, weekday_sum, delta, forwarded, on_weekday, add_relatives, with_zone, on_zone, absolute, build_extended, built, build}
use Rattle.host_calls.proofs.Numbered.{Numbered, value, by_number, then}
use Rattle.theorems_round_trip.proofs.Refusals.{steps, Among, a_value, a_refusal, first_then, placed_among, among_wider, test_sum, accept_sum, with_date_numbered, with_time_numbered, with_offset_numbered, add_units_numbered, add_relative_numbered}

-- ---- the building

start_numbered : (b : DateTimeBuilder) (bare : Bool) (base : ExtendedDateTime) → Numbered sum_numbers (start b bare base)
unfolding start
start_numbered b bare base = search (steps, with_time_numbered, accept_sum)

module _ (r : ExtendedDateTime) where
  on_date_numbered : (d : Option Date) → Numbered sum_numbers (on_date d r)
  unfolding on_date
  on_date_numbered None = value r
  on_date_numbered (Some d) = search with_date_numbered

  on_offset_numbered : (o : Option Offset) → Numbered sum_numbers (on_offset o r)
  on_offset_numbered None = value r
  on_offset_numbered (Some o) = search with_offset_numbered

  on_time_numbered : (t : Option Time) → Numbered sum_numbers (on_time t r)
  unfolding on_time
  on_time_numbered None = value r
  on_time_numbered (Some t) = search (steps, on_offset_numbered, with_time_numbered)

  on_weekday_numbered : (w : Option Weekday) → Numbered sum_numbers (on_weekday w r)
  unfolding on_weekday weekday_monday0 forwarded delta weekday_sum add_days
  on_weekday_numbered None = value r
  on_weekday_numbered (Some w) = search (steps, test_sum, add_units_numbered)

  on_zone_numbered : (z : Option Zone) → Numbered sum_numbers (on_zone z r)
  unfolding on_zone with_zone add_hours
  on_zone_numbered None = value r
  on_zone_numbered (Some given-zone.Local) = value r
  on_zone_numbered (Some (given-zone.Offset o)) = search (steps, add_units_numbered, with_offset_numbered)

add_relatives_numbered : (xs : List Relative) (r : ExtendedDateTime) → Numbered sum_numbers (add_relatives xs r)
unfolding add_relatives
add_relatives_numbered [] r = value r
add_relatives_numbered (x ∷ xs) r = then (add_relative_numbered r x) (add_relatives_numbered xs)

pub build_extended_numbered : (b : DateTimeBuilder) (rs : List Relative) (base : ExtendedDateTime) → Numbered sum_numbers (build_extended b rs base)
unfolding build_extended absolute
build_extended_numbered b rs base =
    search (steps, start_numbered, on_date_numbered, on_time_numbered, on_weekday_numbered, add_relatives_numbered, on_zone_numbered)

-- ---- the rules

-- a second date, time, weekday or zone, a time with an offset after a zone, and the two refusals of a pure number
abbrev pub rule_numbers : List ℕ
rule_numbers = 6 ∷ (7 ∷ (8 ∷ (9 ∷ [])))

module _ (digits : List ℕ) (b : DateTimeBuilder) where
  set_pure_time_numbered : (p : Pure) → Numbered rule_numbers (set_pure_time digits b p)
  unfolding set_pure_time set_hour set_hour_and_minute set_time
  set_pure_time_numbered p = search steps

  pure_numbered : (p : Pure) (d : Option Date) → Numbered rule_numbers (pure digits b p d)
  unfolding set_pure_year
  pure_numbered p None = set_pure_time_numbered p
  pure_numbered p (Some d) = go d.year
    where
      go : (y : Option ℕ) → Numbered rule_numbers (pure_year digits b p d y)
      go (Some y) = set_pure_time_numbered p
      go None = search steps

  pub set_item_numbered : (x : Item) → Numbered rule_numbers (set_item digits b x)
  unfolding set_item set_date_time set_date set_time set_weekday set_zone set_pure
  set_item_numbered (item.DateTime v) = search steps
  set_item_numbered (item.Date d) = search steps
  set_item_numbered (item.Time t) = search steps
  set_item_numbered (item.Weekday w) = search steps
  set_item_numbered (item.Relative r) = value b
  set_item_numbered (item.Offset o) = search steps
  set_item_numbered item.LocalZone = search steps
  set_item_numbered (item.Pure p) = pure_numbered p b.date

-- ---- the whole

-- rules and building
abbrev pub build_numbers : List ℕ
build_numbers = refusal.twice ∷ refusal.rival ∷ refusal.pure ∷ sum_numbers

pub gather_among : (digits : List ℕ) (i : ℕ) (b : DateTimeBuilder) (xs : List Item) → Among rule_numbers (gather digits i b xs)
unfolding gather
gather_among digits i b [] = a_value b
gather_among digits i b (x ∷ xs) = go (λ next. gather_among digits (suc i) next xs) (set_item_numbered digits b x)
  where
    go : ((next : DateTimeBuilder) → Among rule_numbers (gather digits (suc i) next xs)) → {o : Outcome DateTimeBuilder} → Numbered rule_numbers o →
        Among rule_numbers (onward i o (λ next. gather digits (suc i) next xs))
    go f (value next) = f next
    go f (by_number k e) = a_refusal k (rule_place k i) e

-- Whatever the items, their digits and the base: what is built has a number of these.
pub build_among : (digits : List ℕ) (xs : List Item) (base : ExtendedDateTime) → Among build_numbers (build digits xs base)
unfolding build built
build_among digits xs base =
    first_then (among_wider build_numbers refl (gather_among digits 0 empty xs))
    (λ b. among_wider build_numbers refl (placed_among 0 (build_extended_numbered b (relatives xs) base)))

-- ---- the items of a text

-- an item that a text can have
pub data Texted : Item → Type 0 where
  a_date : (d : Date) → Texted (item.Date d)
  a_time : (t : Time) → Texted (item.Time t)
  a_date_time : (v : DateTime) → Texted (item.DateTime v)
  a_relative : (r : Relative) → Texted (item.Relative r)

pub data AllTexted : List Item → Type 0 where
  no_item : AllTexted []
  an_item : {x : Item} {xs : List Item} → Texted x → AllTexted xs → AllTexted (x ∷ xs)

-- A text has no zone, so that a second date or time is all that can be refused.
data TextRule : Outcome DateTimeBuilder → Type 0 where
  kept : (b : DateTimeBuilder) → b.zone ≡ None → TextRule (accepted b)
  second : TextRule (refused 6)

time_rule : (b : DateTimeBuilder) (t : Time) → b.zone ≡ None → TextRule (set_time b t)
unfolding set_time
time_rule b t z = rw z (by (is_some b.time))
  where
    by : (s : Bool) → TextRule (check (not s) 6 >> (check true 7 >> accepted (record { date = b.date; time = Some t; weekday = b.weekday; zone = None })))
    by true = second
    by false = kept _ refl

text_rule : (digits : List ℕ) (b : DateTimeBuilder) (x : Item) → b.zone ≡ None → Texted x → TextRule (set_item digits b x)
unfolding set_item set_date_time set_date
text_rule digits b x z (a_relative r) = kept b z
text_rule digits b x z (a_time t) = time_rule b t z
text_rule digits b x z (a_date d) = by (is_some b.date)
  where
    by : (t : Bool) → TextRule (check (not t) 6 >> accepted (with_date b d))
    by true = second
    by false = kept (with_date b d) z
text_rule digits b x z (a_date_time v) = by (is_some b.date)
  where
    by : (t : Bool) → TextRule ((check (not t) 6 >> accepted (with_date b v.date)) >>= (λ next. set_time next v.time))
    by true = second
    by false = time_rule (with_date b v.date) v.time z

pub text_gather : (digits : List ℕ) (i : ℕ) (b : DateTimeBuilder) (xs : List Item) → b.zone ≡ None → AllTexted xs → Among (6 ∷ []) (gather digits i b xs)
unfolding gather
text_gather digits i b [] z a = a_value b
text_gather digits i b (x ∷ xs) z (an_item t a) = go (λ next e. text_gather digits (suc i) next xs e a) (text_rule digits b x z t)
  where
    go : ((next : DateTimeBuilder) → next.zone ≡ None → Among (6 ∷ []) (gather digits (suc i) next xs)) → {o : Outcome DateTimeBuilder} → TextRule o →
        Among (6 ∷ []) (onward i o (λ next. gather digits (suc i) next xs))
    go f (kept next e) = f next e
    go f second = a_refusal 6 (rule_place 6 i) refl

-- What a text's items build.
pub text_build_among : (digits : List ℕ) (xs : List Item) (base : ExtendedDateTime) → AllTexted xs → Among (refusal.twice ∷ sum_numbers) (build digits xs base)
unfolding build built
text_build_among digits xs base a =
    first_then (among_wider (refusal.twice ∷ sum_numbers) refl (text_gather digits 0 empty xs refl a))
    (λ b. among_wider (refusal.twice ∷ sum_numbers) refl (placed_among 0 (build_extended_numbered b (relatives xs) base)))
