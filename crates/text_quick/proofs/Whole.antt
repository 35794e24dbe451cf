-- A record that is made of a text's date and time at once, and moved by its relative item, is the one that the text's items build. Assumes
-- nothing.
use Rattle.items.specs.declared.Item.{Item}
use Prim.Native.Nat.{ℕ, ◌≤◌}
use mathlib.Core.Path.{◌≡◌, sym, ap, ◌∙◌}
use mathlib.Core.Bool.{true}
use mathlib.Core.List.{List, [], ◌∷◌, ◌++◌}
use lib.ListN.{length}
use borrow.Author.Tests.{le-leb}
use Rattle.answers.specs.Outcome.{Outcome, accepted}
use Rattle.answers.specs.Refusals.{outcome_of}
use Rattle.answers.specs.declared.Refusal.{Refusal}
use Rattle.primitive.proofs.Lowered.{clash}
use Rattle.std.specs.Prelude.{Some, Result, Ok, Err}
use Rattle.std.specs.Result.{result_ok}
use Rattle.extended.specs.Extended.{make, test, accept}
use Rattle.extended.specs.declared.ExtendedDateTime.{ExtendedDateTime}
use Rattle.answers.proofs.Outcomes.{first_passed, same}
use Rattle.extended.proofs.Records.{facts}
use Rattle.primitive.proofs.Rows.{both}
use Rattle.dates.specs.Date.{exists}
use Rattle.relative.specs.declared.Relative.{Relative}
use Rattle.items.specs.Items.{ended, parse_items}
use Rattle.items.specs.declared.Item.TheVariants as item
use Rattle.answers.specs.Placed.{fine, placed}
use Rattle.builder.specs.Building.{add_relative, build}
use Rattle.text_general.specs.Reading.{items_of, build_parsed, build_text}
use Rattle.text_quick.specs.Shifts.{Shift}
use Rattle.text_quick.specs.Shapes.{Fronts, day_alone, combined, apart, Shaped, record_of, AtOnce}
use Rattle.text_quick.specs.declared.Shape.{Shape}
use Rattle.builder.proofs.DateAndTime.{day_built, day_moved, combined_built, combined_moved, apart_built, apart_moved}

-- the items of a text build what it builds
listed : (text : List ℕ) {xs : List Item} (base : ExtendedDateTime) → parse_items text ≡ ended xs 0 0 → build_text text base ≡ build [] xs base
unfolding build_text build_parsed items_of
listed text base e = rw e

module _ (base : ExtendedDateTime) (tb : test base ≡ accepted tt) (x : Shape) (tr : test (record_of x base.offset_seconds) ≡ accepted tt) where
  front_built : {xs : List Item} → Fronts x xs → build [] xs base ≡ fine (record_of x base.offset_seconds)
  front_built (day_alone h) = rw h (day_built base tb x.date.year x.date.month x.date.day x.time.hour x.time.minute x.time.second x.time.nanosecond x.time.offset tr)
  front_built combined = combined_built base tb x.date.year x.date.month x.date.day x.time.hour x.time.minute x.time.second x.time.nanosecond x.time.offset tr
  front_built apart = apart_built base tb x.date.year x.date.month x.date.day x.time.hour x.time.minute x.time.second x.time.nanosecond x.time.offset tr

  front_moved : {xs : List Item} (v : Relative) → Fronts x xs → build [] (xs ++ ((item.Relative v) ∷ [])) base ≡ placed 0 (add_relative v (record_of x base.offset_seconds))
  front_moved v (day_alone h) = rw h (day_moved base tb x.date.year x.date.month x.date.day x.time.hour x.time.minute x.time.second x.time.nanosecond x.time.offset tr v)
  front_moved v combined = combined_moved base tb x.date.year x.date.month x.date.day x.time.hour x.time.minute x.time.second x.time.nanosecond x.time.offset tr v
  front_moved v apart = apart_moved base tb x.date.year x.date.month x.date.day x.time.hour x.time.minute x.time.second x.time.nanosecond x.time.offset tr v

  there : exists x.date.year x.date.month x.date.day ≡ true
  unfolding exists make
  there = let a = facts _ tr in both (le-leb 1 x.date.day a.date.day_low) (le-leb x.date.day _ a.date.day_high)

module _ {text : List ℕ} (base : ExtendedDateTime) {x : Shape} (a : Shaped text x) where
  abbrev whole : ExtendedDateTime
  whole = record_of x base.offset_seconds

  passed : {r : ExtendedDateTime} → accept whole ≡ accepted r → (test whole ≡ accepted tt) × (accepted whole ≡ accepted r)
  unfolding accept
  passed e = first_passed (test whole) (accepted whole) e

  -- with nothing behind the date and the time
  pub whole_at_once : (r : ExtendedDateTime) → accepted r ≡ accept whole → length text ≤ x.next → AtOnce text base (Some r)
  whole_at_once r k h = λ tb.
      let (t, s) = passed (sym k) in
      let f = a.front (there base tb x t) in
      listed text base (f.whole h) ∙ (front_built base tb x t f.fronts ∙ ap fine (same s))

  -- with a relative item behind them
  pub moved_at_once : (r : ExtendedDateTime) → accepted r ≡ accept whole → {v : Relative} → Shift text x.next v → (q : ExtendedDateTime) → accepted q ≡ add_relative v r → AtOnce text base (Some q)
  moved_at_once r k {v} sh q g = λ tb.
      let (t, s) = passed (sym k) in
      let f = a.front (there base tb x t) in
      listed text base (f.moved v sh) ∙ (front_moved base tb x t v f.fronts ∙ rw (same s, ← g))

  -- or with none, where the item moves the record out of the years
  pub moved_if : (r : ExtendedDateTime) → accepted r ≡ accept whole → {v : Relative} → Shift text x.next v → (q : Result ExtendedDateTime Refusal) → outcome_of q ≡ add_relative v r → AtOnce text base (result_ok q)
  moved_if r k sh (Ok q) g = moved_at_once r k sh q g
  moved_if r k sh (Err e) g = tt

-- ---- what a result is

pub held : {A : Type 0} {o : Outcome A} {a : A} (r : Result A Refusal) → Some a ≡ result_ok r → outcome_of r ≡ o → accepted a ≡ o
held {a = a} (Ok b) e g = let z : a ≡ b = cc in rw z g
held (Err b) e g = let z : ◌≡◌ {A = ℕ} 0 1 = cc in absurd (clash z)
