-- What the item of a written record builds under any base: the record itself, and with seconds behind it what `add_seconds` gives. Assumes
-- nothing.
use Rattle.std.specs.Prelude.{Some}
use mathlib.Core.Path.{◌≡◌}
use mathlib.Core.Bool.{true}
use mathlib.Core.List.{[], ◌∷◌}
use lib.IntN.{ℤ}
use Rattle.answers.specs.Outcome.{accepted}
use Rattle.extended.specs.Extended.{make, date_of, time_of, test, add_seconds}
use Rattle.extended.specs.declared.ExtendedDateTime.{ExtendedDateTime}
use Rattle.times.specs.Offset.{total_seconds}
use Rattle.relative.specs.declared.Relative.TheVariants.{Seconds}
use Rattle.items.specs.declared.Item.{Item}
use Rattle.items.specs.declared.Item.TheVariants as item
use Rattle.answers.specs.Placed.{fine, placed}
use Rattle.builder.specs.Building.{add_relative, build}
use Rattle.builder.proofs.DateAndTime.{combined_built, combined_moved}
use Rattle.writer.specs.Writer.{whole_minutes}
use Rattle.theorems_round_trip.proofs.Written.{offset_of, both_of, seconds_of}

module _ (base r : ExtendedDateTime) (tb : test base ≡ accepted tt) (tr : test r ≡ accepted tt) (whole : whole_minutes r.offset_seconds ≡ true) where
  -- the record of the item's numbers
  again : make (date_of r) (time_of r) (total_seconds (offset_of r.offset_seconds)) ≡ r
  unfolding make
  again = rw (seconds_of r.offset_seconds whole)

  accepted_again : test (make (date_of r) (time_of r) (total_seconds (offset_of r.offset_seconds))) ≡ accepted tt
  accepted_again = rw again tr

  abbrev slot : Item → Item
  slot x = x

  pub built_alone : build [] (slot (item.DateTime (both_of r)) ∷ []) base ≡ fine r
  built_alone =
      rw again at (combined_built base tb r.year r.month r.day r.hour r.minute r.second r.nanosecond (Some (offset_of r.offset_seconds)) accepted_again)

  pub built_moved : (z : ℤ) → build [] (slot (item.DateTime (both_of r)) ∷ slot (item.Relative (Seconds z 0)) ∷ []) base ≡ placed 0 (add_seconds r z 0)
  unfolding add_relative
  built_moved z =
      rw again at (combined_moved base tb r.year r.month r.day r.hour r.minute r.second r.nanosecond (Some (offset_of r.offset_seconds)) accepted_again (Seconds z 0))
