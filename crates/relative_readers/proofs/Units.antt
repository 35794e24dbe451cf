-- The table of units of the code gives what the definition's gives. Assumes nothing.
use Prim.Native.Nat.{ℕ}
use Prim.Native.String.{String}
use mathlib.Core.Path.{◌≡◌, refl}
use mathlib.Core.List.{List, [], ◌∷◌}
use lib.IntN.{ℤ}
use Rattle.primitive.specs.Answer.{Answer, matched, none}
use Rattle.primitive.specs.Primitive.{named}
use Rattle.relative.specs.Relative.{units, stripped, in_unit}
use Rattle.relative.specs.declared.Relative.{Relative}
use Rattle.relative.proofs.Units.{given_by, named_by}
use Rattle.relative_readers.specs.Unit.{times}
use Rattle.relative_readers.specs.declared.unit.Unit.{Unit}
use Rattle.relative_readers.specs.declared.unit.Unit.TheVariants.{Year, Month, Fortnight, Week, Day, Hour, Minute, Second}

-- the words of the units, each with the code's unit beside it
unfoldable pub unit_words : List (String × Unit)
unit_words =
    ("year", Year) ∷ ("month", Month) ∷ ("fortnight", Fortnight) ∷ ("week", Week) ∷ ("day", Day) ∷ ("hour", Hour) ∷ ("minute", Minute)
    ∷ ("min", Minute) ∷ ("second", Second) ∷ ("sec", Second) ∷ []

units_given : units ≡ given_by times unit_words
unfolding units unit_words times given_by
units_given = refl

module _ (n : ℤ) (w text : List ℕ) (next : ℕ) where
  pub unit_none : none ≡ named unit_words (stripped w) text next → none ≡ in_unit n w text next
  unfolding in_unit
  unit_none e = rw (units_given, named_by times unit_words (stripped w) text next, ← e)

  pub unit_found : (u : Unit) (a : Answer Relative) → matched u next ≡ named unit_words (stripped w) text next → a ≡ times u n text next → a ≡ in_unit n w text next
  unfolding in_unit
  unit_found u a e f = rw (units_given, named_by times unit_words (stripped w) text next, ← e) f
