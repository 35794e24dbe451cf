-- The place of a packet's refusal is never past its 64 items. Assumes nothing.
use native.Mathlib.Omega.{arith}
use Prim.Native.Nat.{ℕ, zero, suc, ◌+◌, ◌≤◌}
use mathlib.Core.Path.{◌≡◌, refl, sym, ap}
use mathlib.Core.Bool.{Bool, true, false}
use mathlib.Core.List.{List, [], ◌∷◌}
use lib.Dec.{leb}
use lib.ListN.{length}
use Rattle.answers.specs.Outcome.{Outcome, accepted, refused, check}
use Rattle.extended.specs.Extended.{test}
use Rattle.extended.specs.declared.ExtendedDateTime.{ExtendedDateTime}
use Rattle.items.specs.declared.Item.{Item}
use Rattle.answers.specs.Placed.{Placed, fine, refusal, placed, place_of, ◌>>=◌, ◌>>◌}
use Rattle.builder.specs.Building.{build}
use Rattle.builder.proofs.Places.{first_step, at_place, build_place}
use Rattle.packet_fields.specs.Fields.{little, digits_used}
use Rattle.packet.specs.Packet.{count, header, digits, item_at, items_from, build_items, read_packet}
use Rattle.packet.proofs.Steps.{few}

module _ (bytes area : List ℕ) (k : ℕ) where
  -- the place of the items, and of what is made of as many as there are
  from_place : (n i used : ℕ) (f : List Item → Placed ExtendedDateTime) → i + n ≤ k → ((ys : List Item) → length ys ≡ n → place_of (f ys) ≤ k) → place_of (items_from bytes area n i used >>= f) ≤ k
  unfolding items_from
  from_place zero i used f h g = by (leb (length area) used)
    where
      by : (t : Bool) → place_of ((placed i (check t 5) >> fine []) >>= f) ≤ k
      by true = g [] refl
      by false = omega arith
  from_place (suc n) i used f h g = by (λ x. from_place n (suc i) (used + digits_used x) (λ ys. f (x ∷ ys)) (omega arith) (λ ys l. g (x ∷ ys) (ap suc l))) (item_at bytes area i used)
    where
      moved : (x : Item) (q : Placed (List Item)) → place_of (q >>= (λ ys. f (x ∷ ys))) ≤ k → place_of ((q >>= (λ ys. fine (x ∷ ys))) >>= f) ≤ k
      moved x (fine ys) e = e
      moved x (refusal m at) e = e

      by : ((x : Item) → place_of (items_from bytes area n (suc i) (used + digits_used x) >>= (λ ys. f (x ∷ ys))) ≤ k) → (o : Outcome Item) →
          place_of ((placed i o >>= (λ x. items_from bytes area n (suc i) (used + digits_used x) >>= (λ ys. fine (x ∷ ys)))) >>= f) ≤ k
      by later (accepted x) = moved x (items_from bytes area n (suc i) (used + digits_used x)) (later x)
      by later (refused m) = omega arith

  items_place : (n : ℕ) (base : ExtendedDateTime) → n ≤ k → place_of (build_items bytes area n base) ≤ k
  unfolding build_items
  items_place n base h = from_place n 0 0 (λ xs. build area xs base) (omega arith) (λ xs l. omega (arith, build_place area xs base))

pub place_within : (bytes : List ℕ) (base : ExtendedDateTime) → place_of (read_packet bytes base) ≤ 64
unfolding read_packet count
place_within bytes base = first_step (placed 0 (test base)) _ 64 (omega (arith, at_place 0 (test base))) (by (header bytes) refl)
  where
    by : (o : Outcome (Unit {0})) → header bytes ≡ o → place_of (placed 0 o >> build_items bytes (digits bytes) (little 2 0 bytes) base) ≤ 64
    by (accepted u) e = items_place bytes (digits bytes) 64 (little 2 0 bytes) base (few bytes (sym e))
    by (refused n) e = omega arith
