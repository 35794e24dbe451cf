-- The place of a refusal of the rules or of the building is an item's index, or 0. Assumes nothing.
use Rattle.items.specs.declared.Item.{Item}
use native.Mathlib.Omega.{arith}
use Prim.Native.Nat.{ℕ, suc, ◌+◌, ◌≤◌}
use mathlib.Core.Bool.{Bool, true, false, cond}
use mathlib.Core.List.{List, [], ◌∷◌}
use lib.Dec.{eqb}
use lib.ListN.{length}
use Rattle.answers.specs.Outcome.{Outcome, accepted, refused}
use Rattle.extended.specs.declared.ExtendedDateTime.{ExtendedDateTime}
use Rattle.answers.specs.Placed.{Placed, fine, refusal, placed, place_of, ◌>>=◌, ◌>>◌}
use Rattle.rules.specs.Rules.{empty, set_item, rule_place, onward, gather, relatives}
use Rattle.rules.specs.declared.DateTimeBuilder.{DateTimeBuilder}
use Rattle.builder.specs.Building.{build_extended, built, build}

place_low : (n i : ℕ) → rule_place n i ≤ i
unfolding rule_place
place_low n i = go (eqb n 9)
  where
    go : (t : Bool) → cond t 0 i ≤ i
    go true = omega arith
    go false = omega arith

rule_place_lem : (digits : List ℕ) (i : ℕ) (b : DateTimeBuilder) (xs : List Item) → place_of (gather digits i b xs) ≤ i + length xs
unfolding gather
rule_place_lem digits i b [] = omega arith
rule_place_lem digits i b (x ∷ xs) = go (λ next. rule_place_lem digits (suc i) next xs) (set_item digits b x)
  where
    go : ((next : DateTimeBuilder) → place_of (gather digits (suc i) next xs) ≤ suc i + length xs) → (o : Outcome DateTimeBuilder) → place_of (onward i o (λ next. gather digits (suc i) next xs)) ≤ i + suc (length xs)
    go f (accepted next) = omega (arith, f next)
    go f (refused n) = omega (arith, place_low n i)

pub first_place : {A B : Type 0} (p : Placed A) (f : A → Placed B) (k : ℕ) → place_of p ≤ k → ((a : A) → place_of (f a) ≤ k) → place_of (p >>= f) ≤ k
first_place (fine a) f k h g = g a
first_place (refusal n at) f k h g = h

pub first_step : {A B : Type 0} (p : Placed A) (q : Placed B) (k : ℕ) → place_of p ≤ k → place_of q ≤ k → place_of (p >> q) ≤ k
first_step (fine a) q k h g = g
first_step (refusal n at) q k h g = h

pub at_place : {A : Type 0} (at : ℕ) (o : Outcome A) → place_of (placed at o) ≤ at
at_place at (accepted a) = omega arith
at_place at (refused n) = omega arith

pub build_place : (digits : List ℕ) (xs : List Item) (base : ExtendedDateTime) → place_of (build digits xs base) ≤ length xs
unfolding build built
build_place digits xs base =
    first_place (gather digits 0 empty xs) (λ b. placed 0 (build_extended b (relatives xs) base)) (length xs) (omega (arith, rule_place_lem digits 0 empty xs))
    (λ b. omega (arith, at_place 0 (build_extended b (relatives xs) base)))
