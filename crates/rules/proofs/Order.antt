-- The laws of one item more at the end: its rule, and its relative item. Assumes nothing.
use Rattle.items.specs.declared.Item.{Item}
use Rattle.items.specs.declared.Item.TheVariants as item
use Rattle.relative.specs.declared.Relative.{Relative}
use native.Mathlib.Omega.{arith}
use native.Mathlib.Nat.{add-zero}
use native.Mathlib.Numerals.{add-one}
use Prim.Native.Nat.{ℕ, zero, suc, ◌+◌, ◌<◌, ◌≤◌}
use mathlib.Core.Path.{◌≡◌, refl, sym}
use mathlib.Core.List.{List, [], ◌∷◌, ◌++◌, append-nil, append_assoc}
use lib.ListN.{length, take, set}
use lib.Seq.{take-set-le, take-suc-set}
use Rattle.answers.specs.Outcome.{Outcome, accepted, refused}
use Rattle.answers.specs.Placed.{Placed, fine, refusal}
use Rattle.rules.specs.Rules.{empty, set_item, onward, gather, add_item, relative_of, relatives}
use Rattle.rules.specs.declared.DateTimeBuilder.{DateTimeBuilder}

gather_more : (digits : List ℕ) (i : ℕ) (b : DateTimeBuilder) (xs : List Item) (x : Item) → gather digits i b (xs ++ (x ∷ [])) ≡ add_item digits (i + length xs) x (gather digits i b xs)
unfolding gather add_item
gather_more digits i b [] x = rw (add-zero i) refl
gather_more digits i b (y ∷ xs) x = by (λ next. gather_more digits (suc i) next xs x) (set_item digits b y)
  where
    by :
        ((next : DateTimeBuilder) → gather digits (suc i) next (xs ++ (x ∷ [])) ≡ add_item digits (suc i + length xs) x (gather digits (suc i) next xs)) → (o : Outcome DateTimeBuilder) →
        onward i o (λ next. gather digits (suc i) next (xs ++ (x ∷ []))) ≡ add_item digits (i + suc (length xs)) x (onward i o (λ next. gather digits (suc i) next xs))
    by later (accepted next) = let e : i + suc (length xs) ≡ suc i + length xs = omega arith in rw e (later next)
    by later (refused n) = refl

-- the rules of the items from the first on
pub rules_more : (digits : List ℕ) (xs : List Item) (x : Item) → gather digits 0 empty (xs ++ (x ∷ [])) ≡ add_item digits (length xs) x (gather digits 0 empty xs)
rules_more digits xs x = let e : length xs ≡ 0 + length xs = omega arith in rw e (gather_more digits 0 empty xs x)

pub relatives_more : (xs : List Item) (x : Item) → relatives (xs ++ (x ∷ [])) ≡ relatives xs ++ relative_of x
unfolding relatives
relatives_more [] x = append-nil (relative_of x)
relatives_more (y ∷ xs) x = rw (relatives_more xs x) (sym (append_assoc (relative_of y) (relatives xs) (relative_of x)))

-- a relative item in its place behind the others
pub one_more : (count n : ℕ) (rs ys : List Relative) (p : Relative) → n ≤ 1 → take n (p ∷ []) ≡ ys → count < length rs → take (count + n) (set rs count p) ≡ take count rs ++ ys
one_more count zero rs ys p h e l = rw (← e, append-nil (take count rs), add-zero count) (take-set-le count rs count p (omega arith))
one_more count (suc zero) rs ys p h e l = rw (← e, add-one count) (take-suc-set rs count p l)
one_more count (suc (suc n)) rs ys p h e l = absurd (omega arith)

-- a relative item changes nothing of what the others gave
pub no_rule : (digits : List ℕ) (i : ℕ) (r : Relative) (p : Placed DateTimeBuilder) → p ≡ add_item digits i (item.Relative r) p
unfolding add_item set_item
no_rule digits i r (fine b) = refl
no_rule digits i r (refusal n at) = refl
