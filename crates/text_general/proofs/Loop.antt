-- The laws of the loop over a text's items: what is left to read from a place on, behind the items that are gathered. Assumes nothing.
use Rattle.relative.specs.declared.Relative.{Relative}
use native.Mathlib.Omega.{arith}
use native.Mathlib.Numerals.{add-one}
use Prim.Native.Nat.{ℕ, zero, suc, ◌+◌, ◌-◌, ◌<◌, ◌≤◌}
use mathlib.Core.Path.{◌≡◌, refl, sym, ◌∙◌}
use mathlib.Core.Bool.{Bool, true, false, cond}
use mathlib.Core.List.{List, [], ◌∷◌, ◌++◌}
use lib.ListN.{length, length-append}
use lib.Dec.{ltb}
use borrow.Author.Tests.{lt-ltb, le-ltb}
use Rattle.primitive.specs.Answer.{Answer, matched, dropped, none, stop, carry}
use Rattle.primitive.specs.Text.{lowered}
use Rattle.primitive.specs.Primitive.{space}
use Rattle.primitive.proofs.Lowered.{length_lowered}
use Rattle.extended.specs.declared.ExtendedDateTime.{ExtendedDateTime}
use Rattle.items.specs.Items.{parse_item, ended, further, kept, items_from, parse_items}
use Rattle.items.specs.declared.Item.{Item}
use Rattle.answers.specs.Placed.{Placed, fine, refusal, ◌>>=◌}
use Rattle.rules.specs.Rules.{empty, gather, add_item, relative_of, relatives}
use Rattle.rules.specs.declared.DateTimeBuilder.{DateTimeBuilder}
use Rattle.rules.proofs.Order.{rules_more, relatives_more}
use Rattle.builder.specs.Building.{built, build}
use Rattle.text_general.specs.Reading.{items_of, build_parsed, build_text}
use Rattle.text_general.specs.Rest.{one, rest, left}

-- an item more, in the words of the definition
more : (text : List ℕ) (base : ExtendedDateTime) (room : ℕ) (xs : List Item) (x : Item) (n : ℕ) (v : Placed ExtendedDateTime) →
    v ≡ rest text base room (length (xs ++ (x ∷ []))) (gather [] 0 empty (xs ++ (x ∷ []))) (relatives (xs ++ (x ∷ []))) n →
    v ≡ rest text base room (suc (length xs)) (add_item [] (length xs) x (gather [] 0 empty xs)) (relatives xs ++ relative_of x) n
more text base room xs x n v e =
    let l : length (xs ++ (x ∷ [])) ≡ suc (length xs) = length-append xs (x ∷ []) ∙ add-one (length xs) in
    rw (l, rules_more [] xs x, relatives_more xs x) at e

-- the definition reads all items first
whole : (text : List ℕ) (base : ExtendedDateTime) (room : ℕ) (xs : List Item) (at : ℕ) →
    (items_of (items_from parse_item room xs text at) >>= (λ ys. build [] ys base)) ≡ rest text base room (length xs) (gather [] 0 empty xs) (relatives xs) at
unfolding rest one items_from items_of build
whole text base zero xs at = by (ltb (space text at) (length text)) (parse_item text at)
  where
    by : (t : Bool) (a : Answer Item) →
        (items_of (cond t (further (kept a) xs at (λ v n. ended xs 1 0)) (ended xs 0 0)) >>= (λ ys. build [] ys base)) ≡ cond t (one zero a at >>= (λ q. refusal 1 0)) (built (gather [] 0 empty xs) (relatives xs) base)
    by false a = refl
    by true (matched v n) = refl
    by true (dropped v n) = refl
    by true none = refl
    by true stop = refl
whole text base (suc room) xs at = by (λ v n. more text base room xs v n _ (whole text base room (xs ++ (v ∷ [])) n)) (ltb (space text at) (length text)) (parse_item text at)
  where
    by :
        ((v : Item) (n : ℕ) →
        (items_of (items_from parse_item room (xs ++ (v ∷ [])) text n) >>= (λ ys. build [] ys base)) ≡ rest text base room (suc (length xs)) (add_item [] (length xs) v (gather [] 0 empty xs)) (relatives xs ++ relative_of v) n) →
        (t : Bool) (a : Answer Item) →
        (items_of (cond t (further a xs at (λ v n. items_from parse_item room (xs ++ (v ∷ [])) text n)) (ended xs 0 0)) >>= (λ ys. build [] ys base))
        ≡ cond t (one (suc room) a at >>= (λ q. rest text base room (suc (length xs)) (add_item [] (length xs) q.0 (gather [] 0 empty xs)) (relatives xs ++ relative_of q.0) q.1)) (built (gather [] 0 empty xs) (relatives xs) base)
    by later false a = refl
    by later true (matched v n) = later v n
    by later true (dropped v n) = refl
    by later true none = refl
    by later true stop = refl

-- ---- the loop

pub left_start : (text : List ℕ) (base : ExtendedDateTime) (p : Placed DateTimeBuilder) (rs : List Relative) → p ≡ fine empty → rs ≡ [] → left text base 0 p rs 0 ≡ build_text text base
unfolding left build_text build_parsed parse_items relatives gather
left_start text base p rs e k = rw (e, k) (sym (whole text base 64 [] 0))

-- one less, and 0 for 0
less : ℕ → ℕ
less zero = zero
less (suc n) = n

less_is : (n : ℕ) → less n ≡ n - 1
unfolding less
less_is zero = omega arith
less_is (suc n) = omega arith

-- how the reading goes on after an item
abbrev after : List ℕ → ExtendedDateTime → ℕ → ℕ → Placed DateTimeBuilder → List Relative → Item × ℕ → Placed ExtendedDateTime
after text base room i p rs q = rest text base (less room) (suc i) (add_item [] i q.0 p) (rs ++ relative_of q.0) q.1

one_turn : (text : List ℕ) (base : ExtendedDateTime) (room i : ℕ) (p : Placed DateTimeBuilder) (rs : List Relative) (at : ℕ) →
    rest text base room i p rs at ≡ cond (ltb (space text at) (length text)) (one room (parse_item text at) at >>= after text base room i p rs) (built p rs base)
unfolding rest one less
one_turn text base zero i p rs at = by (ltb (space text at) (length text)) (parse_item text at)
  where
    by : (t : Bool) (a : Answer Item) → cond t (one zero a at >>= (λ q. refusal 1 0)) (built p rs base) ≡ cond t (one zero a at >>= after text base zero i p rs) (built p rs base)
    by false a = refl
    by true (matched v n) = refl
    by true (dropped v n) = refl
    by true none = refl
    by true stop = refl
one_turn text base (suc room) i p rs at = refl

module _ (s : List ℕ) (base : ExtendedDateTime) (count : ℕ) (p : Placed DateTimeBuilder) (rs : List Relative) (at : ℕ) (v : Placed ExtendedDateTime)
    (inv : left (lowered s) base count p rs at ≡ v) (start : ℕ) (here : start ≡ space (lowered s) at) where
  opened : cond (ltb start (length s)) (one (64 - count) (parse_item (lowered s) at) at >>= after (lowered s) base (64 - count) count p rs) (built p rs base) ≡ v
  unfolding left
  opened = rw (here, ← length_lowered s) (sym (one_turn (lowered s) base (64 - count) count p rs at) ∙ inv)

  pub left_end : length s ≤ start → (r : Placed ExtendedDateTime) → r ≡ built p rs base → r ≡ v
  left_end h r k = rw k (rw (le-ltb start (length s) h) at opened)

  module _ (h : start < length s) where
    read : (one (64 - count) (parse_item (lowered s) at) at >>= after (lowered s) base (64 - count) count p rs) ≡ v
    read = rw (lt-ltb start (length s) h) at opened

    pub left_refused : (n place : ℕ) → refusal n place ≡ one (64 - count) (parse_item (lowered s) at) at → refusal n place ≡ v
    left_refused n place e = rw (← e) at read

    pub left_next : (x : Item) (n : ℕ) → fine (x, n) ≡ one (64 - count) (parse_item (lowered s) at) at → (q : Placed DateTimeBuilder) → q ≡ add_item [] count x p → (ys : List Relative) → ys ≡ rs ++ relative_of x → left (lowered s) base (count + 1) q ys n ≡ v
    unfolding left
    left_next x n e q f ys g =
        let l : less (64 - count) ≡ 64 - suc count = less_is (64 - count) ∙ omega arith in
        rw (add-one count, f, g) (rw (← e, l) at read)

-- ---- after a broken rule, which stays

-- the relative items don't matter
broken_rest : (text : List ℕ) (base : ExtendedDateTime) (n place room i : ℕ) (rs ys : List Relative) (at : ℕ) → rest text base room i (refusal n place) rs at ≡ rest text base room i (refusal n place) ys at
unfolding rest one built add_item
broken_rest text base n place zero i rs ys at = refl
broken_rest text base n place (suc room) i rs ys at = by (λ x m. broken_rest text base n place room (suc i) (rs ++ relative_of x) (ys ++ relative_of x) m) (ltb (space text at) (length text)) (parse_item text at)
  where
    by :
        ((x : Item) (m : ℕ) → rest text base room (suc i) (refusal n place) (rs ++ relative_of x) m ≡ rest text base room (suc i) (refusal n place) (ys ++ relative_of x) m) →
        (t : Bool) (a : Answer Item) →
        cond t (one (suc room) a at >>= (λ q. rest text base room (suc i) (refusal n place) (rs ++ relative_of q.0) q.1)) (refusal n place)
        ≡ cond t (one (suc room) a at >>= (λ q. rest text base room (suc i) (refusal n place) (ys ++ relative_of q.0) q.1)) (refusal n place)
    by later false a = refl
    by later true (matched x m) = later x m
    by later true (dropped x m) = refl
    by later true none = refl
    by later true stop = refl

module _ (s : List ℕ) (base : ExtendedDateTime) (count n place : ℕ) (rs : List Relative) (at : ℕ) (v : Placed ExtendedDateTime)
    (inv : left (lowered s) base count (refusal n place) rs at ≡ v) (start : ℕ) (here : start ≡ space (lowered s) at) where
  pub broken_end : length s ≤ start → refusal n place ≡ v
  unfolding built
  broken_end h = left_end s base count (refusal n place) rs at v inv start here h (refusal n place) refl

  pub broken_next : start < length s → (x : Item) (m : ℕ) → fine (x, m) ≡ one (64 - count) (parse_item (lowered s) at) at → left (lowered s) base (count + 1) (refusal n place) rs m ≡ v
  unfolding left add_item
  broken_next h x m e =
      broken_rest (lowered s) base n place (64 - (count + 1)) (count + 1) rs (rs ++ relative_of x) m
      ∙ left_next s base count (refusal n place) rs at v inv start here h x m e (refusal n place) refl (rs ++ relative_of x) refl

-- ---- the item that is tried

module _ (text : List ℕ) (at count : ℕ) where
  pub one_unread : none ≡ parse_item text at → refusal 3 at ≡ one (64 - count) (parse_item text at) at
  unfolding one
  one_unread e = rw (← e) (for_any (64 - count))
    where
      for_any : (room : ℕ) → refusal 3 at ≡ one room none at
      for_any zero = refl
      for_any (suc room) = refl

  pub one_stopped : stop ≡ parse_item text at → refusal 4 at ≡ one (64 - count) (parse_item text at) at
  unfolding one
  one_stopped e = rw (← e) (for_any (64 - count))
    where
      for_any : (room : ℕ) → refusal 4 at ≡ one room stop at
      for_any zero = refl
      for_any (suc room) = refl

  module _ (x : Item) (n : ℕ) (lossy : Bool) (e : carry lossy (matched x n) ≡ parse_item text at) where
    pub one_full : count ≡ 64 → refusal 1 0 ≡ one (64 - count) (parse_item text at) at
    unfolding one
    one_full c = let z : 64 - count ≡ 0 = omega arith in rw (← e, z) (full lossy)
      where
        full : (d : Bool) → refusal 1 0 ≡ one 0 (carry d (matched x n)) at
        full true = refl
        full false = refl

    module _ (d : count ≡ 64 → ⊥) (l : count ≤ 64) where
      one_more : 64 - count ≡ suc (64 - suc count)
      one_more = omega arith

      pub one_dropped : lossy ≡ true → refusal 22 at ≡ one (64 - count) (parse_item text at) at
      unfolding one
      one_dropped t = rw (← e, one_more, t)

      pub one_read : lossy ≡ false → fine (x, n) ≡ one (64 - count) (parse_item text at) at
      unfolding one
      one_read t = rw (← e, one_more, t)

-- an item is read only while there is room
pub one_room : (count at : ℕ) (a : Answer Item) {q : Item × ℕ} → fine q ≡ one (64 - count) a at → count < 64
unfolding one
one_room count at a {q} e = by (64 - count) a refl e
  where
    apart : {X : Type 0} {n place : ℕ} → fine q ≡ refusal n place → X
    apart e = let z : ◌≡◌ {A = ℕ} 0 1 = cc in absurd (clash z)
      where
        clash : ◌≡◌ {A = ℕ} 0 1 → ⊥
        clash z = omega arith

    by : (room : ℕ) (a : Answer Item) → 64 - count ≡ room → fine q ≡ one room a at → count < 64
    by zero (matched x n) h e = apart e
    by zero (dropped x n) h e = apart e
    by zero none h e = apart e
    by zero stop h e = apart e
    by (suc room) a h e = omega arith
