-- The laws of `comment`, for a reader that calls itself on the inner comment: inside a comment, an inner one is read as a comment of its own,
-- in the text without its last byte, and the reading goes on after it (`inside_open`). What is hard is that the last byte is not needed
-- (`closing_deeper`). Assumes nothing.
use borrow.Author.Tests.{leb-true, leb-false, eqb-true, eqb-false, ne_eqb}
use native.Mathlib.Omega.{arith}
use Prim.Native.Nat.{ℕ, zero, suc, ◌+◌, ◌<◌, ◌≤◌}
use mathlib.Core.Path.{◌≡◌, refl, sym, ap, ◌∙◌}
use mathlib.Core.List.{List, [], ◌∷◌, ◌++◌, append_assoc, map}
use mathlib.Core.Bool.{Bool, true, false, cond, ◌&&◌}
use lib.ListN.{length, get_or, drop, length-drop, length-append, get_or-append}
use lib.Seq.{drop-drop, drop-append-le}
use Rattle.std.proofs.lemmas.List.{map-append}
use lib.Dec.{eqb, leb}
use Rattle.primitive.specs.Answer.{Answer, matched, none, and_then}
use Rattle.primitive.specs.Text.{lower, lowered, starts, tag}
use Rattle.primitive.specs.Primitive.{closing, inside, comment, Nested, empty, other, inner}
use Rattle.primitive.proofs.Lowered.{rest_cons, rest_none, length_lowered}
use Rattle.primitive.proofs.Tags.{lowers_alone}
use Rattle.primitive.proofs.Chain.{then_matched, then_none}

-- e + d + 1, by steps that compute
deeper : ℕ → ℕ → ℕ
deeper zero d = suc d
deeper (suc e) d = suc (deeper e d)

module _ (text : List ℕ) where
  tail_of : (k b : ℕ) (bs : List ℕ) → drop k text ≡ b ∷ bs → drop (k + 1) text ≡ bs
  tail_of k b bs e = rw (← drop-drop 1 k text, e)

  -- what is read behind the parenthesis that closes the inner comment
  onward : ℕ → Unit {0} → ℕ → Answer (Unit {0})
  onward d v n = closing d (drop n text) n

  -- with a comment open in another, one byte closes nothing
  one_left : (d c k : ℕ) → closing (suc d) (c ∷ []) k ≡ none
  unfolding closing
  one_left d c k = go (eqb c 41) (eqb c 40)
    where
      go : (t u : Bool) → cond t (closing d [] (k + 1)) (cond u (closing (suc (suc d)) [] (k + 1)) (closing (suc d) [] (k + 1))) ≡ none
      go true u = refl
      go false true = refl
      go false false = refl

  -- inside e + d + 1 comments: first out of e + 1, for which all bytes but the last are enough, then out of d + 1
  closing_deeper : (c d e : ℕ) (bs : List ℕ) (k : ℕ) → drop k text ≡ bs ++ (c ∷ [])
      → closing (deeper e d) (bs ++ (c ∷ [])) k ≡ and_then (closing e bs k) (onward d)
  unfolding closing deeper onward
  closing_deeper c d zero [] k h = one_left d c k
  closing_deeper c d (suc e) [] k h = one_left (deeper e d) c k
  closing_deeper c d zero (b ∷ bs) k h =
      go (eqb b 41) (eqb b 40) (tail_of k b (bs ++ (c ∷ [])) h) (closing_deeper c d 1 bs (k + 1)) (closing_deeper c d 0 bs (k + 1))
    where
      go : (t u : Bool) → drop (k + 1) text ≡ bs ++ (c ∷ [])
          → (drop (k + 1) text ≡ bs ++ (c ∷ []) → closing (suc (suc d)) (bs ++ (c ∷ [])) (k + 1) ≡ and_then (closing 1 bs (k + 1)) (onward d))
          → (drop (k + 1) text ≡ bs ++ (c ∷ []) → closing (suc d) (bs ++ (c ∷ [])) (k + 1) ≡ and_then (closing 0 bs (k + 1)) (onward d))
          → cond t (closing d (bs ++ (c ∷ [])) (k + 1)) (cond u (closing (suc (suc d)) (bs ++ (c ∷ [])) (k + 1)) (closing (suc d) (bs ++ (c ∷ [])) (k + 1)))
          ≡ and_then (cond t (matched tt (k + 1)) (cond u (closing 1 bs (k + 1)) (closing 0 bs (k + 1)))) (onward d)
      go true u z f g = rw z
      go false true z f g = f z
      go false false z f g = g z
  closing_deeper c d (suc e) (b ∷ bs) k h =
      go (eqb b 41) (eqb b 40) (tail_of k b (bs ++ (c ∷ [])) h) (closing_deeper c d (suc (suc e)) bs (k + 1)) (closing_deeper c d (suc e) bs (k + 1)) (closing_deeper c d e bs (k + 1))
    where
      go : (t u : Bool) → drop (k + 1) text ≡ bs ++ (c ∷ [])
          → (drop (k + 1) text ≡ bs ++ (c ∷ []) → closing (suc (suc (deeper e d))) (bs ++ (c ∷ [])) (k + 1) ≡ and_then (closing (suc (suc e)) bs (k + 1)) (onward d))
          → (drop (k + 1) text ≡ bs ++ (c ∷ []) → closing (suc (deeper e d)) (bs ++ (c ∷ [])) (k + 1) ≡ and_then (closing (suc e) bs (k + 1)) (onward d))
          → (drop (k + 1) text ≡ bs ++ (c ∷ []) → closing (deeper e d) (bs ++ (c ∷ [])) (k + 1) ≡ and_then (closing e bs (k + 1)) (onward d))
          → cond t (closing (deeper e d) (bs ++ (c ∷ [])) (k + 1)) (cond u (closing (suc (suc (deeper e d))) (bs ++ (c ∷ [])) (k + 1)) (closing (suc (deeper e d)) (bs ++ (c ∷ [])) (k + 1)))
          ≡ and_then (cond t (closing e bs (k + 1)) (cond u (closing (suc (suc e)) bs (k + 1)) (closing (suc e) bs (k + 1)))) (onward d)
      go true u z f g i = i z
      go false true z f g i = f z
      go false false z f g i = g z

-- a comment ends behind the place where its end is looked for, and within the text
Closed : ℕ → List ℕ → ℕ → ℕ → Type 0
Closed e bs k n = closing e bs k ≡ matched tt n → (k < n) × (n ≤ k + length bs)

closing_within : (e : ℕ) (bs : List ℕ) (k n : ℕ) → Closed e bs k n
unfolding closing Closed
closing_within e [] k n h = let z : ◌≡◌ {A = ℕ} 0 1 = cc in (omega arith, omega arith)
closing_within zero (b ∷ bs) k n h = go (eqb b 41) (eqb b 40) (closing_within 1 bs (k + 1) n) (closing_within 0 bs (k + 1) n) h
  where
    go : (t u : Bool) → Closed 1 bs (k + 1) n → Closed 0 bs (k + 1) n
        → cond t (matched tt (k + 1)) (cond u (closing 1 bs (k + 1)) (closing 0 bs (k + 1))) ≡ matched tt n → (k < n) × (n ≤ k + suc (length bs))
    go true u f g h = let z : k + 1 ≡ n = cc in (omega arith, omega arith)
    go false true f g h = let z = f h in (omega arith, omega arith)
    go false false f g h = let z = g h in (omega arith, omega arith)
closing_within (suc e) (b ∷ bs) k n h = go (eqb b 41) (eqb b 40) (closing_within (suc (suc e)) bs (k + 1) n) (closing_within (suc e) bs (k + 1) n) (closing_within e bs (k + 1) n) h
  where
    go : (t u : Bool) → Closed (suc (suc e)) bs (k + 1) n → Closed (suc e) bs (k + 1) n → Closed e bs (k + 1) n
        → cond t (closing e bs (k + 1)) (cond u (closing (suc (suc e)) bs (k + 1)) (closing (suc e) bs (k + 1))) ≡ matched tt n → (k < n) × (n ≤ k + suc (length bs))
    go true u f g i h = let z = i h in (omega arith, omega arith)
    go false true f g i h = let z = f h in (omega arith, omega arith)
    go false false f g i h = let z = g h in (omega arith, omega arith)

pub inside_within : (text : List ℕ) (at n : ℕ) → inside text at ≡ matched tt n → (at < n) × (at ≤ length text → n ≤ length text)
unfolding inside Closed
inside_within text at n h =
    let z = closing_within 0 (drop at text) at n h in
    let l = length-drop at text in
    (z.0, λ k. omega arith)

-- ---- the loop of `comment`

-- what stands at a place inside a comment; no byte but a parenthesis is lowered to one
module _ (s : List ℕ) (i : ℕ) where
  inside_end : length s ≤ i → inside (lowered s) i ≡ none
  unfolding inside closing
  inside_end h = rw (rest_none s i h)

  module _ (h : i < length s) where
    inside_close : get_or s i 0 ≡ 41 → inside (lowered s) i ≡ matched tt (i + 1)
    unfolding inside closing lower
    inside_close e = rw (rest_cons s i h 41 (rw e))

    inside_other : (get_or s i 0 ≡ 41 → ⊥) → (get_or s i 0 ≡ 40 → ⊥) → inside (lowered s) i ≡ inside (lowered s) (i + 1)
    unfolding inside closing
    inside_other f g =
        rw (
          rest_cons s i h (lower (get_or s i 0)) refl,
          ← lowers_alone (get_or s i 0) 41 false (omega arith) (sym (ne_eqb (get_or s i 0) 41 f)),
          ← lowers_alone (get_or s i 0) 40 false (omega arith) (sym (ne_eqb (get_or s i 0) 40 g)),
        )

    -- An inner comment is read in w, the text without its last byte c: the outer one has still to close.
    module _ (w : List ℕ) (c : ℕ) (e : s ≡ w ++ (c ∷ [])) (f : get_or s i 0 ≡ 40) where
      one_longer : length s ≡ length w + 1
      one_longer = rw e (length-append w (c ∷ []))

      rest_split : (j : ℕ) → j ≤ length w → drop j (lowered s) ≡ drop j (lowered w) ++ (lower c ∷ [])
      unfolding lowered
      rest_split j k =
          let l = length_lowered w in
          rw (e, map-append lower w (c ∷ [])) (drop-append-le j (map lower w) (lower c ∷ []) (omega arith))

      outer_first : drop i (lowered s) ≡ 40 ∷ drop (i + 1) (lowered s)
      unfolding lower
      outer_first = rest_cons s i h 40 (rw f)

      inner_first : i < length w → drop i (lowered w) ≡ 40 ∷ drop (i + 1) (lowered w)
      unfolding lower
      inner_first k = rest_cons w i k 40 (rw (sym (get_or-append w (c ∷ []) 0 i k) ∙ rw e at f))

      inside_open : inside (lowered s) i ≡ and_then (comment (lowered w) i) (λ v n. inside (lowered s) n)
      unfolding inside closing comment deeper onward tag starts
      inside_open = go (leb (length w) i) refl
        where
          go : (t : Bool) → leb (length w) i ≡ t → inside (lowered s) i ≡ and_then (comment (lowered w) i) (λ v n. inside (lowered s) n)
          go true k =
              let y = leb-true (length w) i k in
              let z = one_longer in
              rw (outer_first, rest_none s (i + 1) (omega arith), rest_none w i y)
          go false k =
              let y = leb-false (length w) i k in
              rw (outer_first, inner_first (omega arith), rest_split (i + 1) (omega arith))
              (closing_deeper (lowered s) (lower c) 0 0 (drop (i + 1) (lowered w)) (i + 1) (rest_split (i + 1) (omega arith)))

-- a loop that looks for the end of the comment whose inside begins at `start`
module _ (s : List ℕ) (i start : ℕ) (inv : inside (lowered s) i ≡ inside (lowered s) start) where
  pub inside_done : length s ≤ i → none ≡ inside (lowered s) start
  inside_done h = sym (inside_end s i h) ∙ inv

  module _ (h : i < length s) where
    pub inside_found : get_or s i 0 ≡ 41 → matched tt (i + 1) ≡ inside (lowered s) start
    inside_found e = sym (inside_close s i h e) ∙ inv

    pub inside_next : (get_or s i 0 ≡ 41 → ⊥) → (get_or s i 0 ≡ 40 → ⊥) → inside (lowered s) (i + 1) ≡ inside (lowered s) start
    inside_next f g = sym (inside_other s i h f g) ∙ inv

    module _ (w : List ℕ) (c : ℕ) (e : s ≡ w ++ (c ∷ [])) (f : get_or s i 0 ≡ 40) where
      pub inside_inner : (n : ℕ) → matched tt n ≡ comment (lowered w) i → inside (lowered s) n ≡ inside (lowered s) start
      inside_inner n k = then_matched (λ v n. inside (lowered s) n) (comment (lowered w) i) tt n (inside (lowered s) n) (sym k) refl ∙ (sym (inside_open s i h w c e f) ∙ inv)

      pub inside_unclosed : none ≡ comment (lowered w) i → none ≡ inside (lowered s) start
      inside_unclosed k = then_none (λ v n. inside (lowered s) n) (comment (lowered w) i) (sym k) ∙ (sym (inside_open s i h w c e f) ∙ inv)

-- ---- a text that is properly nested, between parentheses

nested_closing : {w : List ℕ} → Nested w → (d : ℕ) (bs : List ℕ) (k : ℕ) → closing d (w ++ bs) k ≡ closing d bs (k + length w)
unfolding closing
nested_closing empty d bs k = ap (closing d bs) (omega arith)
nested_closing (other {b = b} {bs = w} f g h) d bs k = go d (nested_closing h d bs (k + 1))
  where
    place : k + 1 + length w ≡ k + suc (length w)
    place = omega arith

    go : (d : ℕ) → closing d (w ++ bs) (k + 1) ≡ closing d bs (k + 1 + length w) → closing d (b ∷ (w ++ bs)) k ≡ closing d bs (k + suc (length w))
    go zero e = rw (ne_eqb b 41 g, ne_eqb b 40 f, ← place) e
    go (suc d) e = rw (ne_eqb b 41 g, ne_eqb b 40 f, ← place) e
nested_closing (inner {w = w} {bs = v} h g) d bs k =
    go d (append_assoc w (41 ∷ v) bs) (nested_closing h (suc d) (41 ∷ (v ++ bs)) (k + 1)) (nested_closing g d bs (k + 1 + length w + 1))
  where
    place : k + 1 + length w + 1 + length v ≡ k + suc (length (w ++ (41 ∷ v)))
    place = let l = length-append w (41 ∷ v) in omega arith

    go : (d : ℕ) → (w ++ (41 ∷ v)) ++ bs ≡ w ++ (41 ∷ (v ++ bs))
        → closing (suc d) (w ++ (41 ∷ (v ++ bs))) (k + 1) ≡ closing (suc d) (41 ∷ (v ++ bs)) (k + 1 + length w)
        → closing d (v ++ bs) (k + 1 + length w + 1) ≡ closing d bs (k + 1 + length w + 1 + length v)
        → closing d (40 ∷ ((w ++ (41 ∷ v)) ++ bs)) k ≡ closing d bs (k + suc (length (w ++ (41 ∷ v))))
    go zero e f i = rw (e, ← place) (f ∙ i)
    go (suc d) e f i = rw (e, ← place) (f ∙ i)

pub nested_comment : (w : List ℕ) → Nested w → (text rest : List ℕ) (at : ℕ) → drop at text ≡ 40 ∷ (w ++ (41 ∷ rest)) → comment text at ≡ matched tt (at + 1 + length w + 1)
unfolding comment inside closing tag starts
nested_comment w h text rest at e = rw (e, tail_of text at 40 (w ++ (41 ∷ rest)) e, nested_closing h 0 (41 ∷ rest) (at + 1))

-- ---- the other way: what is read as a comment is such a text

-- bytes that close d comments and the one around them: nested text before each `)`, and the rest
data Closes : ℕ → List ℕ → List ℕ → Type 0 where
  last : {bs rest : List ℕ} (w : List ℕ) → Nested w → bs ≡ w ++ (41 ∷ rest) → Closes zero bs rest
  further : {d : ℕ} {bs rest : List ℕ} (w more : List ℕ) → Nested w → bs ≡ w ++ (41 ∷ more) → Closes d more rest → Closes (suc d) bs rest

closes_other : (d b : ℕ) (bs rest : List ℕ) → (b ≡ 40 → ⊥) → (b ≡ 41 → ⊥) → Closes d bs rest → Closes d (b ∷ bs) rest
closes_other d b bs rest f g (last w h e) = last (b ∷ w) (other f g h) (ap (λ (l : List ℕ). b ∷ l) e)
closes_other d b bs rest f g (further w more h e c) = further (b ∷ w) more (other f g h) (ap (λ (l : List ℕ). b ∷ l) e) c

closes_inner : (d : ℕ) (bs rest : List ℕ) → Closes (suc d) bs rest → Closes d (40 ∷ bs) rest
closes_inner d bs rest (further w more h e c) = by c
  where
    joined : (v l : List ℕ) → more ≡ v ++ (41 ∷ l) → 40 ∷ bs ≡ (40 ∷ (w ++ (41 ∷ v))) ++ (41 ∷ l)
    joined v l k = ap (λ (x : List ℕ). 40 ∷ x) (e ∙ ap (λ (x : List ℕ). w ++ (41 ∷ x)) k ∙ sym (append_assoc w (41 ∷ v) (41 ∷ l)))

    by : {d : ℕ} → Closes d more rest → Closes d (40 ∷ bs) rest
    by (last v i k) = last (40 ∷ (w ++ (41 ∷ v))) (inner h i) (joined v rest k)
    by (further v l i k z) = further (40 ∷ (w ++ (41 ∷ v))) l (inner h i) (joined v l k) z

-- where d comments and the one around them end, that text was closed
record Ended (d : ℕ) (bs : List ℕ) (k n : ℕ) : Type 0 where
  rest : List ℕ
  closes : Closes d bs rest
  place : n + length rest ≡ k + length bs

ended : (d : ℕ) (bs : List ℕ) (k n : ℕ) → closing d bs k ≡ matched tt n → Ended d bs k n
unfolding closing
ended d [] k n h = cc
ended zero (b ∷ bs) k n h = go (eqb b 41) (eqb b 40) refl refl (ended 1 bs (k + 1) n) (ended 0 bs (k + 1) n) h
  where
    go : (t u : Bool) → eqb b 41 ≡ t → eqb b 40 ≡ u → (closing 1 bs (k + 1) ≡ matched tt n → Ended 1 bs (k + 1) n) → (closing 0 bs (k + 1) ≡ matched tt n → Ended 0 bs (k + 1) n)
        → cond t (matched tt (k + 1)) (cond u (closing 1 bs (k + 1)) (closing 0 bs (k + 1))) ≡ matched tt n → Ended 0 (b ∷ bs) k n
    go true u e y f g h =
        let z : k + 1 ≡ n = cc in
        record { rest = bs; closes = last [] empty (ap (λ (c : ℕ). c ∷ bs) (eqb-true b 41 e)); place = omega arith }
    go false true e y f g h =
        let z = f h in
        record { rest = z.rest; closes = rw (eqb-true b 40 y) (closes_inner 0 bs z.rest z.closes); place = omega (arith, z.place) }
    go false false e y f g h =
        let z = g h in
        record { rest = z.rest; closes = closes_other 0 b bs z.rest (eqb-false b 40 y) (eqb-false b 41 e) z.closes; place = omega (arith, z.place) }
ended (suc d) (b ∷ bs) k n h = go (eqb b 41) (eqb b 40) refl refl (ended (suc (suc d)) bs (k + 1) n) (ended (suc d) bs (k + 1) n) (ended d bs (k + 1) n) h
  where
    go : (t u : Bool) → eqb b 41 ≡ t → eqb b 40 ≡ u → (closing (suc (suc d)) bs (k + 1) ≡ matched tt n → Ended (suc (suc d)) bs (k + 1) n)
        → (closing (suc d) bs (k + 1) ≡ matched tt n → Ended (suc d) bs (k + 1) n) → (closing d bs (k + 1) ≡ matched tt n → Ended d bs (k + 1) n)
        → cond t (closing d bs (k + 1)) (cond u (closing (suc (suc d)) bs (k + 1)) (closing (suc d) bs (k + 1))) ≡ matched tt n → Ended (suc d) (b ∷ bs) k n
    go true u e y f g i h =
        let z = i h in
        record { rest = z.rest; closes = further [] bs empty (ap (λ (c : ℕ). c ∷ bs) (eqb-true b 41 e)) z.closes; place = omega (arith, z.place) }
    go false true e y f g i h =
        let z = f h in
        record { rest = z.rest; closes = rw (eqb-true b 40 y) (closes_inner (suc d) bs z.rest z.closes); place = omega (arith, z.place) }
    go false false e y f g i h =
        let z = g h in
        record { rest = z.rest; closes = closes_other (suc d) b bs z.rest (eqb-false b 40 y) (eqb-false b 41 e) z.closes; place = omega (arith, z.place) }

-- a comment at a place, and where it ends: nested text between parentheses
pub record Comment (text : List ℕ) (at n : ℕ) : Type 0 where
  pub within : List ℕ
  pub rest : List ℕ
  pub nested : Nested within
  pub stands : drop at text ≡ 40 ∷ (within ++ (41 ∷ rest))
  pub ends : n ≡ at + 1 + length within + 1

pub comment_nested : (text : List ℕ) (at n : ℕ) → comment text at ≡ matched tt n → Comment text at n
unfolding comment inside tag starts
comment_nested text at n e = by (drop at text) refl e
  where
    closed : (rest bs : List ℕ) → drop at text ≡ 40 ∷ bs → n + length rest ≡ at + 1 + length bs → Closes 0 bs rest → Comment text at n
    closed rest bs k m (last w h j) =
        let l = ap length j ∙ length-append w (41 ∷ rest) in
        record { within = w; rest = rest; nested = h; stands = k ∙ ap (λ (x : List ℕ). 40 ∷ x) j; ends = omega arith }

    go : (b : ℕ) (bs : List ℕ) (t : Bool) → eqb b 40 ≡ t → drop at text ≡ b ∷ bs → and_then {A = Unit {0}} {B = Unit {0}} (cond (t && true) (matched tt (at + 1)) none) (λ v m. closing 0 (drop m text) m) ≡ matched tt n → Comment text at n
    go b bs true f k h =
        let z = ended 0 bs (at + 1) n (ap (λ (l : List ℕ). closing 0 l (at + 1)) (sym (tail_of text at b bs k)) ∙ h) in
        closed z.rest bs (rw (eqb-true b 40 f) at k) z.place z.closes
    go b bs false f k h = cc

    by : (l : List ℕ) → drop at text ≡ l → and_then {A = Unit {0}} {B = Unit {0}} (cond (starts (40 ∷ []) l) (matched tt (at + 1)) none) (λ v m. closing 0 (drop m text) m) ≡ matched tt n → Comment text at n
    by [] k h = cc
    by (b ∷ bs) k h = go b bs (eqb b 40) refl k h
