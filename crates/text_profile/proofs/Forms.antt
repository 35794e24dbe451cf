-- A text and a pattern, byte by byte, and the numbers of digits. Assumes nothing.
use borrow.Author.Rules.{rules}
use native.Mathlib.Omega.{arith}
use Prim.Native.Nat.{ℕ, zero, suc, ◌+◌, ◌-◌, ◌*◌, ◌^◌, ◌<◌, ◌≤◌}
use mathlib.Core.Path.{◌≡◌, refl, sym, ap, ◌∙◌}
use mathlib.Core.Bool.{Bool, true, false, cond, ◌&&◌}
use mathlib.Core.List.{List, [], ◌∷◌, ◌++◌}
use lib.Dec.{eqb}
use lib.ListN.{length, get_or, drop}
use Rattle.std.proofs.Math.Seq.{slice, slice_empty, take-suc}
use Rattle.std.proofs.lemmas.List.{length-drop, drop-take, get_or-drop}
use Rattle.primitive.specs.Primitive.{decimal}
use Rattle.primitive.proofs.Values.{decimal_more}
use borrow.Author.Tests.{eqb-true, eq-eqb}
use Rattle.calendar.proofs.Counting.{every, each}
use Rattle.calendar.specs.declared.Civil.{Civil}
use Rattle.text_profile.specs.declared.Form.{Form}
use Rattle.std.proofs.lemmas.List.{drop_more, drop_all}
use Rattle.primitive.specs.Text.{bytes, digit}
use Rattle.primitive.proofs.Rows.{halves, digit_bounds}
use Rattle.std.specs.Prelude.{Option, Some, None}
use Rattle.weeks.specs.declared.WeekDate.{WeekDate}
use Rattle.text_profile.specs.declared.Form.TheVariants as variant
use Rattle.text_profile.specs.Forms.{fits, formed, plain_pattern, week_pattern, Digit, number, plain_parts, week_parts, form}
use native.Mathlib.Nat.{pow-suc}

-- ---- byte by byte

-- what is left of a pattern and a text from place i on says what the whole does
pub record Left (w t : List ℕ) (i : ℕ) : Type 0 where
  pub same_length : length t ≡ length w
  pub rest : formed (drop i w) (drop i t) ≡ formed w t

-- a text that has a pattern is as long
pub formed_length : (w t : List ℕ) → formed w t ≡ true → length t ≡ length w
unfolding formed
formed_length [] [] h = refl
formed_length [] (b ∷ bs) h = cc
formed_length (v ∷ vs) [] h = cc
formed_length (v ∷ vs) (b ∷ bs) h = ap suc (formed_length vs bs (halves (fits v b) (formed vs bs) h).1)

pub other_length : (w t : List ℕ) → (length t ≡ length w → ⊥) → false ≡ formed w t
other_length w t h = by (formed w t) refl
  where
    by : (b : Bool) → formed w t ≡ b → false ≡ b
    by false e = refl
    by true e = absurd (h (formed_length w t e))

module _ (w t : List ℕ) where
  pub none_read : length t ≡ length w → Left w t 0
  none_read e = record { same_length = e; rest = refl }

  module _ (i : ℕ) (inv : Left w t i) (h : i < length w) where
    one_more : fits (get_or w i 0) (get_or t i 0) && formed (drop (i + 1) w) (drop (i + 1) t) ≡ formed w t
    unfolding formed
    one_more = rw (drop_more w i 0 h, drop_more t i 0 (omega (arith, inv.same_length))) at inv.rest

    pub misfit : false ≡ fits (get_or w i 0) (get_or t i 0) → false ≡ formed w t
    misfit e = rw (← e) at one_more

    pub fitting : true ≡ fits (get_or w i 0) (get_or t i 0) → Left w t (i + 1)
    fitting e = record { same_length = inv.same_length; rest = rw (← e) at one_more }

  pub all_read : (i : ℕ) → Left w t i → length w ≤ i → true ≡ formed w t
  unfolding formed
  all_read i inv h = rw (drop_all i w h, drop_all i t (omega (arith, inv.same_length))) at inv.rest

-- each byte of a text is what its pattern has there
pub fits_there : (w t : List ℕ) → formed w t ≡ true → (i : ℕ) → i < length w → (i < length t) × (fits (get_or w i 0) (get_or t i 0) ≡ true)
unfolding formed
fits_there [] t h i l = absurd (none l)
  where
    none : i < 0 → ⊥
    none l = omega arith
fits_there (v ∷ vs) [] h i l = cc
fits_there (v ∷ vs) (b ∷ bs) h zero l = (omega arith, (halves (fits v b) (formed vs bs) h).0)
fits_there (v ∷ vs) (b ∷ bs) h (suc i) l = let r = fits_there vs bs (halves (fits v b) (formed vs bs) h).1 i (omega arith) in (omega (arith, r.0), r.1)

-- a digit where it has a `0`
pub digit_there : (w t : List ℕ) → formed w t ≡ true → (i : ℕ) → i < length w → get_or w i 0 ≡ 48 → Digit t i
unfolding fits
digit_there w t h i l e = let r = fits_there w t h i l in (r.0, rw (eq-eqb (get_or w i 0) 48 e) at r.1)

-- that byte where it has another
pub byte_there : (w t : List ℕ) → formed w t ≡ true → (i : ℕ) → i < length w → eqb (get_or w i 0) 48 ≡ false → get_or t i 0 ≡ get_or w i 0
unfolding fits
byte_there w t h i l e = eqb-true (get_or t i 0) (get_or w i 0) (rw e at (fits_there w t h i l).1)

-- ---- numbers of digits

pub digit_value : (b : ℕ) → digit b ≡ true → (48 ≤ b) × (b - 48 < 10)
digit_value b h = let t = digit_bounds b h in (t.0, omega (arith, t.1))

slice_next : (t : List ℕ) (at n : ℕ) → at + n < length t → slice at (at + suc n) t ≡ slice at (at + n) t ++ (get_or t (at + n) 0 ∷ [])
slice_next t at n h =
    drop-take at (suc n) t ∙ take-suc (drop at t) n 0 (omega (arith, length-drop at t)) ∙ rw (get_or-drop at t n 0) (ap (λ (l : List ℕ). l ++ (get_or t (at + n) 0 ∷ [])) (sym (drop-take at n t)))

module _ (text : List ℕ) (at : ℕ) where
  -- one digit more
  pub number_next : (n : ℕ) → at + n < length text → number text at (suc n) ≡ number text at n * 10 + (get_or text (at + n) 0 - 48)
  unfolding number
  number_next n h = ap decimal (slice_next text at n h) ∙ decimal_more (get_or text (at + n) 0) (slice at (at + n) text)

  number_none : number text at 0 ≡ 0
  unfolding number decimal
  number_none = let e : at + 0 ≡ at = omega arith in rw e (ap decimal (slice_empty at text))

  pub number_one : at < length text → number text at 1 ≡ get_or text at 0 - 48
  number_one h =
      let e : at + 0 ≡ at = omega arith in
      rw e at (number_next 0 (omega arith)) ∙ rw number_none (omega arith)

  pub number_small : (n : ℕ) → at + n ≤ length text → ((i : ℕ) → i < n → digit (get_or text (at + i) 0) ≡ true) → number text at n < 10 ^ n
  number_small zero l h = omega (arith, number_none)
  number_small (suc n) l h =
      let d = (digit_value (get_or text (at + n) 0) (h n (omega arith))).1 in
      let b = number_small n (omega arith) (λ i k. h i (omega arith)) in
      let p = pow-suc 10 n in
      omega (arith, number_next n (omega arith))

pub number_two : (text : List ℕ) (at : ℕ) → at + 1 < length text → number text at 2 ≡ number text at 1 * 10 + number text (at + 1) 1
number_two text at h = omega (arith, number_next text at 1 h, number_one text (at + 1) h)

pub number_four : (text : List ℕ) (at : ℕ) → at + 3 < length text → number text at 4 ≡ number text at 2 * 100 + number text (at + 2) 2
number_four text at h =
    let e : at + 2 + 1 ≡ at + 3 = omega arith in
    let f : number text (at + 2 + 1) 1 ≡ get_or text (at + 3) 0 - 48 = ap (λ (k : ℕ). number text k 1) e ∙ number_one text (at + 3) h in
    let a = number_next text at 2 (omega arith) in
    let b = number_next text at 3 h in
    let c = number_two text (at + 2) (omega arith) in
    let d = number_one text (at + 2) (omega arith) in
    omega arith

-- ---- the form of a text

-- a row of digits, where a pattern has a row of `0`
pub row_digits : (w t : List ℕ) → formed w t ≡ true → (at n : ℕ) → at + n ≤ length w → every n (λ k. eqb (get_or w (at + k) 0) 48) ≡ true →
    (i : ℕ) → i < n → digit (get_or t (at + i) 0) ≡ true
row_digits w t h at n l e i k =
    (digit_there w t h (at + i) (omega arith) (eqb-true (get_or w (at + i) 0) 48 (each n (λ j. eqb (get_or w (at + j) 0) 48) e i k))).1

-- which form a text has
pub data FormOf (text : List ℕ) : Option Form → Type 0 where
  a_plain : formed plain_pattern text ≡ true → FormOf text (Some (variant.Plain (plain_parts text)))
  a_week : formed week_pattern text ≡ true → FormOf text (Some (variant.Week (week_parts text)))
  neither : FormOf text None

pub form_of : (text : List ℕ) → FormOf text (form text)
unfolding form
form_of text = by (formed plain_pattern text) refl (formed week_pattern text) refl
  where
    by : (p : Bool) → formed plain_pattern text ≡ p → (q : Bool) → formed week_pattern text ≡ q →
        FormOf text (cond p (Some (variant.Plain (plain_parts text))) (cond q (Some (variant.Week (week_parts text))) None))
    by true e q f = a_plain e
    by false e true f = a_week f
    by false e false f = neither

-- the year has four digits
four_digits : (w text : List ℕ) → formed w text ≡ true → 4 ≤ length w → every 4 (λ k. eqb (get_or w (0 + k) 0) 48) ≡ true → number text 0 4 < 10000
four_digits w text h l e = number_small text 0 4 (omega (arith, formed_length w text h)) (row_digits w text h 0 4 l e)

pub plain_year : (text : List ℕ) (d : Civil ℕ) → form text ≡ Some (variant.Plain d) → d.year < 10000
unfolding bytes
plain_year text d e = by (form text) (form_of text) e
  where
    by : (f : Option Form) → FormOf text f → f ≡ Some (variant.Plain d) → d.year < 10000
    by f (a_plain h) e = let y : number text 0 4 ≡ d.year = cc in rw y at (four_digits plain_pattern text h (omega arith) refl)
    by f (a_week h) e = cc
    by f neither e = cc

pub week_year : (text : List ℕ) (d : WeekDate) → form text ≡ Some (variant.Week d) → d.year < 10000
unfolding bytes
week_year text d e = by (form text) (form_of text) e
  where
    by : (f : Option Form) → FormOf text f → f ≡ Some (variant.Week d) → d.year < 10000
    by f (a_plain h) e = cc
    by f (a_week h) e = let y : number text 0 4 ≡ d.year = cc in rw y at (four_digits week_pattern text h (omega arith) refl)
    by f neither e = cc

pub ruleset forms = (other_length, none_read, misfit, fitting, all_read, rules)
