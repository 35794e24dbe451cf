-- The two texts of a date: each has its form and its numbers, and is the only text of that form that has them. Assumes nothing.
use native.Mathlib.Omega.{arith}
use Prim.Native.Nat.{ℕ, ◌+◌, ◌<◌, ◌≤◌}
use mathlib.Core.Path.{◌≡◌, refl, sym, ap, ◌∙◌}
use mathlib.Core.Bool.{true, false}
use mathlib.Core.List.{List}
use lib.Dec.{eqb}
use lib.ListN.{length, get_or}
use lib.Seq.{take_all}
use Rattle.std.specs.Prelude.{Option, Some}
use Rattle.calendar.specs.declared.Civil.{Civil}
use Rattle.calendar.proofs.Counting.{every}
use Rattle.primitive.specs.Text.{bytes, digit}
use Rattle.weeks.specs.declared.WeekDate.{WeekDate}
use Rattle.writer.specs.Writer.{fixed}
use Rattle.text_profile.specs.Forms.{fits, formed, plain_pattern, week_pattern, number, plain_parts, week_parts, form}
use Rattle.text_profile.specs.declared.Form.{Form}
use Rattle.text_profile.specs.declared.Form.TheVariants as variant
use Rattle.text_profile.proofs.Forms.{formed_length, byte_there, row_digits, FormOf, a_plain, a_week, neither, form_of}
use Rattle.theorems_profile.specs.Texts.{plain_text, week_text}
use Rattle.theorems_profile.proofs.Digits.{places, whole, written_again}
use Rattle.writer.proofs.Digits.{digit_is}
use Rattle.primitive.specs.Primitive.{decimal}

-- ---- a text of ten bytes

ten : (t : List ℕ) → length t ≡ 10 → t ≡ places t 0 10
ten t l = sym (take_all 10 t (omega arith)) ∙ whole t 10 (omega arith)

-- where a pattern has a row of `0`, the number that is read is written with the same digits
row_again : (w t : List ℕ) → formed w t ≡ true → (at n : ℕ) → at + n ≤ length w → every n (λ k. eqb (get_or w (at + k) 0) 48) ≡ true → fixed n (number t at n) ≡ places t at n
row_again w t h at n l e = written_again t at n (rw (formed_length w t h) l) (row_digits w t h at n l e)

-- ---- plain dates

module _ (d : Civil ℕ) where
  pub plain_formed : formed plain_pattern (plain_text d) ≡ true
  unfolding formed fits bytes plain_text fixed
  plain_formed = simp digit_is

  pub plain_numbers : d.year < 10000 → d.month < 100 → d.day < 100 → (number (plain_text d) 0 4 ≡ d.year) × (number (plain_text d) 5 2 ≡ d.month) × (number (plain_text d) 8 2 ≡ d.day)
  unfolding plain_text fixed number decimal
  plain_numbers h k l = (omega arith, omega arith, omega arith)

-- the only one with its numbers
pub plain_again : (t : List ℕ) → formed plain_pattern t ≡ true → t ≡ plain_text (plain_parts t)
unfolding plain_text bytes
plain_again t h =
    let a : get_or t 4 0 ≡ 45 = byte_there plain_pattern t h 4 (omega arith) refl in
    let b : get_or t 7 0 ≡ 45 = byte_there plain_pattern t h 7 (omega arith) refl in
    let y = row_again plain_pattern t h 0 4 (omega arith) refl in
    let m = row_again plain_pattern t h 5 2 (omega arith) refl in
    let d = row_again plain_pattern t h 8 2 (omega arith) refl in
    ten t (formed_length plain_pattern t h) ∙ rw (y, m, d, a, b) refl

-- ---- week dates

module _ (w : WeekDate) where
  pub week_formed : formed week_pattern (week_text w) ≡ true
  unfolding formed fits bytes week_text fixed
  week_formed = simp digit_is

  pub week_numbers : w.year < 10000 → w.week < 100 → w.day < 10 → (number (week_text w) 0 4 ≡ w.year) × (number (week_text w) 6 2 ≡ w.week) × (number (week_text w) 9 1 ≡ w.day)
  unfolding week_text fixed number decimal
  week_numbers h k l = (omega arith, omega arith, omega arith)

  -- it is no plain date
  pub week_not_plain : formed plain_pattern (week_text w) ≡ false
  unfolding formed fits digit bytes week_text fixed
  week_not_plain = simp digit_is refl

pub week_again : (t : List ℕ) → formed week_pattern t ≡ true → t ≡ week_text (week_parts t)
unfolding week_text bytes
week_again t h =
    let a : get_or t 4 0 ≡ 45 = byte_there week_pattern t h 4 (omega arith) refl in
    let b : get_or t 5 0 ≡ 87 = byte_there week_pattern t h 5 (omega arith) refl in
    let c : get_or t 8 0 ≡ 45 = byte_there week_pattern t h 8 (omega arith) refl in
    let y = row_again week_pattern t h 0 4 (omega arith) refl in
    let w = row_again week_pattern t h 6 2 (omega arith) refl in
    let d = row_again week_pattern t h 9 1 (omega arith) refl in
    ten t (formed_length week_pattern t h) ∙ rw (y, w, d, a, b, c) refl

-- ---- what a text is

-- the form of each of the two texts
pub plain_form : (d : Civil ℕ) → d.year < 10000 → d.month < 100 → d.day < 100 → form (plain_text d) ≡ Some (variant.Plain d)
unfolding form
plain_form d h k l = let n = plain_numbers d h k l in rw (plain_formed d, n.0, n.1, n.2) refl

pub week_form : (w : WeekDate) → w.year < 10000 → w.week < 100 → w.day < 10 → form (week_text w) ≡ Some (variant.Week w)
unfolding form
week_form w h k l = let n = week_numbers w h k l in rw (week_formed w, week_not_plain w, n.0, n.1, n.2) refl

-- and no other text has it
pub plain_only : (t : List ℕ) (d : Civil ℕ) → form t ≡ Some (variant.Plain d) → t ≡ plain_text d
plain_only t d e = by (form t) (form_of t) e
  where
    by : (f : Option Form) → FormOf t f → f ≡ Some (variant.Plain d) → t ≡ plain_text d
    by f (a_plain h) e = let p : plain_parts t ≡ d = cc in plain_again t h ∙ ap plain_text p
    by f (a_week h) e = cc
    by f neither e = cc

pub week_only : (t : List ℕ) (w : WeekDate) → form t ≡ Some (variant.Week w) → t ≡ week_text w
week_only t w e = by (form t) (form_of t) e
  where
    by : (f : Option Form) → FormOf t f → f ≡ Some (variant.Week w) → t ≡ week_text w
    by f (a_plain h) e = cc
    by f (a_week h) e = let p : week_parts t ≡ w = cc in week_again t h ∙ ap week_text p
    by f neither e = cc
