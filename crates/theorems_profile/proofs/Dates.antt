-- The date that a text is: which dates there are, and that the two texts of a date are read as it. Assumes nothing.
use native.Mathlib.Omega.{arith}
use Prim.Native.Nat.{ℕ, ◌<◌, ◌≤◌}
use mathlib.Core.Path.{◌≡◌, refl, sym, ap, ◌∙◌}
use mathlib.Core.Bool.{Bool, true, false, cond, ◌&&◌}
use mathlib.Core.List.{List, [], ◌∷◌}
use mathlib.Core.Logic.{◌⊎◌, inl, inr}
use lib.Dec.{leb, ltb, eqb}
use lib.ListN.{length}
use borrow.Author.Tests.{eqb-true, leb-true, lt-ltb, ltb-true, ltb-false}
use Rattle.std.specs.Prelude.{Option, Some, None}
use Rattle.answers.specs.Outcome.{accepted}
use Rattle.answers.specs.Placed.{placed}
use Rattle.answers.proofs.Outcomes.{same, first_passed}
use Rattle.calendar.specs.declared.Civil.{Civil}
use Rattle.calendar.specs.Calendar.{Valid, ymd, days_before_year, civil}
use Rattle.calendar.proofs.Counting.{closed_form, years_le, year_step, year_bounds, month_bound}
use Rattle.calendar.proofs.Dates.{day_of, place}
use Rattle.extended.specs.Extended.{test_date, test}
use Rattle.extended.specs.declared.ExtendedDateTime.{ExtendedDateTime}
use Rattle.extended.proofs.Records.{date_facts, date_test}
use Rattle.primitive.specs.Text.{bytes, digit, past}
use Rattle.primitive.proofs.Rows.{all, halves, run_all}
use Rattle.text_tests.specs.Tests.{ascii, ascii_end, test_text}
use Rattle.text_tests.proofs.Tests.{base_alone}
use Rattle.weeks.specs.Weeks as week
use Rattle.weeks.specs.Weeks.{week_date}
use Rattle.weeks.specs.declared.WeekDate.{WeekDate}
use Rattle.weeks.proofs.Thursdays.{dated_of_day}
use Rattle.weeks.proofs.Search.{day_found}
use Rattle.weeks.proofs.Theorems.{own_date, near_year}
use Rattle.text_profile.specs.Forms.{fits, formed, plain_pattern, week_pattern, form, form_date, day_date, plain_date, week_day, date_in}
use Rattle.text_profile.specs.declared.Form.{Form}
use Rattle.text_profile.specs.declared.Form.TheVariants as variant
use Rattle.text_profile.proofs.Forms.{formed_length, plain_year, week_year}
use Rattle.theorems_profile.specs.Texts.{plain_text, week_text}
use Rattle.theorems_profile.proofs.Texts.{plain_formed, week_formed, plain_form, week_form, plain_only, week_only}

-- ---- what has a form passes the tests of its bytes

fits_ascii : (w b : ℕ) → fits w b ≡ true → ascii w ≡ true → ascii b ≡ true
unfolding fits digit ascii
fits_ascii w b h a = by (eqb w 48) refl h
  where
    by : (t : Bool) → eqb w 48 ≡ t → cond t (leb 48 b && leb b 57) (eqb b w) ≡ true → ltb b 128 ≡ true
    by true e k = lt-ltb b 128 (omega (arith, leb-true b 57 (halves (leb 48 b) (leb b 57) k).1))
    by false e k = rw (eqb-true b w k) a

formed_ascii : (w t : List ℕ) → formed w t ≡ true → all ascii w ≡ true → all ascii t ≡ true
unfolding formed
formed_ascii [] [] h a = refl
formed_ascii [] (b ∷ bs) h a = cc
formed_ascii (v ∷ vs) [] h a = cc
formed_ascii (v ∷ vs) (b ∷ bs) h a =
    let f = halves (fits v b) (formed vs bs) h in
    let g = halves (ascii v) (all ascii vs) a in
    rw (fits_ascii v b f.0 g.0, formed_ascii vs bs f.1 g.1) refl

module _ (w t : List ℕ) (h : formed w t ≡ true) (a : all ascii w ≡ true) (l : length w ≤ 4096) where
  pub formed_tested : (base : ExtendedDateTime) → test_text t base ≡ placed 0 (test base)
  unfolding ascii_end past
  formed_tested base =
      let k = formed_length w t h in
      let r = run_all ascii t (formed_ascii w t h a) in
      base_alone t base (omega arith) (omega arith)

pub plain_tested : (d : Civil ℕ) (base : ExtendedDateTime) → test_text (plain_text d) base ≡ placed 0 (test base)
unfolding bytes ascii
plain_tested d base = formed_tested plain_pattern (plain_text d) (plain_formed d) refl (omega arith) base

pub week_tested : (w : WeekDate) (base : ExtendedDateTime) → test_text (week_text w) base ≡ placed 0 (test base)
unfolding bytes ascii
week_tested w base = formed_tested week_pattern (week_text w) (week_formed w) refl (omega arith) base

-- ---- the two texts of a date are read

pub plain_in : (d : Civil ℕ) → Valid d → d.year < 10000 → date_in (plain_text d) ≡ accepted d
unfolding date_in plain_date
plain_in d v h =
    let b = month_bound d.year d.month in
    rw (plain_form d h (omega (arith, v.month_high)) (omega (arith, v.day_high, b)), date_test d v (omega arith)) refl

-- the week dates of the years 0 to 9999: no day is later than 10000-01-02
pub years_9999 : days_before_year 10000 ≡ 3652425
years_9999 = omega (arith, closed_form 10000)

week_small : (n : ℕ) → 2 ≤ n → ((week_date n).week < 100) × ((week_date n).day < 10)
week_small n h =
    let r = dated_of_day n h in
    let y = (week_date n).year in
    (omega (arith, r.week_high, year_step y, year_bounds y), omega (arith, r.day_high))

pub week_years : (n : ℕ) → 2 ≤ n → n < 3652427 → (week_date n).year < 10000
week_years n h k = by (ltb (week_date n).year 10000) refl
  where
    by : (t : Bool) → ltb (week_date n).year 10000 ≡ t → (week_date n).year < 10000
    by true e = ltb-true (week_date n).year 10000 e
    by false e = absurd (late (years_le 10000 (week_date n).year (ltb-false (week_date n).year 10000 e)))
      where
        late : days_before_year 10000 ≤ days_before_year (week_date n).year → ⊥
        late l = let r = dated_of_day n h in omega (arith, years_9999, r.week_low, r.day_low, r.number)

pub week_in : (n : ℕ) → 2 ≤ n → n < 3652427 → date_in (week_text (week_date n)) ≡ accepted (civil n)
unfolding date_in week_day
week_in n h k =
    let s = week_small n h in
    rw (week_form (week_date n) (week_years n h k) s.0 s.1, own_date n h) refl

-- ---- what is read is one of them

pub plain_found : (d e : Civil ℕ) → plain_date d ≡ accepted e → (d ≡ e) × Valid (ymd d.year d.month d.day)
unfolding plain_date
plain_found d e h = let p = first_passed (test_date d) (accepted d) h in (same p.1, (date_facts d p.0).0)

pub record Found (w : WeekDate) (e : Civil ℕ) : Type 0 where
  pub date : e ≡ civil (day_of e)
  pub day : week.day_of w ≡ Some (day_of e)
  pub week : week_date (day_of e) ≡ w

pub week_found : (w : WeekDate) (e : Civil ℕ) → week_day w ≡ accepted e → Found w e
unfolding week_day
week_found w e h = by (week.day_of w) refl h
  where
    by : (o : Option ℕ) → week.day_of w ≡ o → day_date o ≡ accepted e → Found w e
    by (Some n) f q =
        let g : civil n ≡ e = same q in
        let m : day_of e ≡ n = rw (← g) (place n).1 in
        record { date = rw m (sym g); day = rw m f; week = rw m (day_found w n f).1 }
    by None f q = cc

-- a text that is read as a date is one of its two texts
pub in_only : (t : List ℕ) (e : Civil ℕ) → date_in t ≡ accepted e → (t ≡ plain_text e) ⊎ (t ≡ week_text (week_date (day_of e)))
unfolding date_in
in_only t e h = by (form t) refl h
  where
    by : (f : Option Form) → form t ≡ f → form_date f ≡ accepted e → (t ≡ plain_text e) ⊎ (t ≡ week_text (week_date (day_of e)))
    by (Some (variant.Plain d)) f q = inl (plain_only t d f ∙ ap plain_text (plain_found d e q).0)
    by (Some (variant.Week w)) f q = inr (week_only t w f ∙ ap week_text (sym (week_found w e q).week))
    by None f q = cc

-- and the date is one of the calendar, of the years 0 to 10000
pub in_valid : (t : List ℕ) (e : Civil ℕ) → date_in t ≡ accepted e → Valid (ymd e.year e.month e.day) × (e.year ≤ 10000)
unfolding date_in
in_valid t e h = by (form t) refl h
  where
    few : (y : ℕ) → y < 10000 → y ≤ 10000
    few y h = omega arith

    by : (f : Option Form) → form t ≡ f → form_date f ≡ accepted e → Valid (ymd e.year e.month e.day) × (e.year ≤ 10000)
    by (Some (variant.Plain d)) f q =
        let p = plain_found d e q in
        (rw p.0 at p.1, rw p.0 at (few d.year (plain_year t d f)))
    by (Some (variant.Week w)) f q =
        let g = week_found w e q in
        let n = near_year w (day_of e) g.day in
        let v : Valid (civil (day_of e)) = (place (day_of e)).0 in
        let y : (civil (day_of e)).year ≤ 10000 = omega (arith, n.1, week_year t w f) in
        (rw (← g.date) at v, rw (← g.date) at y)
    by None f q = cc
