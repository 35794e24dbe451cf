-- Examples, each a text and the date that it is read as or its refusal, all computed. Assumes nothing.
use Prim.Native.Nat.{ℕ}
use mathlib.Core.Path.{◌≡◌, refl, ap, ◌∙◌}
use mathlib.Core.List.{List}
use Rattle.std.specs.Prelude.{Option, Some, None}
use Rattle.answers.specs.Numbers as refusal
use Rattle.answers.proofs.Outcomes.{same}
use Rattle.theorems_profile.proofs.Dates.{in_valid}
use Rattle.answers.specs.Outcome.{Outcome, accepted, refused, ◌>>=◌}
use Rattle.calendar.specs.declared.Civil.{Civil}
use Rattle.calendar.specs.Calendar.{leap, year_days, days_before_year, month_days, days_of_months, day_number, ymd}
use Rattle.calendar.proofs.Dates.{day_of, place, unique}
use Rattle.extended.specs.Extended.{test_date}
use Rattle.extended.proofs.Records.{date_facts}
use Rattle.primitive.specs.Primitive.{decimal}
use Rattle.primitive.specs.Text.{bytes, digit}
use Rattle.weeks.proofs.Theorems.{day_by, day_closed}
use Rattle.text_profile.specs.Forms.{fits, formed, number, form, form_date, day_date, plain_date, week_day, date_in}
use Rattle.text_profile.specs.declared.Form.{Form}
use Rattle.text_profile.specs.declared.Form.TheVariants as variant

-- the day number of the date that a text is, by closed forms
abbrev number_by : Option ℕ → Outcome ℕ
number_by (Some n) = accepted n
number_by None = refused refusal.week

abbrev form_by : Option Form → Outcome ℕ
form_by (Some (variant.Plain d)) = plain_date d >>= (λ e. accepted (day_of e))
form_by (Some (variant.Week w)) = number_by (day_by w)
form_by None = refused refusal.unread

numbered : (text : List ℕ) → (date_in text >>= (λ d. accepted (day_of d))) ≡ form_by (form text)
unfolding date_in week_day
numbered text = by (form text)
  where
    found : (o : Option ℕ) → (day_date o >>= (λ d. accepted (day_of d))) ≡ number_by o
    found (Some n) = ap accepted (place n).1
    found None = refl

    by : (f : Option Form) → (form_date f >>= (λ d. accepted (day_of d))) ≡ form_by f
    by (Some (variant.Plain d)) = refl
    by (Some (variant.Week w)) = ap (λ (o : Option ℕ). day_date o >>= (λ d. accepted (day_of d))) (day_closed w) ∙ found (day_by w)
    by None = refl

-- a text that is read, by its day number and by the date
reads : (text : List ℕ) (y m d : ℕ) → form_by (form text) ≡ accepted (day_number y m d) → test_date (ymd y m d) ≡ accepted tt → date_in text ≡ accepted (ymd y m d)
reads text y m d e v = by (date_in text) refl (numbered text ∙ e)
  where
    by : (o : Outcome (Civil ℕ)) → date_in text ≡ o → (o >>= (λ d. accepted (day_of d))) ≡ accepted (day_number y m d) → o ≡ accepted (ymd y m d)
    by (accepted c) f g = ap accepted (unique c (ymd y m d) (in_valid text c f).0 (date_facts (ymd y m d) v).0 (same g))
    by (refused n) f g = cc

refuses : (text : List ℕ) (k : ℕ) → form_by (form text) ≡ refused k → date_in text ≡ refused k
refuses text k e = by (date_in text) (numbered text ∙ e)
  where
    by : (o : Outcome (Civil ℕ)) → (o >>= (λ d. accepted (day_of d))) ≡ refused k → o ≡ refused k
    by (accepted d) g = cc
    by (refused n) g = let z : n ≡ k = cc in ap refused z

-- the days of week 53 and of the years at both ends, leap days
pub dates :
    (date_in (bytes "2020-W53-5") ≡ accepted (ymd 2021 1 1))
    × (date_in (bytes "2021-01-01") ≡ accepted (ymd 2021 1 1))
    × (date_in (bytes "2024-W01-1") ≡ accepted (ymd 2024 1 1))
    × (date_in (bytes "2025-W01-1") ≡ accepted (ymd 2024 12 30))
    × (date_in (bytes "2026-W53-7") ≡ accepted (ymd 2027 1 3))
    × (date_in (bytes "1970-W01-4") ≡ accepted (ymd 1970 1 1))
    × (date_in (bytes "2016-W01-1") ≡ accepted (ymd 2016 1 4))
    × (date_in (bytes "0000-W01-1") ≡ accepted (ymd 0 1 3))
    × (date_in (bytes "0000-01-01") ≡ accepted (ymd 0 1 1))
    × (date_in (bytes "0068-02-29") ≡ accepted (ymd 68 2 29))
    × (date_in (bytes "2000-02-29") ≡ accepted (ymd 2000 2 29))
    × (date_in (bytes "9999-12-31") ≡ accepted (ymd 9999 12 31))
    × (date_in (bytes "9999-W52-5") ≡ accepted (ymd 9999 12 31))
    × (date_in (bytes "9999-W52-6") ≡ accepted (ymd 10000 1 1))
    × (date_in (bytes "9999-W52-7") ≡ accepted (ymd 10000 1 2))
unfolding bytes form formed fits digit number decimal days_before_year year_days leap month_days days_of_months day_number plain_date test_date
dates = (
  reads (bytes "2020-W53-5") 2021 1 1 refl refl,
  reads (bytes "2021-01-01") 2021 1 1 refl refl,
  reads (bytes "2024-W01-1") 2024 1 1 refl refl,
  reads (bytes "2025-W01-1") 2024 12 30 refl refl,
  reads (bytes "2026-W53-7") 2027 1 3 refl refl,
  reads (bytes "1970-W01-4") 1970 1 1 refl refl,
  reads (bytes "2016-W01-1") 2016 1 4 refl refl,
  reads (bytes "0000-W01-1") 0 1 3 refl refl,
  reads (bytes "0000-01-01") 0 1 1 refl refl,
  reads (bytes "0068-02-29") 68 2 29 refl refl,
  reads (bytes "2000-02-29") 2000 2 29 refl refl,
  reads (bytes "9999-12-31") 9999 12 31 refl refl,
  reads (bytes "9999-W52-5") 9999 12 31 refl refl,
  reads (bytes "9999-W52-6") 10000 1 1 refl refl,
  reads (bytes "9999-W52-7") 10000 1 2 refl refl,
)

-- weeks and days that there are not, dates that there are not, other shapes
pub refusals :
    (date_in (bytes "2021-W53-1") ≡ refused refusal.week)
    × (date_in (bytes "2020-W54-1") ≡ refused refusal.week)
    × (date_in (bytes "2020-W00-1") ≡ refused refusal.week)
    × (date_in (bytes "0000-W00-6") ≡ refused refusal.week)
    × (date_in (bytes "2020-W53-0") ≡ refused refusal.week)
    × (date_in (bytes "2020-W53-8") ≡ refused refusal.week)
    × (date_in (bytes "9999-W53-1") ≡ refused refusal.week)
    × (date_in (bytes "2024-00-13") ≡ refused refusal.month)
    × (date_in (bytes "2024-13-13") ≡ refused refusal.month)
    × (date_in (bytes "2024-03-00") ≡ refused refusal.day)
    × (date_in (bytes "2024-04-31") ≡ refused refusal.day)
    × (date_in (bytes "1900-02-29") ≡ refused refusal.day)
    × (date_in (bytes "2024-13-4x") ≡ refused refusal.unread)
    × (date_in (bytes "2020-w53-5") ≡ refused refusal.unread)
    × (date_in (bytes "2020W535") ≡ refused refusal.unread)
    × (date_in (bytes "2024-03-13 ") ≡ refused refusal.unread)
    × (date_in (bytes " 2024-03-13") ≡ refused refusal.unread)
    × (date_in (bytes "12024-03-13") ≡ refused refusal.unread)
    × (date_in (bytes "2024-3-13") ≡ refused refusal.unread)
    × (date_in (bytes "") ≡ refused refusal.unread)
unfolding bytes form formed fits digit number decimal days_before_year year_days leap month_days days_of_months plain_date test_date
refusals = (
  refuses (bytes "2021-W53-1") refusal.week refl,
  refuses (bytes "2020-W54-1") refusal.week refl,
  refuses (bytes "2020-W00-1") refusal.week refl,
  refuses (bytes "0000-W00-6") refusal.week refl,
  refuses (bytes "2020-W53-0") refusal.week refl,
  refuses (bytes "2020-W53-8") refusal.week refl,
  refuses (bytes "9999-W53-1") refusal.week refl,
  refuses (bytes "2024-00-13") refusal.month refl,
  refuses (bytes "2024-13-13") refusal.month refl,
  refuses (bytes "2024-03-00") refusal.day refl,
  refuses (bytes "2024-04-31") refusal.day refl,
  refuses (bytes "1900-02-29") refusal.day refl,
  refuses (bytes "2024-13-4x") refusal.unread refl,
  refuses (bytes "2020-w53-5") refusal.unread refl,
  refuses (bytes "2020W535") refusal.unread refl,
  refuses (bytes "2024-03-13 ") refusal.unread refl,
  refuses (bytes " 2024-03-13") refusal.unread refl,
  refuses (bytes "12024-03-13") refusal.unread refl,
  refuses (bytes "2024-3-13") refusal.unread refl,
  refuses (bytes "") refusal.unread refl,
)
