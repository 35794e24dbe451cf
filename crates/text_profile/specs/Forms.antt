-- The two forms of the interchange profile, a plain date and a week date of ISO 8601, and the date that a text is: docs/SCOPE.md, 'The profile'.
use Rattle.std.specs.Prelude.{ℕ, ◌≡◌, ◌+◌, ◌<◌, Bool, true, false, ◌&&◌, cond, eqb, List, [], ◌∷◌, length, get_or, Option, Some, None}
use Rattle.answers.specs.Numbers as refusal
use Rattle.answers.specs.Outcome.{Outcome, accepted, refused, ◌>>◌}
use Rattle.calendar.specs.declared.Civil.{Civil}
use Rattle.calendar.specs.Calendar.{civil}
use Rattle.extended.specs.Extended.{date, test_date}
use Rattle.std.proofs.Math.Seq.{slice}
use Rattle.primitive.specs.Primitive.{decimal}
use Rattle.primitive.specs.Text.{bytes, digit}
use Rattle.weeks.specs.Weeks.{day_of}
use Rattle.weeks.specs.declared.WeekDate.{WeekDate}
use Rattle.text_profile.specs.declared.Form.{Form}
use Rattle.text_profile.specs.declared.Form.TheVariants as variant

-- ---- the two forms

-- whether a byte is what a pattern has: any digit for a `0`, which is 48, else that byte itself
unfoldable pub fits : ℕ → ℕ → Bool
fits wanted byte = cond (eqb wanted 48) (digit byte) (eqb byte wanted)

-- whether a text has a byte for each of a pattern's, and no more
unfoldable pub formed : List ℕ → List ℕ → Bool
formed [] [] = true
formed [] (b ∷ bs) = false
formed (w ∷ ws) [] = false
formed (w ∷ ws) (b ∷ bs) = fits w b && formed ws bs

abbrev pub plain_pattern : List ℕ
plain_pattern = bytes "0000-00-00"

abbrev pub week_pattern : List ℕ
week_pattern = bytes "0000-W00-0"

-- a digit of a text
abbrev pub Digit : List ℕ → ℕ → Type 0
Digit text at = (at < length text) × (digit (get_or text at 0) ≡ true)

-- the number of n digits from a place on
unfoldable pub number : List ℕ → ℕ → ℕ → ℕ
number text at n = decimal (slice at (at + n) text)

-- the numbers of a plain date, and those of a week date
abbrev pub plain_parts : List ℕ → Civil ℕ
plain_parts text = date (number text 0 4) (number text 5 2) (number text 8 2)

abbrev pub week_parts : List ℕ → WeekDate
week_parts text = record { year = number text 0 4; week = number text 6 2; day = number text 9 1 }

-- the form of a text, with its numbers
unfoldable pub form : List ℕ → Option Form
form text =
    cond (formed plain_pattern text) (Some (variant.Plain (plain_parts text)))
    (cond (formed week_pattern text) (Some (variant.Week (week_parts text))) None)

-- ---- the date

-- 11 or 12 where there is no such date
unfoldable pub plain_date : Civil ℕ → Outcome (Civil ℕ)
plain_date d = do
  test_date d
  accepted d

-- 21 where no day has that week date
abbrev pub day_date : Option ℕ → Outcome (Civil ℕ)
day_date (Some n) = accepted (civil n)
day_date None = refused refusal.week

unfoldable pub week_day : WeekDate → Outcome (Civil ℕ)
week_day w = day_date (day_of w)

-- 3 for a text of neither form
abbrev pub form_date : Option Form → Outcome (Civil ℕ)
form_date (Some (variant.Plain d)) = plain_date d
form_date (Some (variant.Week w)) = week_day w
form_date None = refused refusal.unread

unfoldable pub date_in : List ℕ → Outcome (Civil ℕ)
date_in text = form_date (form text)
