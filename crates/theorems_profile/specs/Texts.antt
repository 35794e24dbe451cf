-- The words of proofs/Theorems.antt: the two texts of a date, and what a text is answered.
use Rattle.std.specs.Prelude.{ℕ, List, [], ◌∷◌, ◌++◌}
use Rattle.extended.specs.Extended.{blank_record}
use Rattle.extended.specs.declared.ExtendedDateTime.{ExtendedDateTime}
use Rattle.host_answers.specs.declared.Answer.{Answer}
use Rattle.calendar.specs.declared.Civil.{Civil}
use Rattle.weeks.specs.declared.WeekDate.{WeekDate}
use Rattle.writer.specs.Writer.{fixed, field}

-- `YYYY-MM-DD`; `-` is 45
unfoldable pub plain_text : Civil ℕ → List ℕ
plain_text d = fixed 4 d.year ++ field 45 2 d.month (field 45 2 d.day [])

-- `YYYY-Www-D`; `W` is 87
unfoldable pub week_text : WeekDate → List ℕ
week_text w = fixed 4 w.year ++ (45 ∷ field 87 2 w.week (field 45 1 w.day []))

-- the answer to a text that is read, and to one that is refused at place 0
abbrev pub answered : ExtendedDateTime → Answer
answered r = record { number = 0; place = 0; «record» = r }

abbrev pub refused_with : ℕ → Answer
refused_with n = record { number = n; place = 0; «record» = blank_record }
