-- The interchange profile: docs/SCOPE.md, 'The profile' and 'The order of tests'.
use Rattle.std.specs.Prelude.{ℕ, ℤ, List}
use Rattle.answers.specs.Placed.{Placed, fine, placed, ◌>>=◌, ◌>>◌}
use Rattle.calendar.specs.declared.Civil.{Civil}
use Rattle.extended.specs.Extended.{make, time}
use Rattle.extended.specs.declared.ExtendedDateTime.{ExtendedDateTime}
use Rattle.text_tests.specs.Tests.{test_text}
use Rattle.text_profile.specs.Forms.{date_in}

-- the start of a day, at an offset
abbrev pub midnight : Civil ℕ → ℤ → ExtendedDateTime
midnight d o = make d (time 0 0 0 0) o

-- the tests that every text has to pass; then midnight of the date, at the offset of the base
unfoldable pub read_profile : List ℕ → ExtendedDateTime → Placed ExtendedDateTime
read_profile text base = do
  test_text text base
  d ← placed 0 (date_in text)
  fine (midnight d base.offset_seconds)
