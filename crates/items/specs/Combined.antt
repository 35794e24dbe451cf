-- A date and a time in one item, as in items/combined.rs. 29.5: "The ISO 8601 date and time of day extended format consists of an ISO 8601
-- date, a 'T' character separator, and an ISO 8601 time of day. This format is also recognized if the 'T' is replaced by a space."
use Rattle.primitive.specs.Answer.{Answer, Reader, matched, dropped, none, stop, ◌>>=◌, ◌>>◌, ◌<|>◌, pure}
use Rattle.primitive.specs.Text.{char, quoted}
use Rattle.primitive.specs.Primitive.{multispace0, space, spaced}
use Rattle.times.specs.Offset.{unless}
use Rattle.times.specs.Time.{iso, parse}
use Rattle.times.specs.declared.time.Time.{Time}
use Rattle.dates.specs.declared.date.Date.{Date}
use Rattle.items.specs.declared.combined.DateTime.{DateTime}

-- a reader whose stop is no match
abbrev pub unstopped : {A : Type 0} → Answer A → Answer A
unstopped (matched v n) = matched v n
unstopped (dropped v n) = dropped v n
unstopped none = none
unstopped stop = none

abbrev pub attempt : {A : Type 0} → Reader A → Reader A
attempt p text at = unstopped (p text at)

abbrev pub skip_space : Reader (Unit {0})
skip_space text at = matched tt (space text at)

-- a `t` after space, or one byte 32 and the space after it
unfoldable pub separator : Reader (Unit {0})
separator = spaced (char "t") <|> (char " " >> skip_space)

unfoldable pub meridiem_word : Reader (Unit {0})
meridiem_word = quoted "am" <|> (quoted "pm" <|> (quoted "a.m." <|> quoted "p.m."))

-- The Rust looks for am or pm after blanks; a comment is none.
unfoldable pub starts_with_meridiem : Reader (Unit {0})
starts_with_meridiem = multispace0 >> meridiem_word

unfoldable pub unless_meridiem : Time → Reader Time
unless_meridiem t = unless starts_with_meridiem (pure t)

unfoldable pub iso_alone : Reader Time
iso_alone = do
  t ← iso
  unless_meridiem t

-- SCOPE, 'Combined items': a meridiem after the time sends it to `time::parse`. So does an ISO time that stops.
unfoldable pub combined_time : Reader Time
combined_time = attempt iso_alone <|> parse

unfoldable pub parse_time_after_date : Date → Reader DateTime
parse_time_after_date d = do
  separator
  t ← combined_time
  pure (record { date = d; time = t })
