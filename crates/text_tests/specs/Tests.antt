-- The tests that a text and its base pass before the text is read: docs/SCOPE.md, 'Domain and limits' and 'The order of tests'.
use Rattle.std.specs.Prelude.{ℕ, Bool, List, ltb, leb, length}
use Rattle.answers.specs.Numbers as refusal
use Rattle.answers.specs.Limits.{max_length}
use Rattle.answers.specs.Outcome.{check}
use Rattle.answers.specs.Placed.{Placed, placed, ◌>>◌}
use Rattle.extended.specs.Extended.{test}
use Rattle.extended.specs.declared.ExtendedDateTime.{ExtendedDateTime}
use Rattle.primitive.specs.Text.{past}

-- whether a byte is below 128
unfoldable pub ascii : ℕ → Bool
ascii b = ltb b 128

-- the place of the first byte of 128 or more; without one, the length
unfoldable pub ascii_end : List ℕ → ℕ
ascii_end text = past ascii text 0

-- the base as `new` tests it, the length, then the foreign bytes, of which the first is the place of 2
unfoldable pub test_text : List ℕ → ExtendedDateTime → Placed (Unit {0})
test_text text base = do
  placed 0 (test base)
  placed 0 (check (leb (length text) max_length) refusal.oversize)
  placed (ascii_end text) (check (leb (length text) (ascii_end text)) refusal.foreign)
