-- What a caller may rely on of a line that was read.
use Rattle.std.specs.Prelude.{ℕ, List}
use Rattle.replay_lines.specs.declared.Line.{Line}
use Rattle.replay_lines.specs.declared.Line.TheVariants as variant

-- the bytes of a heading or a text
abbrev pub bytes_of : Line → List ℕ
bytes_of (variant.Heading text) = text.items
bytes_of (variant.Text text) = text.items
