-- The exit status of each way in which the line program ends: docs/SCOPE.md, 'The line program'.
use Rattle.std.specs.Prelude.{ℕ}
use Rattle.line_usage.specs.declared.ending.Ending.{Ending}
use Rattle.line_usage.specs.declared.ending.Ending.TheVariants as ending

abbrev pub status : Ending → ℕ
status ending.Answered = 0
status ending.BaseRefused = 1
status (ending.WrongUsage wrong) = 2
status (ending.ReadFailed why) = 3
status (ending.WriteFailed why) = 3
