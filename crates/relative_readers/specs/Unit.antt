-- What a unit of the code is worth, as in the table of units by their words.
use Rattle.std.specs.Prelude.{ℤ}
use Rattle.primitive.specs.Answer.{Reader, pure}
use Rattle.relative.specs.Relative.{days}
use Rattle.relative.specs.declared.Relative.{Relative}
use Rattle.relative.specs.declared.Relative.TheVariants.{Years, Months, Days, Hours, Minutes, Seconds}
use Rattle.relative_readers.specs.declared.unit.Unit.{Unit}
use Rattle.relative_readers.specs.declared.unit.Unit.TheVariants.{Year, Month, Fortnight, Week, Day, Hour, Minute, Second}

unfoldable pub times : Unit → ℤ → Reader Relative
times Year = λ n. pure (Years n)
times Month = λ n. pure (Months n)
times Fortnight = days 14
times Week = days 7
times Day = λ n. pure (Days n)
times Hour = λ n. pure (Hours n)
times Minute = λ n. pure (Minutes n)
times Second = λ n. pure (Seconds n 0)
