-- Which plug-in stops first: docs/SCOPE.md, 'The board'.
use Rattle.std.specs.Prelude.{Bool, false, not, ◌&&◌, ◌||◌, eqb, ltb, int_lt, List, [], ◌∷◌, find, Option}
use Rattle.std.specs.Ordering.{int_eq}
use Rattle.board.specs.declared.Deadline.{Deadline}

-- whether a stops before b: at an earlier moment; at the same moment with a smaller nanosecond; at the same nanosecond with a smaller id
unfoldable pub before : Deadline → Deadline → Bool
before a b = int_lt a.moment b.moment || (int_eq a.moment b.moment && (ltb a.nanosecond b.nanosecond || (eqb a.nanosecond b.nanosecond && ltb a.id b.id)))

-- whether some record is before a
unfoldable pub any_before : List Deadline → Deadline → Bool
any_before [] a = false
any_before (b ∷ records) a = before b a || any_before records a

-- the record that no record is before, if there is one
unfoldable pub first : List Deadline → Option Deadline
first records = find (λ a. not (any_before records a)) records
