-- The ids of the records of a board: docs/SCOPE.md, 'The board'.
use Rattle.std.specs.Prelude.{ℕ, suc, Bool, false, not, cond, ◌||◌, eqb, List, [], ◌∷◌, filter}
use Rattle.board.specs.declared.Deadline.{Deadline}

-- whether a record has the id
unfoldable pub has_id : List Deadline → ℕ → Bool
has_id [] id = false
has_id (r ∷ records) id = eqb r.id id || has_id records id

-- whether two records have one id
unfoldable pub has_twice : List Deadline → Bool
has_twice [] = false
has_twice (r ∷ records) = has_id records r.id || has_twice records

-- the records without those of an id
unfoldable pub without : List Deadline → ℕ → List Deadline
without records id = filter (λ r. not (eqb r.id id)) records

-- the place of the first record with the id; without one, how many records there are
unfoldable pub place_of : List Deadline → ℕ → ℕ
place_of [] id = 0
place_of (r ∷ records) id = cond (eqb r.id id) 0 (suc (place_of records id))
