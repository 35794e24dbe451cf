-- What a step that puts bytes into a row leaves.
use Rattle.std.specs.Prelude.{ℕ, ◌+◌, ◌≡◌, List, ◌++◌, length, take, drop}

-- a text at a place of a row of bytes; the others stay
unfoldable pub put_at : List ℕ → ℕ → List ℕ → List ℕ
put_at text at out = take at out ++ (text ++ drop (at + length text) out)

-- a step that puts a text at a place, answers the place after it, and leaves the other bytes
pub record Put (text : List ℕ) (at : ℕ) (out : List ℕ) (next : ℕ) (result : List ℕ) : Type 0 where
  pub place : next ≡ at + length text
  pub bytes : result ≡ put_at text at out
