-- Bytes, lower case, and runs of bytes.
use Rattle.std.specs.Prelude.{ℕ, suc, ◌+◌, ◌<◌, ◌≡◌, List, [], ◌∷◌, map, Bool, true, false, ◌&&◌, ◌||◌, length, drop, ltb, leb, eqb, Option, Some, None, cond}
use Prim.Native.String.{String}
use Prim.Native.String.{[] as empty, ◌∷◌ as then}
use Prim.Native.Char.{Char, code}
use Rattle.std.specs.Borrow.{Bor}
use Rattle.std.proofs.Math.Seq.{slice}
use Rattle.primitive.specs.Answer.{Answer, Reader, matched, none}

-- 29.1: "Alphabetic case is completely ignored in dates." Bytes 65 to 90 are 97 to 122 in lower case; readers see the text so.
unfoldable pub lower : ℕ → ℕ
lower b = cond (leb 65 b && leb b 90) (b + 32) b

unfoldable pub lowered : List ℕ → List ℕ
lowered text = map lower text

-- the code's answer of bytes that were read, and where they end
abbrev pub part_answer : Option (Bor (List ℕ) × ℕ) → Answer (List ℕ)
part_answer (Some p) = matched (lowered p.0.now) p.1
part_answer None = none

-- the bytes of a quoted text
unfoldable pub bytes : String → List ℕ
bytes empty = []
bytes (then c cs) = code c ∷ bytes cs

-- SCOPE, 'Space': blanks are the bytes 9 to 13 and 32
unfoldable pub blank : ℕ → Bool
blank b = eqb b 32 || (leb 9 b && leb b 13)

-- `0` to `9`
unfoldable pub digit : ℕ → Bool
digit b = leb 48 b && leb b 57

-- `a` to `z`
unfoldable pub letter : ℕ → Bool
letter b = leb 97 b && leb b 122

-- a test of bytes that says what p says of the byte in lower case
abbrev pub Tells : (ℕ → Bool → Type 0) → (ℕ → Bool) → Type 0
Tells says p = (b : ℕ) (r : Bool) → b < 256 → says b r → r ≡ p (lower b)

-- how many bytes at the front pass the test
unfoldable pub run : (ℕ → Bool) → List ℕ → ℕ
run p [] = 0
run p (b ∷ bs) = cond (p b) (suc (run p bs)) 0

-- the place after the bytes from `at` on that pass the test
unfoldable pub past : (ℕ → Bool) → List ℕ → ℕ → ℕ
past p text at = at + run p (drop at text)

-- all bytes from here on that pass the test, one or more
unfoldable pub some : (ℕ → Bool) → Reader (List ℕ)
some p text at = cond (ltb at (past p text at)) (matched (slice at (past p text at) text) (past p text at)) none

-- whether a text begins with the bytes w
unfoldable pub starts : List ℕ → List ℕ → Bool
starts [] text = true
starts (c ∷ cs) [] = false
starts (c ∷ cs) (b ∷ bs) = eqb b c && starts cs bs

-- the bytes w, whatever follows them
unfoldable pub tag : List ℕ → Reader (Unit {0})
tag w text at = cond (starts w (drop at text)) (matched tt (at + length w)) none

-- one byte, given by its number or by its character
abbrev pub byte : ℕ → Reader (Unit {0})
byte b = tag (b ∷ [])

abbrev pub char : Char → Reader (Unit {0})
char c = byte (code c)

-- a word that is quoted
abbrev pub quoted : String → Reader (Unit {0})
quoted w = tag (bytes w)
