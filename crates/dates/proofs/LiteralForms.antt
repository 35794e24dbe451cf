-- The dates of 29.2 whose month is a name, read as exactly their date: every name of the table. Space may stand in front and between the
-- parts; a hyphen in front of a letter is space too. What may stand behind the date is a premise. Assumes nothing.
use native.Mathlib.Omega.{arith}
use borrow.Author.Tests.{eqb-true}
use Prim.Native.Nat.{ℕ, ◌<◌}
use Prim.Native.String.{String}
use mathlib.Core.Path.{◌≡◌, refl, ap, ◌∙◌}
use mathlib.Core.List.{List, [], ◌∷◌, ◌++◌, append_assoc, Memᴰ}
use mathlib.Core.Bool.{Bool, true, false, ◌&&◌, ◌||◌}
use lib.ListN.{length}
use lib.Dec.{eqb}
use Rattle.primitive.specs.Text.{bytes, blank, digit, letter}
use Rattle.primitive.specs.Primitive.{multispace1, spaced, decimal, same, named}
use Rattle.dates.specs.Date.{with_year, dated_behind, hyphen, comma, months, word_dot, literal_month, literal1, literal2, literal3}
use Rattle.dates.specs.declared.date.Date.{Date}
use Rattle.primitive.proofs.Walk.{Reads, Fails, Spaces, ◌⟨◌⟩◌, ◌⟨◌⟩!◌, at_once, first, ◌or◌, nothing, behind_space, not_behind_space}
use Rattle.primitive.proofs.Leaves.{head, letter_no_digit, head_all, other, Still, some_read, byte_read, byte_else, word_read, letter_still, still}
use Rattle.primitive.proofs.Rows.{all, halves, both, Number}
use Rattle.primitive.proofs.WordTables.{every, every_one, lacks, not_named, distinct, table_read}
use Rattle.dates.proofs.Forms.{Year, in_year, YearOrNone, year_or_none, year_or_none_small, day_small, small_read, year_str_read, here, minus_read, with_year_read}

-- ---- the names of months

-- letters, one or more, and a dot behind them or none; `.` is 46
abbrev pub with_dot : Bool → List ℕ → List ℕ
with_dot true ws = ws ++ (46 ∷ [])
with_dot false ws = ws

-- a name of month k
pub record Month (w : List ℕ) (k : ℕ) : Type 0 where
  pub word : List ℕ
  pub dot : Bool
  pub spelling : w ≡ with_dot dot word
  pub long : 0 < length word
  pub letters : all letter word ≡ true
  pub found : (l : List ℕ) → Reads (named months w) l k l

-- whether a row of bytes is so spelled
unfoldable ends_so : List ℕ → Bool
ends_so [] = true
ends_so (b ∷ []) = letter b || eqb b 46
ends_so (b ∷ (c ∷ bs)) = letter b && ends_so (c ∷ bs)

unfoldable spelled : List ℕ → Bool
spelled [] = false
spelled (b ∷ bs) = letter b && ends_so bs

abbrev Spelling : List ℕ → Type 0
Spelling w = (ws : List ℕ) × (dot : Bool) × (w ≡ with_dot dot ws) × (all letter ws ≡ true)

dot_behind : (dot : Bool) (b : ℕ) (ws : List ℕ) → b ∷ with_dot dot ws ≡ with_dot dot (b ∷ ws)
dot_behind true b ws = refl
dot_behind false b ws = refl

spelling_of : (w : List ℕ) → ends_so w ≡ true → Spelling w
unfolding ends_so
spelling_of [] h = ([], false, refl, refl)
spelling_of (b ∷ []) h = go (letter b) refl h
  where
    go : (t : Bool) → letter b ≡ t → t || eqb b 46 ≡ true → Spelling (b ∷ [])
    go true e k = (b ∷ [], false, refl, rw e)
    go false e k = ([], true, ap (λ c. c ∷ []) (eqb-true b 46 k), refl)
spelling_of (b ∷ (c ∷ bs)) h =
    let t = halves (letter b) (ends_so (c ∷ bs)) h in
    let (ws, dot, e, a) = spelling_of (c ∷ bs) t.1 in
    (b ∷ ws, dot, ap (λ l. b ∷ l) e ∙ dot_behind dot b ws, both t.0 a)

-- each of the table is one
all_spelled : every (λ e. spelled (bytes e.0)) months ≡ true
unfolding months bytes spelled ends_so letter
all_spelled = refl

named_so : {k : ℕ} (w : List ℕ) → spelled w ≡ true → ((l : List ℕ) → Reads (named months w) l k l) → Month w k
unfolding spelled
named_so [] h f = let z : ◌≡◌ {A = ℕ} 0 1 = cc in absurd (omega arith)
named_so (b ∷ bs) h f =
    let t = halves (letter b) (ends_so bs) h in
    let (ws, dot, e, a) = spelling_of bs t.1 in
    record { word = b ∷ ws; dot = dot; spelling = ap (λ l. b ∷ l) e ∙ dot_behind dot b ws; long = omega arith; letters = both t.0 a; found = f }

pub month_names : {e : String × ℕ} → Memᴰ e months → Month (bytes e.0) e.1
unfolding distinct months same bytes
month_names {e} m = named_so (bytes e.0) (every_one (λ e. spelled (bytes e.0)) all_spelled m) (table_read months refl m)

-- ---- a name, read

-- what may stand behind a name: behind one without a dot no letter and no dot
abbrev pub Apart : {w : List ℕ} {k : ℕ} → Month w k → List ℕ → Type 0
Apart a rest = a.dot ≡ false → (letter (head rest) ≡ false) × (eqb (head rest) 46 ≡ false)

word_dot_read : (dot : Bool) (ws : List ℕ) {rest : List ℕ} → 0 < length ws → all letter ws ≡ true → (dot ≡ false → (letter (head rest) ≡ false) × (eqb (head rest) 46 ≡ false)) → Reads word_dot (with_dot dot ws ++ rest) (with_dot dot ws) rest
unfolding word_dot letter
word_dot_read true ws {rest} h a e = rw (append_assoc ws (46 ∷ []) rest) (word_read ws h a refl ⟨ _ ⟩ first _ (byte_read 46 ⟨ _ ⟩ nothing))
word_dot_read false ws h a e = let t = e refl in word_read ws h a t.0 ⟨ _ ⟩ (at_once _ (byte_else 46 t.1) or nothing)

with_dot_head : (dot : Bool) (ws rest : List ℕ) → 0 < length ws → all letter ws ≡ true → letter (head (with_dot dot ws ++ rest)) ≡ true
with_dot_head true ws rest h a = rw (append_assoc ws (46 ∷ []) rest) (head_all letter ws _ h a)
with_dot_head false ws rest h a = head_all letter ws _ h a

module _ {w : List ℕ} {k : ℕ} (a : Month w k) where
  pub month_head : (rest : List ℕ) → letter (head (w ++ rest)) ≡ true
  month_head rest = rw a.spelling (with_dot_head a.dot a.word rest a.long a.letters)

  pub month_no_digit : (rest : List ℕ) → digit (head (w ++ rest)) ≡ false
  month_no_digit rest = letter_no_digit _ (month_head rest)

  pub month_still : (rest : List ℕ) → Still (w ++ rest)
  month_still rest = letter_still (month_head rest)

  name_read : {rest : List ℕ} → Apart a rest → Reads word_dot (w ++ rest) w rest
  name_read e = rw a.spelling (word_dot_read a.dot a.word a.long a.letters e)

  -- behind space, as the readers ask for it
  pub month_read : {l rest : List ℕ} → Spaces l (w ++ rest) → Apart a rest → Reads (spaced literal_month) l k rest
  unfolding literal_month
  month_read {rest = rest} s e = behind_space s (behind_space (still (month_still rest)) (name_read e) ⟨ named months ⟩ a.found rest)

-- ---- no name

-- a word that the table has neither with a dot nor without one
module _ (ws rest : List ℕ) {l : List ℕ} (s : Spaces l (ws ++ rest)) (h : 0 < length ws) (a : all letter ws ≡ true) (e : letter (head rest) ≡ false) (plainly : lacks months ws ≡ true) (dotted : lacks months (ws ++ (46 ∷ [])) ≡ true) where
  no_name_at : (t : Bool) (r : List ℕ) → rest ≡ r → eqb (head r) 46 ≡ t → Fails literal_month l
  unfolding literal_month
  no_name_at false r z f = behind_space s (word_dot_read false ws h a (λ k. (e, rw z f))) ⟨ named months ⟩! not_named months ws plainly rest
  no_name_at true [] z f = let y : ◌≡◌ {A = ℕ} 0 1 = cc in absurd (omega arith)
  no_name_at true (c ∷ r) z f =
      let d : rest ≡ 46 ∷ r = rw (← eqb-true c 46 f) z in
      let k : Spaces l ((ws ++ (46 ∷ [])) ++ r) = rw (append_assoc ws (46 ∷ []) r, ← d) s in
      let q : true ≡ false → (letter (head r) ≡ false) × (eqb (head r) 46 ≡ false) = λ w. let y : ◌≡◌ {A = ℕ} 0 1 = cc in absurd (omega arith) in
      behind_space k (word_dot_read true ws h a q) ⟨ named months ⟩! not_named months (ws ++ (46 ∷ [])) dotted r

  pub no_name : Fails literal_month l
  no_name = no_name_at (eqb (head rest) 46) rest refl refl

-- the letters in front of a text, and what is left
abbrev pub Letters : List ℕ → Type 0
Letters l = (ws : List ℕ) × (r : List ℕ) × (l ≡ ws ++ r) × (all letter ws ≡ true) × (letter (head r) ≡ false)

pub letters_in : (l : List ℕ) → Letters l
unfolding letter
letters_in [] = ([], [], refl, refl, refl)
letters_in (b ∷ bs) = go (letter b) refl (letters_in bs)
  where
    go : (t : Bool) → letter b ≡ t → Letters bs → Letters (b ∷ bs)
    go true e (ws, r, z, a, f) = (b ∷ ws, r, ap (λ l. b ∷ l) z, both e a, f)
    go false e w = ([], b ∷ bs, refl, refl, e)

-- ---- hyphens and commas

-- a hyphen with a digit behind it; none where another byte stands behind the space
pub hyphen_read : {ds : List ℕ} (rest : List ℕ) → Number ds → Reads hyphen (45 ∷ (ds ++ rest)) tt (ds ++ rest)
unfolding hyphen
hyphen_read rest n = first _ (minus_read rest n)

pub no_hyphen_read : {l m : List ℕ} → Spaces l m → eqb (head m) 45 ≡ false → Reads hyphen l tt l
unfolding hyphen
no_hyphen_read s h = not_behind_space s (byte_else 45 h) or nothing

-- `,` is 44: a comma with a blank behind it
pub comma_read : {l : List ℕ} (b : ℕ) (bs : List ℕ) {rest : List ℕ} → Spaces l (44 ∷ (b ∷ (bs ++ rest))) → all blank (b ∷ bs) ≡ true → blank (head rest) ≡ false → Reads comma l tt rest
unfolding comma multispace1
comma_read b bs s g h = first _ (behind_space s (byte_read 44 ⟨ _ ⟩ (some_read blank (b ∷ bs) (omega arith) g h ⟨ _ ⟩ nothing)))

pub no_comma_read : {l m : List ℕ} → Spaces l m → eqb (head m) 44 ≡ false → Reads comma l tt l
unfolding comma
no_comma_read s h = not_behind_space s (at_once _ (byte_else 44 h)) or nothing

-- ---- day month year, day month

pub day_month_read : {l ds x w y rest : List ℕ} {k : ℕ} {v : Date} → Spaces l (ds ++ x) → Number ds → digit (head x) ≡ false → Spaces x (w ++ y) → (a : Month w k) → Apart a y → YearOrNone hyphen k (decimal ds) y v rest → Reads literal1 l v rest
unfolding literal1 letter
day_month_read {ds = ds} {w = w} {y = y} s n h g a e r =
    let small = year_or_none_small r in
    small_read s n h (omega arith) ⟨ _ ⟩ no_hyphen_read g (other letter (head (w ++ y)) 45 (month_head a y) refl) ⟨ _ ⟩ month_read a g e
    ⟨ (λ m. dated_behind hyphen m (decimal ds)) ⟩ year_or_none r

-- ---- month day year, month day

pub month_day_read : {l w x ds y rest : List ℕ} {k : ℕ} {v : Date} → Spaces l (w ++ x) → (a : Month w k) → Apart a x → Spaces x (ds ++ y) → Number ds → digit (head y) ≡ false → YearOrNone comma k (decimal ds) y v rest → Reads literal2 l v rest
unfolding literal2
month_day_read s a e g n h r = let small = year_or_none_small r in month_read a s e ⟨ _ ⟩ small_read g n h (omega arith) ⟨ _ ⟩ year_or_none r

-- ---- month-day-year

pub month_day_year_read : {l w ds ys rest : List ℕ} {k : ℕ} → Spaces l (w ++ (45 ∷ (ds ++ (45 ∷ (ys ++ rest))))) → Month w k → Number ds → Year ys k (decimal ds) → digit (head rest) ≡ false → Reads literal3 l (in_year ys k (decimal ds)) rest
unfolding literal3 letter digit
month_day_year_read {l} {w} {ds} {ys} {rest} {k} s a n y h =
    let small = day_small _ k (decimal ds) y.there in
    month_read a s (λ z. (refl, refl)) ⟨ _ ⟩ minus_read _ n ⟨ _ ⟩ small_read (here _ n) n refl (omega arith) ⟨ _ ⟩ minus_read _ y.number ⟨ _ ⟩ year_str_read (here rest y.number) y.number h
    ⟨ (λ w. with_year w k (decimal ds)) ⟩ with_year_read y
