-- Theorem: each relative form of 29.7 is read by `parse_item` as exactly its item, and what stands behind it is left. Blanks may stand in
-- front. Assumes nothing.
use native.Mathlib.Omega.{arith}
use borrow.Author.Tests.{ltb-true, not-true}
use Prim.Native.Nat.{ℕ, ◌^◌, ◌<◌, ◌≤◌}
use Prim.Native.String.{String}
use mathlib.Core.Path.{◌≡◌, refl}
use mathlib.Core.List.{List, [], ◌∷◌, ◌++◌, append-nil, Memᴰ}
use mathlib.Core.Bool.{Bool, true, false, ◌&&◌, not, cond}
use lib.ListN.{length}
use lib.Dec.{ltb, eqb}
use lib.IntN.{ℤ, pos}
use Rattle.primitive.specs.Answer.{Reader}
use Rattle.primitive.specs.Text.{bytes, blank, digit, letter}
use Rattle.primitive.specs.Primitive.{spaced, decimal, same, named}
use Rattle.primitive.specs.Epoch.{nanoseconds, lost, sec_and_nsec}
use Rattle.primitive.specs.Ordinal.{signed, ordinals}
use Rattle.dates.specs.Date.{literal_month, months, dotted, parse_non_iso}
use Rattle.times.specs.Time.{meridiem}
use Rattle.relative.specs.Relative.{direction, rounded, second_words, units}
use Rattle.relative.specs.Relative.{parse as parse-relative}
use Rattle.relative.specs.declared.Relative.{Relative}
use Rattle.items.specs.Items.{iso_date, parse_item}
use Rattle.items.specs.declared.Item.TheVariants as item
use Rattle.primitive.proofs.Walk.{Reads, Fails, Spaces, ◌⟨◌⟩!◌, at_once, ◌nor◌, not_behind_space}
use Rattle.primitive.proofs.Leaves.{head, quiet, other, letter_no_digit, blank_no_digit, blanks_head, head_all, plain, number_head, number_still, letter_still, still, blanks, byte_else, sign_of, point_of, seconds_read, fractional_read}
use Rattle.primitive.proofs.Rows.{all, halves, Number}
use Rattle.primitive.proofs.Leaves.{sign_still}
use Rattle.primitive.proofs.WordTables.{every, every_one, lacks}
use Rattle.relative.proofs.Forms.{Word, UnitWord, LongUnit, ordinal_words, plural, turned, sign_no_letter, unsigned_form, signed_form, ordinal_form, bare_form, unsigned_seconds, signed_seconds_item}
use Rattle.times.proofs.Forms.{sign_no_digit, meridiem_else, number_or_fails}
use Rattle.dates.proofs.Forms.{glued, dot_read, here}
use Rattle.dates.proofs.LiteralForms.{no_name}
use Rattle.items.proofs.Forms.{relative_last, no_iso, no_letter_month, no_date, no_time, no_row, number_no_iso1, number_no_dotted, number_no_us, number_no_literal, number_no_date, number_no_time}

-- ---- words that begin no date and no time

-- letters that are no name of a month, with a dot or without one, and begin neither with `a` nor with `p`
pub record OtherWord (w : List ℕ) : Type 0 where
  pub long : 0 < length w
  pub letters : all letter w ≡ true
  pub no_month : lacks months w ≡ true
  pub no_month_dot : lacks months (w ++ (46 ∷ [])) ≡ true
  pub no_a : eqb (head w) 97 ≡ false
  pub no_p : eqb (head w) 112 ≡ false

unfoldable pub tested : List ℕ → Bool
tested w = (ltb 0 (length w) && all letter w) && ((lacks months w && lacks months (w ++ (46 ∷ []))) && (not (eqb (head w) 97) && not (eqb (head w) 112)))

pub other_word : (w : List ℕ) → tested w ≡ true → OtherWord w
unfolding tested
other_word w h =
    let (f, g) = halves (ltb 0 (length w) && all letter w) _ h in
    let (k, i) = halves (lacks months w && lacks months (w ++ (46 ∷ []))) _ g in
    let (long, letters) = halves (ltb 0 (length w)) _ f in
    let (months, dots) = halves (lacks months w) _ k in
    let (a, p) = halves (not (eqb (head w) 97)) _ i in
    record { long = ltb-true 0 (length w) long; letters = letters; no_month = months; no_month_dot = dots; no_a = not-true _ a; no_p = not-true _ p }

-- every unit with and without `s`, and every ordinal word, is one
units_tested : every (λ e. tested (bytes e.0) && tested (bytes e.0 ++ bytes "s")) units ≡ true
unfolding tested lacks months units bytes same letter
units_tested = refl

ordinals_tested : every (λ e. tested (bytes e.0)) ordinals ≡ true
unfolding tested lacks months ordinals bytes same letter
ordinals_tested = refl

pub unit_other : {e : String × (ℤ → Reader Relative)} → Memᴰ e units → (s : Bool) → OtherWord (bytes e.0 ++ plural s)
unit_other {e} m true = other_word _ (halves (tested (bytes e.0)) _ (every_one _ units_tested m)).1
unit_other {e} m false = rw (append-nil (bytes e.0)) (other_word _ (halves (tested (bytes e.0)) _ (every_one _ units_tested m)).0)

pub ordinal_other : {e : String × ℤ} → Memᴰ e ordinals → OtherWord (bytes e.0)
ordinal_other m = other_word _ (every_one _ ordinals_tested m)

-- what holds of the point and of the comma
point_fact : (p : ℕ → Bool) {t : Bool} → p 46 ≡ t → p 44 ≡ t → (comma : Bool) → p (point_of comma) ≡ t
point_fact p f g true = g
point_fact p f g false = f

same_head : (w l : List ℕ) → 0 < length w → head (w ++ l) ≡ head w
same_head [] l h = absurd (omega arith)
same_head (b ∷ bs) l h = refl

-- behind blanks stands such a word, with no letter behind it
module _ (bs : List ℕ) (b : all blank bs ≡ true) {w : List ℕ} (l : List ℕ) (p : OtherWord w) (e : letter (head l) ≡ false) where
  first_letter : letter (head (w ++ l)) ≡ true
  first_letter = head_all letter w l p.long p.letters

  gap : Spaces (bs ++ (w ++ l)) (w ++ l)
  gap = blanks bs b (letter_still first_letter)

  gap_no_digit : digit (head (bs ++ (w ++ l))) ≡ false
  gap_no_digit = blanks_head digit blank_no_digit bs (w ++ l) b (letter_no_digit _ first_letter)

  gap_no_month : Fails (spaced literal_month) (bs ++ (w ++ l))
  gap_no_month = not_behind_space gap (no_name w l (still (letter_still first_letter)) p.long p.letters e p.no_month p.no_month_dot)

  gap_no_meridiem : Fails meridiem (bs ++ (w ++ l))
  gap_no_meridiem = let z = same_head w l p.long in meridiem_else gap (rw z p.no_a) (rw z p.no_p)

  not_mark : (c : ℕ) → letter c ≡ false → eqb (head (w ++ l)) c ≡ false
  not_mark c f = other letter (head (w ++ l)) c first_letter f

  -- a word in front
  pub word_item : {v : Relative} {rest : List ℕ} → Reads parse-relative (bs ++ (w ++ l)) v rest → Reads parse_item (bs ++ (w ++ l)) (item.Relative v) rest
  word_item r =
      let d = letter_no_digit _ first_letter in
      relative_last (no_iso gap d gap_no_digit) (no_date gap d gap_no_month) (no_time gap d) r

  -- Digits that are a date would be read first, where no blank stands in front of them.
  module _ (as' : List ℕ) (a : all blank as' ≡ true) {ds : List ℕ} (n : Number ds) (g : as' ≡ [] → glued ds ≡ false) where
    -- a number in front
    pub number_item : {v : Relative} {rest : List ℕ} → Reads parse-relative (as' ++ (ds ++ (bs ++ (w ++ l)))) v rest → Reads parse_item (as' ++ (ds ++ (bs ++ (w ++ l)))) (item.Relative v) rest
    unfolding iso_date letter
    number_item r =
        let s = blanks as' a (number_still _ n) in
        let d = gap_no_digit in
        relative_last (number_no_iso1 n s d gap (not_mark 45 refl) nor no_row as' _ a n d g) (number_no_date n s d gap (not_mark 45 refl) (not_mark 46 refl) (not_mark 47 refl) gap_no_month)
        (number_no_time n s d gap (not_mark 58 refl) (not_mark 43 refl) (not_mark 45 refl) gap_no_meridiem) r

    -- a number with a fraction in front
    module _ {fs : List ℕ} (f : Number fs) where
      no_dots : (comma : Bool) → Fails dotted (as' ++ (ds ++ (point_of comma ∷ (fs ++ (bs ++ (w ++ l))))))
      unfolding dotted letter digit blank
      no_dots true = number_no_dotted n (blanks as' a (number_still _ n)) refl (still (plain refl)) refl
      no_dots false = number_or_fails 255 _ (blanks as' a (number_still _ n)) n refl (dot_read ⟨ _ ⟩! number_or_fails 255 _ (here _ f) f gap_no_digit (at_once _ (not_behind_space gap (byte_else 46 (not_mark 46 refl)))))

      pub fraction_item : (comma : Bool) {v : Relative} {rest : List ℕ} → Reads parse-relative (as' ++ (ds ++ (point_of comma ∷ (fs ++ (bs ++ (w ++ l)))))) v rest → Reads parse_item (as' ++ (ds ++ (point_of comma ∷ (fs ++ (bs ++ (w ++ l)))))) (item.Relative v) rest
      unfolding iso_date parse_non_iso digit letter blank
      fraction_item comma r =
          let s = blanks as' a (number_still _ n) in
          let d = point_fact digit refl refl comma in
          let q = plain (point_fact quiet refl refl comma) in
          let k = still q in
          let no : (c : ℕ) → eqb 46 c ≡ false → eqb 44 c ≡ false → eqb (point_of comma) c ≡ false = λ c h i. point_fact (λ b. eqb b c) h i comma in
          relative_last (number_no_iso1 n s d k (no 45 refl refl) nor no_row as' _ a n d g)
          (no_dots comma nor number_no_us n s d k (no 47 refl refl) nor number_no_literal n s d k (no 45 refl refl) (no_letter_month k q (point_fact letter refl refl comma)))
          (number_no_time n s d k (no 58 refl refl) (no 43 refl refl) (no 45 refl refl) (meridiem_else k (no 97 refl refl) (no 112 refl refl))) r

-- ---- a sign in front

-- `+` or `-` with a digit behind it
pub signed_item : (as' : List ℕ) → all blank as' ≡ true → (negative : Bool) (x : List ℕ) → digit (head x) ≡ true → {v : Relative} {rest : List ℕ} → Reads parse-relative (as' ++ (sign_of negative ∷ x)) v rest → Reads parse_item (as' ++ (sign_of negative ∷ x)) (item.Relative v) rest
signed_item as' a negative x h r =
    let k = sign_still negative h in
    let s = blanks as' a k in
    let d = sign_no_digit negative in
    relative_last (no_iso s d (blanks_head digit blank_no_digit as' (sign_of negative ∷ x) a d)) (no_date s d (no_letter_month s k (sign_no_letter negative))) (no_time s d) r

-- ---- the items

-- Behind the unit stands no letter, and the direction that is read, or none.
module _ {w : List ℕ} (p : OtherWord w) {f : ℤ → Relative} {given : ℤ → Type 0} {l rest : List ℕ} {ago : Bool} (d : Reads direction l ago rest) (ends : letter (head l) ≡ false) (bs : List ℕ) (b : all blank bs ≡ true) where
  -- `year`, `year ago`, `second`
  pub unit_alone : UnitWord w f given → given (turned ago (pos 1)) → Reads parse_item (bs ++ (w ++ l)) (item.Relative (f (turned ago (pos 1)))) rest
  unit_alone u g = word_item bs b l p ends (bare_form d ends bs b u g)

  module _ (as' : List ℕ) (a : all blank as' ≡ true) where
    -- `last year`: a blank stands between the words
    pub ordinal_and_unit : UnitWord w f given → {o : String × ℤ} → Memᴰ o ordinals → letter (head (bs ++ (w ++ l))) ≡ false → given (turned ago o.1) → Reads parse_item (as' ++ (bytes o.0 ++ (bs ++ (w ++ l)))) (item.Relative (f (turned ago o.1))) rest
    ordinal_and_unit u {o} m e g =
        let q = ordinal_other m in
        word_item as' a _ q e (ordinal_form d ends bs b as' a u (bytes o.0) o.1 (record { long = q.long; letters = q.letters; ends = e }) (ordinal_words m) g)

    -- `3 years`, `-3 years ago`, for every unit but seconds. Digits that are a date would be read first, where no blank stands in front.
    module _ (u : LongUnit w f given) {ds : List ℕ} (n : Number ds) (small : decimal ds ≤ 2147483647) where
      pub number_and_unit : (as' ≡ [] → glued ds ≡ false) → given (turned ago (pos (decimal ds))) → Reads parse_item (as' ++ (ds ++ (bs ++ (w ++ l)))) (item.Relative (f (turned ago (pos (decimal ds))))) rest
      number_and_unit k g = number_item bs b l p ends as' a n k (unsigned_form d ends bs b as' a u n small g)

      pub signed_and_unit : (negative : Bool) → given (turned ago (signed negative (decimal ds))) → Reads parse_item (as' ++ (sign_of negative ∷ (ds ++ (bs ++ (w ++ l))))) (item.Relative (f (turned ago (signed negative (decimal ds))))) rest
      signed_and_unit negative g = signed_item as' a negative _ (number_head _ n) (signed_form d ends bs b as' a u n small negative g)

-- seconds, which may have a fraction; below 2 to the power 63
module _ {w : List ℕ} (t : (m : List ℕ) → Reads (named second_words w) m tt m) (p : OtherWord w) {l rest : List ℕ} {ago : Bool} (d : Reads direction l ago rest) (ends : letter (head l) ≡ false) (bs : List ℕ) (b : all blank bs ≡ true) (as' : List ℕ) (a : all blank as' ≡ true) {ds : List ℕ} (n : Number ds) (small : decimal ds < 2 ^ 63) where
  the_word : Word w l
  the_word = record { long = p.long; letters = p.letters; ends = ends }

  whole : Reads sec_and_nsec (ds ++ (bs ++ (w ++ l))) (record { sec = decimal ds; nsec = 0 }) (bs ++ (w ++ l))
  unfolding blank letter
  whole =
      let no : (c : ℕ) → blank c ≡ false → letter c ≡ false → eqb (head (bs ++ (w ++ l))) c ≡ false = λ c h i. blanks_head (λ k. eqb k c) (λ k g. other blank k c g h) bs (w ++ l) b (not_mark bs b l p ends c i) in
      seconds_read n (omega arith) (gap_no_digit bs b l p ends) (no 46 refl refl) (no 44 refl refl)

  pub seconds : (as' ≡ [] → glued ds ≡ false) → Reads parse_item (as' ++ (ds ++ (bs ++ (w ++ l)))) (item.Relative (rounded (cond ago true false) (record { sec = decimal ds; nsec = 0 }))) rest
  seconds k = number_item bs b l p ends as' a n k (unsigned_seconds the_word d bs b t as' a (number_head _ n) whole small)

  pub signed_seconds : (negative : Bool) → Reads parse_item (as' ++ (sign_of negative ∷ (ds ++ (bs ++ (w ++ l))))) (item.Relative (rounded (cond ago (not negative) negative) (record { sec = decimal ds; nsec = 0 }))) rest
  signed_seconds negative = signed_item as' a negative _ (number_head _ n) (signed_seconds_item the_word d bs b t as' a negative (number_head _ n) whole small)

  module _ (comma : Bool) {fs : List ℕ} (f : Number fs) (kept : lost fs ≡ false) where
    parts : Reads sec_and_nsec (ds ++ (point_of comma ∷ (fs ++ (bs ++ (w ++ l))))) (record { sec = decimal ds; nsec = nanoseconds fs }) (bs ++ (w ++ l))
    parts = fractional_read comma n (omega arith) f kept (gap_no_digit bs b l p ends)

    pub fractional_seconds : (as' ≡ [] → glued ds ≡ false) → Reads parse_item (as' ++ (ds ++ (point_of comma ∷ (fs ++ (bs ++ (w ++ l)))))) (item.Relative (rounded (cond ago true false) (record { sec = decimal ds; nsec = nanoseconds fs }))) rest
    fractional_seconds k = fraction_item bs b l p ends as' a n k f comma (unsigned_seconds the_word d bs b t as' a (number_head _ n) parts small)

    pub signed_fractional_seconds : (negative : Bool) → Reads parse_item (as' ++ (sign_of negative ∷ (ds ++ (point_of comma ∷ (fs ++ (bs ++ (w ++ l))))))) (item.Relative (rounded (cond ago (not negative) negative) (record { sec = decimal ds; nsec = nanoseconds fs }))) rest
    signed_fractional_seconds negative = signed_item as' a negative _ (number_head _ n) (signed_seconds_item the_word d bs b t as' a negative (number_head _ n) parts small)
