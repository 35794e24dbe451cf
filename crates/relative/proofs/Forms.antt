-- Each written form of 29.7 is read as exactly its item, up to what stands behind it. A number is any row of digits with a value in
-- range; blanks may stand between the tokens. What may stand behind the item is a premise: no letter at once, and no word of
-- direction where none is meant. Assumes nothing.
use native.Mathlib.Omega.{arith}
use borrow.Author.Tests.{lt-ltb, ltb-true}
use Prim.Native.Nat.{ℕ, ◌^◌, ◌<◌, ◌≤◌}
use Prim.Native.String.{String}
use mathlib.Core.Path.{◌≡◌, refl}
use mathlib.Core.List.{List, [], ◌∷◌, ◌++◌, Memᴰ}
use mathlib.Core.Bool.{Bool, true, false, not, cond, ◌&&◌}
use lib.ListN.{length}
use lib.Dec.{eqb, ltb}
use lib.IntN.{ℤ, pos, neg_ℤ, ◌*ℤ◌}
use lib.Signed.{mag}
use Rattle.primitive.specs.Answer.{optional, pure}
use Rattle.primitive.specs.Text.{bytes, blank, digit, letter, starts, quoted}
use Rattle.primitive.specs.Primitive.{spaced, decimal, sign, same, named}
use Rattle.primitive.specs.Epoch.{sec_and_nsec}
use Rattle.primitive.specs.Ordinal.{signed, ordinals, text_ordinal, signed_number, number_ordinal, ordinal}
use Rattle.primitive.specs.declared.SecAndNsec.{SecAndNsec}
use Rattle.primitive.proofs.Walk.{Reads, Fails, Spaces, ◌⟨◌⟩◌, ◌⟨◌⟩!◌, at_once, first, ◌or◌, ◌nor◌, nothing, verified, behind_space, not_behind_space}
use Rattle.primitive.proofs.Leaves.{head, blanks_head, letter_no_digit, digit_no_letter, blank_no_digit, other, head_all, tag_read, tag_else, other_start, word_read, word_else, number_read, number_else, number_head, digit_still, number_still, seconds_read, seconds_else, word_still, blanks, still, sign_of, sign_here, no_sign_here, sign_read, sign_else}
use Rattle.primitive.proofs.Rows.{all, halves, Number}
use Rattle.primitive.proofs.Leaves.{sign_still}
use Rattle.primitive.proofs.WordTables.{lacks, not_named, distinct, table_read}
use Rattle.relative.specs.Relative.{direction, rounded, second_words, second_word, signed_seconds, seconds, days, units, stripped, in_unit, displaced, displacement, parse}
use Rattle.relative.specs.declared.Relative.{Relative}
use Rattle.relative.specs.declared.Relative.TheVariants.{Years, Months, Days, Hours, Minutes, Seconds}

-- ---- directions

pub ago_read : (bs : List ℕ) {rest : List ℕ} → all blank bs ≡ true → Reads direction (bs ++ (bytes "ago" ++ rest)) true rest
unfolding direction bytes letter
ago_read bs {rest} b =
    first _ (first _ (behind_space (blanks bs b (word_still (bytes "ago") rest (omega arith) refl)) (tag_read (bytes "ago")) ⟨ _ ⟩ nothing))

pub hence_read : (bs : List ℕ) {rest : List ℕ} → all blank bs ≡ true → Reads direction (bs ++ (bytes "hence" ++ rest)) false rest
unfolding direction bytes letter starts
hence_read bs {rest} b =
    first _ (at_once _ (not_behind_space (blanks bs b (word_still (bytes "hence") rest (omega arith) refl)) (tag_else (bytes "ago") refl))
    or (behind_space (blanks bs b (word_still (bytes "hence") rest (omega arith) refl)) (tag_read (bytes "hence")) ⟨ _ ⟩ nothing))

-- no direction, where neither word stands
pub none_read : {rest : List ℕ} → Fails (spaced (quoted "ago")) rest → Fails (spaced (quoted "hence")) rest → Reads direction rest false rest
unfolding direction
none_read a h = (at_once _ a nor at_once _ h) or nothing

-- nor where neither an `a` nor an `h` stands behind the space
pub no_direction : {l m : List ℕ} → Spaces l m → eqb (head m) 97 ≡ false → eqb (head m) 104 ≡ false → Reads direction l false l
unfolding bytes
no_direction {m = m} s a h = none_read (not_behind_space s (tag_else _ (other_start 97 _ m a))) (not_behind_space s (tag_else _ (other_start 104 _ m h)))

-- ---- ordinals

number_other : {ds : List ℕ} (l : List ℕ) (c : ℕ) → Number ds → digit c ≡ false → eqb (head (ds ++ l)) c ≡ false
number_other {ds} l c n g = other digit (head (ds ++ l)) c (number_head l n) g

sign_given : (negative : Bool) {m : List ℕ} → Reads (optional false sign) (sign_of negative ∷ m) negative m
sign_given negative = first (pure false) (sign_here negative)

sign_missing : {m : List ℕ} → eqb (head m) 43 ≡ false → eqb (head m) 45 ≡ false → Reads (optional false sign) m false m
sign_missing g h = no_sign_here g h or nothing

signed_number_read : (negative : Bool) {ds rest : List ℕ} → Number ds → decimal ds ≤ 2147483647 → digit (head rest) ≡ false → Reads (signed_number negative) (ds ++ rest) (signed negative (decimal ds)) rest
unfolding signed_number
signed_number_read negative {ds} {rest} n small h = behind_space (still (number_still rest n)) (number_read n small h) ⟨ (λ k. pure (signed negative k)) ⟩ nothing

no_text_ordinal : {l m : List ℕ} → Spaces l m → letter (head m) ≡ false → Fails text_ordinal l
unfolding text_ordinal
no_text_ordinal s h = at_once _ (not_behind_space s (word_else h))

pub sign_no_letter : (negative : Bool) → letter (sign_of negative) ≡ false
unfolding letter
sign_no_letter true = refl
sign_no_letter false = refl

module _ (as' : List ℕ) (a : all blank as' ≡ true) {ds rest : List ℕ} (n : Number ds) (small : decimal ds ≤ 2147483647) (h : digit (head rest) ≡ false) where
  unsigned_ordinal : Reads ordinal (as' ++ (ds ++ rest)) (pos (decimal ds)) rest
  unfolding ordinal number_ordinal signed digit
  unsigned_ordinal =
      no_text_ordinal (blanks as' a (number_still rest n)) (digit_no_letter _ (number_head rest n))
      or (behind_space (blanks as' a (number_still rest n)) (sign_missing (number_other rest 43 n refl) (number_other rest 45 n refl))
      ⟨ signed_number ⟩ signed_number_read false n small h)

  signed_ordinal : (negative : Bool) → Reads ordinal (as' ++ (sign_of negative ∷ (ds ++ rest))) (signed negative (decimal ds)) rest
  unfolding ordinal number_ordinal
  signed_ordinal negative =
      no_text_ordinal (blanks as' a (sign_still negative (number_head rest n))) (sign_no_letter negative)
      or (behind_space (blanks as' a (sign_still negative (number_head rest n))) (sign_given negative) ⟨ signed_number ⟩ signed_number_read negative n small h)

-- ---- a word, and a direction behind it

-- a word, and what stands behind it
pub record Word (w l : List ℕ) : Type 0 where
  pub long : 0 < length w
  pub letters : all letter w ≡ true
  pub ends : letter (head l) ≡ false

-- where a word stands, there are no seconds
no_seconds_word : {w l x : List ℕ} → Spaces x (w ++ l) → Word w l → Fails seconds x
unfolding seconds signed_seconds letter
no_seconds_word {w} {l} s k =
    (sign_else s (other letter (head (w ++ l)) 43 (head_all letter w l k.long k.letters) refl) (other letter (head (w ++ l)) 45 (head_all letter w l k.long k.letters) refl) or nothing)
    ⟨ signed_seconds ⟩! at_once _ (not_behind_space s (seconds_else (letter_no_digit _ (head_all letter w l k.long k.letters))))

module _ {w l rest : List ℕ} (word : Word w l) {ago : Bool} (d : Reads direction l ago rest) where
  module _ (bs : List ℕ) (b : all blank bs ≡ true) where
    gap : Spaces (bs ++ (w ++ l)) (w ++ l)
    gap = blanks bs b (word_still w l word.long word.letters)

    no_digit_next : digit (head (bs ++ (w ++ l))) ≡ false
    no_digit_next = blanks_head digit blank_no_digit bs (w ++ l) b (letter_no_digit _ (head_all letter w l word.long word.letters))

    displaced_read : (n : ℤ) {v : Relative} → ((m : List ℕ) → Reads (in_unit (cond ago (neg_ℤ n) n) w) m v m) → Reads (displaced n) (bs ++ (w ++ l)) v rest
    unfolding displaced
    displaced_read n u = behind_space gap (word_read w word.long word.letters word.ends) ⟨ _ ⟩ d ⟨ _ ⟩ u rest

    -- a number in front: `3 years`, `-3 years ago`
    module _ (as' : List ℕ) (a : all blank as' ≡ true) {ds : List ℕ} (n : Number ds) (small : decimal ds ≤ 2147483647) where
      pub unsigned_read : {v : Relative} → ((m : List ℕ) → Reads (in_unit (cond ago (neg_ℤ (pos (decimal ds))) (pos (decimal ds))) w) m v m) → Reads displacement (as' ++ (ds ++ (bs ++ (w ++ l)))) v rest
      unfolding displacement
      unsigned_read u = first (pure (pos 1)) (unsigned_ordinal as' a n small no_digit_next) ⟨ displaced ⟩ displaced_read (pos (decimal ds)) u

      pub signed_read : (negative : Bool) {v : Relative} → ((m : List ℕ) → Reads (in_unit (cond ago (neg_ℤ (signed negative (decimal ds))) (signed negative (decimal ds))) w) m v m) → Reads displacement (as' ++ (sign_of negative ∷ (ds ++ (bs ++ (w ++ l))))) v rest
      unfolding displacement
      signed_read negative u = first (pure (pos 1)) (signed_ordinal as' a n small no_digit_next negative) ⟨ displaced ⟩ displaced_read (signed negative (decimal ds)) u

    word_other : (c : ℕ) → letter c ≡ false → eqb (head (w ++ l)) c ≡ false
    word_other c g = other letter (head (w ++ l)) c (head_all letter w l word.long word.letters) g

    no_ordinal : ((m : List ℕ) → Fails (named ordinals w) m) → Fails ordinal (bs ++ (w ++ l))
    unfolding ordinal text_ordinal number_ordinal signed_number letter
    no_ordinal o =
        (behind_space gap (word_read w word.long word.letters word.ends) ⟨ named ordinals ⟩! o l)
        nor (behind_space gap (sign_missing (word_other 43 refl) (word_other 45 refl))
        ⟨ signed_number ⟩! at_once _ (not_behind_space (still (word_still w l word.long word.letters)) (number_else 2147483647 (letter_no_digit _ (head_all letter w l word.long word.letters)))))

    -- no number: `year`
    pub bare_read : ((m : List ℕ) → Fails (named ordinals w) m) → {v : Relative} → ((m : List ℕ) → Reads (in_unit (cond ago (neg_ℤ (pos 1)) (pos 1)) w) m v m) → Reads displacement (bs ++ (w ++ l)) v rest
    unfolding displacement
    bare_read o u = (no_ordinal o or nothing) ⟨ displaced ⟩ displaced_read (pos 1) u

    -- an ordinal word: `last year`
    pub ordinal_read : (as' : List ℕ) → all blank as' ≡ true → (o : List ℕ) (n : ℤ) → Word o (bs ++ (w ++ l)) → ((m : List ℕ) → Reads (named ordinals o) m n m) → {v : Relative} → ((m : List ℕ) → Reads (in_unit (cond ago (neg_ℤ n) n) w) m v m) → Reads displacement (as' ++ (o ++ (bs ++ (w ++ l)))) v rest
    unfolding displacement ordinal text_ordinal
    ordinal_read as' a o n k t u =
        first (pure (pos 1))
        (first number_ordinal
        (behind_space (blanks as' a (word_still o (bs ++ (w ++ l)) k.long k.letters)) (word_read o k.long k.letters k.ends) ⟨ named ordinals ⟩ t (bs ++ (w ++ l))))
        ⟨ displaced ⟩ displaced_read n u

    -- seconds
    module _ (t : (m : List ℕ) → Reads (named second_words w) m tt m) where
      second_word_read : Reads second_word (bs ++ (w ++ l)) tt l
      unfolding second_word
      second_word_read = behind_space gap (word_read w word.long word.letters word.ends) ⟨ named second_words ⟩ t l

      module _ (as' : List ℕ) (a : all blank as' ≡ true) {x : List ℕ} (h : digit (head x) ≡ true) {v : SecAndNsec ℕ} (r : Reads sec_and_nsec x v (bs ++ (w ++ l))) (small : v.sec < 2 ^ 63) where
        signed_seconds_read : (negative : Bool) → Reads (signed_seconds negative) (as' ++ x) (rounded (cond ago (not negative) negative) v) rest
        unfolding signed_seconds
        signed_seconds_read negative = behind_space (blanks as' a (digit_still h)) r ⟨ _ ⟩ second_word_read ⟨ _ ⟩ d ⟨ _ ⟩ verified (lt-ltb v.sec (2 ^ 63) small)

        -- seconds without a sign: `1.5 seconds ago`
        pub unsigned_seconds : Reads parse (as' ++ x) (rounded (cond ago true false) v) rest
        unfolding parse seconds digit
        unsigned_seconds =
            first displacement
            ((sign_else (blanks as' a (digit_still h)) (other digit (head x) 43 h refl) (other digit (head x) 45 h refl) or nothing)
            ⟨ signed_seconds ⟩ signed_seconds_read false)

      -- seconds with a sign: `-0.25 sec`
      pub signed_seconds_item : (as' : List ℕ) → all blank as' ≡ true → (negative : Bool) {x : List ℕ} → digit (head x) ≡ true → {v : SecAndNsec ℕ} → Reads sec_and_nsec x v (bs ++ (w ++ l)) → v.sec < 2 ^ 63
          → Reads parse (as' ++ (sign_of negative ∷ x)) (rounded (cond ago (not negative) negative) v) rest
      unfolding parse seconds
      signed_seconds_item as' a negative {x} h r small =
          first displacement
          (first (pure false) (sign_read negative (blanks as' a (sign_still negative h)))
          ⟨ signed_seconds ⟩ signed_seconds_read [] refl h r small negative)

    -- other units are no seconds, so that `parse` reads them as a displacement
    module _ (t : (m : List ℕ) → Fails (named second_words w) m) where
      no_second_word : Fails second_word (bs ++ (w ++ l))
      unfolding second_word
      no_second_word = behind_space gap (word_read w word.long word.letters word.ends) ⟨ named second_words ⟩! t l

      no_point : (c : ℕ) → blank c ≡ false → letter c ≡ false → eqb (head (bs ++ (w ++ l))) c ≡ false
      no_point c f g = blanks_head (λ b. eqb b c) (λ b h. other blank b c h f) bs (w ++ l) b (other letter _ c (head_all letter w l word.long word.letters) g)

      module _ (as' : List ℕ) (a : all blank as' ≡ true) {ds : List ℕ} (n : Number ds) (small : decimal ds ≤ 2147483647) where
        no_signed_seconds : (negative : Bool) → Fails (signed_seconds negative) (as' ++ (ds ++ (bs ++ (w ++ l))))
        unfolding signed_seconds blank letter
        no_signed_seconds negative =
            behind_space (blanks as' a (number_still (bs ++ (w ++ l)) n)) (seconds_read n (omega arith) no_digit_next (no_point 46 refl refl) (no_point 44 refl refl)) ⟨ _ ⟩! at_once _ no_second_word

        pub unsigned_item : {v : Relative} → ((m : List ℕ) → Reads (in_unit (cond ago (neg_ℤ (pos (decimal ds))) (pos (decimal ds))) w) m v m) → Reads parse (as' ++ (ds ++ (bs ++ (w ++ l)))) v rest
        unfolding parse seconds digit
        unsigned_item u =
            ((sign_else (blanks as' a (number_still (bs ++ (w ++ l)) n)) (number_other (bs ++ (w ++ l)) 43 n refl) (number_other (bs ++ (w ++ l)) 45 n refl) or nothing)
            ⟨ signed_seconds ⟩! no_signed_seconds false)
            or unsigned_read as' a n small u

      pub signed_item : (as' : List ℕ) → all blank as' ≡ true → {ds : List ℕ} → Number ds → decimal ds ≤ 2147483647 → (negative : Bool) {v : Relative} → ((m : List ℕ) → Reads (in_unit (cond ago (neg_ℤ (signed negative (decimal ds))) (signed negative (decimal ds))) w) m v m) → Reads parse (as' ++ (sign_of negative ∷ (ds ++ (bs ++ (w ++ l))))) v rest
      unfolding parse seconds
      signed_item as' a {ds} n small negative u =
          (first (pure false) (sign_read negative (blanks as' a (sign_still negative (number_head (bs ++ (w ++ l)) n)))) ⟨ signed_seconds ⟩! no_signed_seconds [] refl n small negative)
          or signed_read as' a n small negative u

    -- a word in front is no seconds
    pub bare_item : ((m : List ℕ) → Fails (named ordinals w) m) → {v : Relative} → ((m : List ℕ) → Reads (in_unit (cond ago (neg_ℤ (pos 1)) (pos 1)) w) m v m) → Reads parse (bs ++ (w ++ l)) v rest
    unfolding parse
    bare_item o u = no_seconds_word gap word or bare_read o u

    pub ordinal_item : (as' : List ℕ) → all blank as' ≡ true → (o : List ℕ) (n : ℤ) → Word o (bs ++ (w ++ l)) → ((m : List ℕ) → Reads (named ordinals o) m n m) → {v : Relative} → ((m : List ℕ) → Reads (in_unit (cond ago (neg_ℤ n) n) w) m v m) → Reads parse (as' ++ (o ++ (bs ++ (w ++ l)))) v rest
    unfolding parse
    ordinal_item as' a o n k t u = no_seconds_word (blanks as' a (word_still o (bs ++ (w ++ l)) k.long k.letters)) k or ordinal_read as' a o n k t u

-- ---- the units, with and without `s`

-- the bytes of a plural's `s`, or none
abbrev pub plural : Bool → List ℕ
plural true = bytes "s"
plural false = []

-- ---- the words for seconds, and those that are no seconds and no ordinals

pub second_unit : (s : Bool) (m : List ℕ) → Reads (named second_words (bytes "second" ++ plural s)) m tt m
unfolding second_words named same bytes
second_unit true m = nothing
second_unit false m = nothing

pub sec_unit : (s : Bool) (m : List ℕ) → Reads (named second_words (bytes "sec" ++ plural s)) m tt m
unfolding second_words named same bytes
sec_unit true m = nothing
sec_unit false m = nothing

-- ---- every unit in every form

-- a word for a unit: what it makes of a number n, where n is one that it can be given
pub record UnitWord (w : List ℕ) (f : ℤ → Relative) (given : ℤ → Type 0) : Type 0 where
  pub long : 0 < length w
  pub letters : all letter w ≡ true
  pub no_ordinal : lacks ordinals w ≡ true
  pub unit : (n : ℤ) → given n → (m : List ℕ) → Reads (in_unit n w) m (f n) m

-- one that is no word for seconds, which are read otherwise behind a number
pub record LongUnit (w : List ℕ) (f : ℤ → Relative) (given : ℤ → Type 0) : Type 0 where
  pub word : UnitWord w f given
  pub no_seconds : lacks second_words w ≡ true

given_word : {w : List ℕ} {f : ℤ → Relative} {given : ℤ → Type 0} → ltb 0 (length w) && (all letter w && lacks ordinals w) ≡ true
    → ((n : ℤ) → given n → (m : List ℕ) → Reads (in_unit n w) m (f n) m) → UnitWord w f given
given_word {w} h u =
    let a = halves (ltb 0 (length w)) _ h in
    let b = halves (all letter w) _ a.1 in
    record { long = ltb-true 0 (length w) a.0; letters = b.0; no_ordinal = b.1; unit = u }

long_word : {w : List ℕ} {f : ℤ → Relative} {given : ℤ → Type 0} → lacks second_words w && (ltb 0 (length w) && (all letter w && lacks ordinals w)) ≡ true
    → ((n : ℤ) → given n → (m : List ℕ) → Reads (in_unit n w) m (f n) m) → LongUnit w f given
long_word {w} h u = let a = halves (lacks second_words w) _ h in record { word = given_word a.1 u; no_seconds = a.0 }

days_read : (k : ℕ) (n : ℤ) → mag (n *ℤ pos k) < 2 ^ 31 → (m : List ℕ) → Reads (days k n) m (Days (n *ℤ pos k)) m
unfolding days
days_read k n g m = verified (lt-ltb (mag (n *ℤ pos k)) (2 ^ 31) g)

pub year_word : (s : Bool) → LongUnit (bytes "year" ++ plural s) Years (λ n. Unit {0})
unfolding lacks second_words ordinals in_unit units named same stripped bytes letter
year_word true = long_word refl (λ n g m. nothing)
year_word false = long_word refl (λ n g m. nothing)

pub month_word : (s : Bool) → LongUnit (bytes "month" ++ plural s) Months (λ n. Unit {0})
unfolding lacks second_words ordinals in_unit units named same stripped bytes letter
month_word true = long_word refl (λ n g m. nothing)
month_word false = long_word refl (λ n g m. nothing)

pub day_word : (s : Bool) → LongUnit (bytes "day" ++ plural s) Days (λ n. Unit {0})
unfolding lacks second_words ordinals in_unit units named same stripped bytes letter
day_word true = long_word refl (λ n g m. nothing)
day_word false = long_word refl (λ n g m. nothing)

pub hour_word : (s : Bool) → LongUnit (bytes "hour" ++ plural s) Hours (λ n. Unit {0})
unfolding lacks second_words ordinals in_unit units named same stripped bytes letter
hour_word true = long_word refl (λ n g m. nothing)
hour_word false = long_word refl (λ n g m. nothing)

pub minute_word : (s : Bool) → LongUnit (bytes "minute" ++ plural s) Minutes (λ n. Unit {0})
unfolding lacks second_words ordinals in_unit units named same stripped bytes letter
minute_word true = long_word refl (λ n g m. nothing)
minute_word false = long_word refl (λ n g m. nothing)

pub min_word : (s : Bool) → LongUnit (bytes "min" ++ plural s) Minutes (λ n. Unit {0})
unfolding lacks second_words ordinals in_unit units named same stripped bytes letter
min_word true = long_word refl (λ n g m. nothing)
min_word false = long_word refl (λ n g m. nothing)

-- weeks and fortnights, where an i32 holds their days
pub week_word : (s : Bool) → LongUnit (bytes "week" ++ plural s) (λ n. Days (n *ℤ pos 7)) (λ n. mag (n *ℤ pos 7) < 2 ^ 31)
unfolding lacks second_words ordinals in_unit units named same stripped bytes letter
week_word true = long_word refl (days_read 7)
week_word false = long_word refl (days_read 7)

pub fortnight_word : (s : Bool) → LongUnit (bytes "fortnight" ++ plural s) (λ n. Days (n *ℤ pos 14)) (λ n. mag (n *ℤ pos 14) < 2 ^ 31)
unfolding lacks second_words ordinals in_unit units named same stripped bytes letter
fortnight_word true = long_word refl (days_read 14)
fortnight_word false = long_word refl (days_read 14)

pub second_unit_word : (s : Bool) → UnitWord (bytes "second" ++ plural s) (λ n. Seconds n 0) (λ n. Unit {0})
unfolding lacks ordinals in_unit units named same stripped bytes letter
second_unit_word true = given_word refl (λ n g m. nothing)
second_unit_word false = given_word refl (λ n g m. nothing)

pub sec_unit_word : (s : Bool) → UnitWord (bytes "sec" ++ plural s) (λ n. Seconds n 0) (λ n. Unit {0})
unfolding lacks ordinals in_unit units named same stripped bytes letter
sec_unit_word true = given_word refl (λ n g m. nothing)
sec_unit_word false = given_word refl (λ n g m. nothing)

-- the number with its direction
abbrev pub turned : Bool → ℤ → ℤ
turned ago n = cond ago (neg_ℤ n) n

-- `year`, `last year ago`, `second`: a unit alone or behind an ordinal word, and a direction
module _ {w : List ℕ} {f : ℤ → Relative} {given : ℤ → Type 0} {l rest : List ℕ} {ago : Bool} (d : Reads direction l ago rest) (ends : letter (head l) ≡ false) (bs : List ℕ) (b : all blank bs ≡ true) where
  the_word : UnitWord w f given → Word w l
  the_word u = record { long = u.long; letters = u.letters; ends = ends }

  pub bare_form : UnitWord w f given → given (turned ago (pos 1)) → Reads parse (bs ++ (w ++ l)) (f (turned ago (pos 1))) rest
  bare_form u g = bare_item (the_word u) d bs b (not_named ordinals w u.no_ordinal) (u.unit _ g)

  module _ (as' : List ℕ) (a : all blank as' ≡ true) where
    pub ordinal_form : UnitWord w f given → (o : List ℕ) (n : ℤ) → Word o (bs ++ (w ++ l)) → ((m : List ℕ) → Reads (named ordinals o) m n m) → given (turned ago n) → Reads parse (as' ++ (o ++ (bs ++ (w ++ l)))) (f (turned ago n)) rest
    ordinal_form u o n k t g = ordinal_item (the_word u) d bs b as' a o n k t (u.unit _ g)

    -- `3 years`, `-3 years ago`: a number, blanks, a unit that is no second, and a direction
    module _ (u : LongUnit w f given) {ds : List ℕ} (n : Number ds) (small : decimal ds ≤ 2147483647) where
      pub unsigned_form : given (turned ago (pos (decimal ds))) → Reads parse (as' ++ (ds ++ (bs ++ (w ++ l)))) (f (turned ago (pos (decimal ds)))) rest
      unsigned_form g = unsigned_item (the_word u.word) d bs b (not_named second_words w u.no_seconds) as' a n small (u.word.unit _ g)

      pub signed_form : (negative : Bool) → given (turned ago (signed negative (decimal ds))) → Reads parse (as' ++ (sign_of negative ∷ (ds ++ (bs ++ (w ++ l))))) (f (turned ago (signed negative (decimal ds)))) rest
      signed_form negative g = signed_item (the_word u.word) d bs b (not_named second_words w u.no_seconds) as' a n small negative (u.word.unit _ g)

-- 29.1: the ordinal words, each of the table
pub ordinal_words : {e : String × ℤ} → Memᴰ e ordinals → (m : List ℕ) → Reads (named ordinals (bytes e.0)) m e.1 m
unfolding distinct ordinals same bytes
ordinal_words = table_read ordinals refl
