-- From a reader up to `parse_item`: which readers fail where a number, a letter or neither stands in front, and what an item is where the
-- readers that are tried before its own fail. Assumes nothing.
use native.Mathlib.Omega.{arith}
use Prim.Native.Nat.{ℕ}
use mathlib.Core.Path.{◌≡◌, refl}
use mathlib.Core.List.{List, [], ◌∷◌, ◌++◌}
use mathlib.Core.Bool.{true, false}
use lib.Dec.{eqb}
use Rattle.primitive.specs.Answer.{pure}
use Rattle.primitive.specs.Text.{blank, digit, letter, byte}
use Rattle.primitive.specs.Primitive.{spaced, dec_uint}
use Rattle.dates.specs.Year.{year_str}
use Rattle.dates.specs.Date.{dotted, iso1, iso2, us, word_dot, literal_month, literal1, literal2, literal3, literal, parse_non_iso}
use Rattle.dates.specs.declared.date.Date.{Date}
use Rattle.times.specs.Time.{below, hour24, hour12, hour_offset, clock, iso, meridiem, am_pm_time}
use Rattle.times.specs.Time.{parse as parse-time}
use Rattle.times.specs.declared.time.Time.{Time}
use Rattle.relative.specs.Relative.{parse as parse-relative}
use Rattle.relative.specs.declared.Relative.{Relative}
use Rattle.items.specs.Combined.{parse_time_after_date}
use Rattle.items.specs.Items.{date_time_item, dated_item, iso_date, iso_item, date_item, time_item, relative_item, time_or_relative, other_item, parse_item}
use Rattle.items.specs.declared.Item.TheVariants as item
use Rattle.primitive.proofs.Walk.{Reads, Fails, Spaces, ◌⟨◌⟩◌, ◌⟨◌⟩!◌, at_once, first, ◌or◌, ◌nor◌, nothing, behind_space, not_behind_space, misses}
use Rattle.primitive.proofs.Leaves.{byte_read, head, digit_no_letter, blank_no_digit, Still, still, byte_else, number_head, number_still, number_else, str_else, word_else, colon_else}
use Rattle.primitive.proofs.Rows.{all, halves, Number}
use Rattle.times.proofs.Forms.{number_or_fails, below_or_fails, no_minutes, no_second, no_offset}
use Rattle.dates.proofs.Forms.{here, year_str_read, glued, no_glued_date}
use Rattle.dates.proofs.LiteralForms.{no_hyphen_read}

-- ---- the order of the readers

-- a date of digits, behind which no time stands
pub iso_date_alone : {l rest : List ℕ} {d : Date} → Reads iso_date l d rest → Fails (parse_time_after_date d) rest → Reads parse_item l (item.Date d) rest
unfolding parse_item iso_item dated_item date_time_item
iso_date_alone r f = first other_item (r ⟨ dated_item ⟩ (at_once _ f or nothing))

module _ {l rest : List ℕ} (i : Fails iso_date l) where
  pub other_date : {d : Date} → Reads parse_non_iso l d rest → Reads parse_item l (item.Date d) rest
  unfolding parse_item iso_item other_item date_item
  other_date r = at_once _ i or first time_or_relative (r ⟨ (λ d. pure (item.Date d)) ⟩ nothing)

  module _ (d : Fails parse_non_iso l) where
    pub time_next : {t : Time} → Reads parse-time l t rest → Reads parse_item l (item.Time t) rest
    unfolding parse_item iso_item other_item date_item time_or_relative time_item
    time_next r = at_once _ i or at_once _ d or first relative_item (r ⟨ (λ t. pure (item.Time t)) ⟩ nothing)

    pub relative_last : {v : Relative} → Fails parse-time l → Reads parse-relative l v rest → Reads parse_item l (item.Relative v) rest
    unfolding parse_item iso_item other_item date_item time_or_relative time_item relative_item
    relative_last t r = at_once _ i or at_once _ d or at_once _ t or (r ⟨ (λ v. pure (item.Relative v)) ⟩ nothing)

-- ---- where no digit stands in front

module _ {l m : List ℕ} (s : Spaces l m) (d : digit (head m) ≡ false) where
  pub no_number : (max : ℕ) → Fails (spaced (dec_uint max)) l
  no_number max = not_behind_space s (number_else max d)

  no_year : Fails year_str l
  unfolding year_str
  no_year = not_behind_space s (str_else d)

  -- there is no date but one that begins with a month, and no time
  pub no_iso : digit (head l) ≡ false → Fails iso_date l
  unfolding iso_date iso1 iso2
  no_iso h = search (misses, no_year, str_else)

  pub no_dotted : Fails dotted l
  unfolding dotted
  no_dotted = at_once _ (no_number 255)

  pub no_us : Fails us l
  unfolding us
  no_us = at_once _ no_year

  pub no_literal1 : Fails literal1 l
  unfolding literal1
  no_literal1 = at_once _ (no_number 255)

  pub no_time : Fails parse-time l
  unfolding parse-time am_pm_time hour12 iso hour_offset clock hour24 below
  no_time = search (misses, no_number)

-- no name of a month stands in front
module _ {l : List ℕ} (f : Fails (spaced literal_month) l) where
  pub no_literal2 : Fails literal2 l
  unfolding literal2
  no_literal2 = at_once _ f

  pub no_literal3 : Fails literal3 l
  unfolding literal3
  no_literal3 = at_once _ f

pub no_letter_month : {l m : List ℕ} → Spaces l m → Still m → letter (head m) ≡ false → Fails (spaced literal_month) l
unfolding literal_month word_dot
no_letter_month s k w = not_behind_space s (at_once _ (not_behind_space (still k) (at_once _ (word_else w))))

-- neither a digit nor a name of a month
pub no_date : {l m : List ℕ} → Spaces l m → digit (head m) ≡ false → Fails (spaced literal_month) l → Fails parse_non_iso l
unfolding parse_non_iso literal
no_date s d f = no_dotted s d nor no_us s d nor no_literal1 s d nor no_literal2 f nor no_literal3 f

-- ---- where a number stands in front

-- `20221114` in front, five digits or more that are a date, would be read first. A blank in front of it keeps it from that.
pub no_row : (bs : List ℕ) {ds : List ℕ} (x : List ℕ) → all blank bs ≡ true → Number ds → digit (head x) ≡ false → (bs ≡ [] → glued ds ≡ false) → Fails iso2 (bs ++ (ds ++ x))
unfolding iso2
no_row [] x b n d g = no_glued_date x n d (g refl)
no_row (b ∷ bs) x a n d g = at_once _ (str_else (blank_no_digit b (halves (blank b) (all blank bs) a).0))

-- a number, a hyphen and a number behind which no hyphen stands
pub one_hyphen_no_iso1 : {l ds x ks y : List ℕ} → Number ds → Number ks → Spaces l (ds ++ x) → digit (head x) ≡ false → Spaces x (45 ∷ (ks ++ y)) → digit (head y) ≡ false → Fails (spaced (byte 45)) y → Fails iso1 l
unfolding iso1
one_hyphen_no_iso1 n k s d g h f = year_str_read s n d ⟨ _ ⟩! behind_space g (byte_read 45) ⟨ _ ⟩! number_or_fails 255 _ (here _ k) k h (at_once _ f)

-- behind the space behind the number stands m
module _ {l ds x m : List ℕ} (n : Number ds) (s : Spaces l (ds ++ x)) (d : digit (head x) ≡ false) (k : Spaces x m) where
  mark_else : (c : ℕ) → eqb (head m) c ≡ false → Fails (spaced (byte c)) x
  mark_else c h = not_behind_space k (byte_else c h)

  -- `-` is 45, `.` is 46 and `/` is 47
  pub number_no_iso1 : eqb (head m) 45 ≡ false → Fails iso1 l
  unfolding iso1
  number_no_iso1 h = year_str_read s n d ⟨ _ ⟩! at_once _ (mark_else 45 h)

  pub number_no_dotted : eqb (head m) 46 ≡ false → Fails dotted l
  unfolding dotted
  number_no_dotted h = number_or_fails 255 _ s n d (at_once _ (mark_else 46 h))

  pub number_no_us : eqb (head m) 47 ≡ false → Fails us l
  unfolding us
  number_no_us h = year_str_read s n d ⟨ _ ⟩! at_once _ (mark_else 47 h)

  pub number_no_literal : eqb (head m) 45 ≡ false → Fails (spaced literal_month) x → Fails literal l
  unfolding literal literal1
  number_no_literal h f =
      let e = no_letter_month s (number_still x n) (digit_no_letter _ (number_head x n)) in
      number_or_fails 255 _ s n d (no_hyphen_read k h ⟨ _ ⟩! at_once _ f) nor no_literal2 e nor no_literal3 e

  -- no date where neither of the three marks nor a name of a month follows
  pub number_no_date : eqb (head m) 45 ≡ false → eqb (head m) 46 ≡ false → eqb (head m) 47 ≡ false → Fails (spaced literal_month) x → Fails parse_non_iso l
  unfolding parse_non_iso
  number_no_date h p q f = number_no_dotted p nor number_no_us q nor number_no_literal h f

  -- no time where no colon, no sign, and neither am nor pm follows; `:` is 58
  pub number_no_time : eqb (head m) 58 ≡ false → eqb (head m) 43 ≡ false → eqb (head m) 45 ≡ false → Fails meridiem x → Fails parse-time l
  unfolding parse-time am_pm_time hour12 iso hour_offset clock hour24
  number_no_time c p q a =
      let e = colon_else k c in
      below_or_fails 13 _ (omega arith) s n d (no_minutes (at_once _ e) ⟨ _ ⟩! no_second (at_once _ e) ⟨ _ ⟩! at_once _ a)
      nor below_or_fails 24 _ (omega arith) s n d (at_once _ (no_offset k p q))
      nor below_or_fails 24 _ (omega arith) s n d (at_once _ e)
