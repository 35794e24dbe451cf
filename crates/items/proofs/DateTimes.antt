-- Theorem: the combined form of 29.5 is read as exactly its date and time: a date of digits, a `t` or one blank, an ISO time behind which
-- neither am nor pm stands; the Rust reads a time in 12 hours too. Assumes nothing.
use native.Mathlib.Omega.{arith}
use Prim.Native.Nat.{ℕ}
use mathlib.Core.Path.{◌≡◌, refl, ap}
use mathlib.Core.List.{List, [], ◌∷◌, ◌++◌}
use borrow.Author.Tests.{eqb-true}
use mathlib.Core.Bool.{Bool, true, false, not}
use lib.ListN.{length}
use lib.Dec.{eqb}
use Rattle.primitive.specs.Answer.{Reader, pure}
use Rattle.primitive.specs.Text.{bytes, blank, digit, byte, starts}
use Rattle.primitive.specs.Primitive.{space, spaced, decimal}
use Rattle.dates.specs.Date.{iso1}
use Rattle.dates.specs.declared.date.Date.{Date}
use Rattle.times.specs.Offset.{unless}
use Rattle.times.specs.Time.{below, hour24, hour_offset, clock, iso, parse}
use Rattle.times.specs.declared.time.Time.{Time}
use Rattle.items.specs.Combined.{attempt, skip_space, separator, meridiem_word, starts_with_meridiem, unless_meridiem, iso_alone, combined_time, parse_time_after_date}
use Rattle.items.specs.Items.{date_time_item, dated_item, iso_date, iso_item, other_item, parse_item}
use Rattle.items.specs.declared.Item.TheVariants as item
use Rattle.primitive.proofs.Walk.{Reads, Fails, Spaces, ◌⟨◌⟩◌, ◌⟨◌⟩!◌, at_once, first, ◌or◌, ◌nor◌, nothing, not_behind_space, behind_space}
use Rattle.primitive.proofs.Leaves.{head, number_still, Still, still_no_blank, other, plain, digit_still, still, blanks, blanks_read, other_start, tag_read, tag_else, colon_else, byte_read, byte_else}
use Rattle.primitive.proofs.Rows.{all, halves, Number}
use Rattle.times.proofs.Forms.{unless_read, below_or_fails, no_offset, meridiem_of}
use Rattle.dates.proofs.Forms.{Year, in_year, iso1_read, row_number, iso2_read}
use Rattle.items.proofs.Forms.{no_number, no_time, number_no_iso1}

-- ---- the separator

-- `t` is 116
abbrev pub separator_of : Bool → ℕ
separator_of true = 116
separator_of false = 32

over_space : {l m : List ℕ} → Spaces l m → Reads skip_space l tt m
over_space s = record { reads = λ text at e. (space text at, refl, s.spaces text at e) }

pub separator_read : (t : Bool) {x : List ℕ} → digit (head x) ≡ true → Reads separator (separator_of t ∷ x) tt x
unfolding separator blank digit
separator_read true h = first _ (behind_space (still (plain refl)) (byte_read 116))
separator_read false {x} h =
    not_behind_space (blanks (32 ∷ []) refl (digit_still h)) (byte_else 116 (other digit (head x) 116 h refl))
    or (byte_read 32 ⟨ _ ⟩ over_space (still (digit_still h)))

-- ---- am and pm

-- behind blanks stands neither an `a` nor a `p`
pub no_meridiem : (bs l : List ℕ) → all blank bs ≡ true → blank (head l) ≡ false → eqb (head l) 97 ≡ false → eqb (head l) 112 ≡ false → Fails starts_with_meridiem (bs ++ l)
unfolding starts_with_meridiem meridiem_word bytes
no_meridiem bs l b k a p =
    blanks_read bs b k
    ⟨ _ ⟩! (tag_else _ (other_start 97 _ l a) nor tag_else _ (other_start 112 _ l p) nor tag_else _ (other_start 97 _ l a) nor tag_else _ (other_start 112 _ l p))

-- ---- the item

attempt_read : {A : Type 0} {p : Reader A} {l : List ℕ} {v : A} {m : List ℕ} → Reads p l v m → Reads (attempt p) l v m
attempt_read a = record { reads = λ text at e. let (n, h, k) = a.reads text at e in (n, rw h, k) }

not_attempted : {A : Type 0} {p : Reader A} {l : List ℕ} → Fails p l → Fails (attempt p) l
not_attempted a = record { fails = λ text at e. rw (a.fails text at e) }

module _ {x rest : List ℕ} {t : Time} where
  -- an ISO time, behind which neither am nor pm stands
  pub iso_time : Reads iso x t rest → Fails starts_with_meridiem rest → Reads combined_time x t rest
  unfolding combined_time iso_alone unless_meridiem
  iso_time r m = first parse (attempt_read (r ⟨ unless_meridiem ⟩ unless_read m nothing))

  -- any other time, where there is no ISO time or am or pm stands behind it
  pub other_time : Fails iso_alone x → Reads parse x t rest → Reads combined_time x t rest
  unfolding combined_time
  other_time f r = not_attempted f or r

not_beside : {A B : Type 0} {p : Reader A} (q : Reader B) {l m : List ℕ} {v : A} → Reads p l v m → Fails (unless p q) l
not_beside q a = record { fails = λ text at e. let (n, h, k) = a.reads text at e in rw h }

-- `10:02 pm`, and `10pm`
pub meridiem_behind : {x m rest : List ℕ} {t : Time} → Reads iso x t m → Reads starts_with_meridiem m tt rest → Fails iso_alone x
unfolding iso_alone unless_meridiem
meridiem_behind {t = t} r s = r ⟨ unless_meridiem ⟩! not_beside (pure t) s

pub hour_alone : {x hs y m : List ℕ} → Number hs → Spaces x (hs ++ y) → digit (head y) ≡ false → Spaces y m → eqb (head m) 58 ≡ false → eqb (head m) 43 ≡ false → eqb (head m) 45 ≡ false → Fails iso_alone x
unfolding iso_alone iso hour_offset clock hour24
hour_alone h s d k c p q = at_once _ (below_or_fails 24 _ (omega arith) s h d (at_once _ (no_offset k p q)) nor below_or_fails 24 _ (omega arith) s h d (at_once _ (colon_else k c)))

module _ (bs : List ℕ) (b : all blank bs ≡ true) {rest : List ℕ} where
  pub meridiem_there : (pm dots : Bool) → Reads starts_with_meridiem (bs ++ (meridiem_of pm dots ++ rest)) tt rest
  unfolding starts_with_meridiem meridiem_word bytes blank starts
  meridiem_there false false = blanks_read bs b refl ⟨ _ ⟩ first _ (tag_read (bytes "am"))
  meridiem_there true false = blanks_read bs b refl ⟨ _ ⟩ (tag_else _ refl or first _ (tag_read (bytes "pm")))
  meridiem_there false true = blanks_read bs b refl ⟨ _ ⟩ (tag_else _ refl or tag_else _ refl or first _ (tag_read (bytes "a.m.")))
  meridiem_there true true = blanks_read bs b refl ⟨ _ ⟩ (tag_else _ refl or tag_else _ refl or tag_else _ refl or tag_read (bytes "p.m."))

module _ {l x rest : List ℕ} {d : Date} {t : Time} (with_t : Bool) (date : Reads iso_date l d (separator_of with_t ∷ x)) (h : digit (head x) ≡ true) (time : Reads combined_time x t rest) where
  time_after_date_read : Reads (parse_time_after_date d) (separator_of with_t ∷ x) (record { date = d; time = t }) rest
  unfolding parse_time_after_date
  time_after_date_read = separator_read with_t h ⟨ _ ⟩ time ⟨ (λ u. pure (record { date = d; time = u })) ⟩ nothing

  pub combined_item : Reads parse_item l (item.DateTime (record { date = d; time = t })) rest
  unfolding parse_item iso_item dated_item date_time_item
  combined_item = first other_item (date ⟨ dated_item ⟩ first _ (time_after_date_read ⟨ (λ v. pure (item.DateTime v)) ⟩ nothing))

pub separator_no_digit : (with_t : Bool) → digit (separator_of with_t) ≡ false
unfolding digit
separator_no_digit true = refl
separator_no_digit false = refl

-- both dates of digits: `2022-11-14T10:00`, `20221114 10:00`
module _ {x rest : List ℕ} {t : Time} (with_t : Bool) (h : digit (head x) ≡ true) (time : Reads combined_time x t rest) where
  pub combined_hyphens : (bs : List ℕ) → all blank bs ≡ true → {ys ms ds : List ℕ} → Number ms → Number ds → Year ys (decimal ms) (decimal ds)
      → Reads parse_item (bs ++ (ys ++ (45 ∷ (ms ++ (45 ∷ (ds ++ (separator_of with_t ∷ x))))))) (item.DateTime (record { date = in_year ys (decimal ms) (decimal ds); time = t })) rest
  unfolding iso_date
  combined_hyphens bs b k d a = combined_item with_t (first _ (iso1_read (blanks bs b (number_still _ a.number)) k d a (separator_no_digit with_t))) h time

  no_hyphen : (w : Bool) (l : List ℕ) → Number l → Fails iso1 (l ++ (separator_of w ∷ x))
  unfolding digit blank
  no_hyphen true l n = number_no_iso1 n (still (number_still _ n)) refl (still (plain refl)) refl
  no_hyphen false l n = number_no_iso1 n (still (number_still _ n)) refl (blanks (32 ∷ []) refl (digit_still h)) (other digit (head x) 45 h refl)

  pub combined_row : (ys ms ds : List ℕ) → length ms ≡ 2 → length ds ≡ 2 → Number ms → Number ds → Year ys (decimal ms) (decimal ds)
      → Reads parse_item ((ys ++ (ms ++ ds)) ++ (separator_of with_t ∷ x)) (item.DateTime (record { date = in_year ys (decimal ms) (decimal ds); time = t })) rest
  unfolding iso_date
  combined_row ys ms ds two two' k d a =
      combined_item with_t (no_hyphen with_t (ys ++ (ms ++ ds)) (row_number ys ms ds two two' a.number k d) or iso2_read ys ms ds two two' k d a (separator_no_digit with_t)) h time

-- ---- no time behind a date

no_combined_time : {l m : List ℕ} → Spaces l m → digit (head m) ≡ false → Fails combined_time l
unfolding combined_time iso_alone iso hour_offset clock hour24 below
no_combined_time s d = not_attempted (at_once _ (at_once _ (at_once _ (no_number s d 255)) nor at_once _ (at_once _ (no_number s d 255)))) nor no_time s d

module _ (d : Date) where
  -- behind blanks, or none, neither a digit nor a `t`
  pub no_time_behind : (bs l : List ℕ) → all blank bs ≡ true → Still l → digit (head l) ≡ false → eqb (head l) 116 ≡ false → Fails (parse_time_after_date d) (bs ++ l)
  unfolding parse_time_after_date separator blank
  no_time_behind [] l b k h t = at_once _ (not_behind_space (still k) (byte_else 116 t) nor at_once _ (byte_else 32 (other (λ c. not (blank c)) (head l) 32 (ap not (still_no_blank k)) refl)))
  no_time_behind (c ∷ bs) l b k h t = go (eqb c 32) refl
    where
      no_t : Fails (spaced (byte 116)) (c ∷ (bs ++ l))
      no_t = not_behind_space (blanks (c ∷ bs) b k) (byte_else 116 t)

      go : (e : Bool) → eqb c 32 ≡ e → Fails (parse_time_after_date d) (c ∷ (bs ++ l))
      go true e =
          let z = eqb-true c 32 e in
          let r : Reads (byte 32) (c ∷ (bs ++ l)) tt (bs ++ l) = rw z (byte_read 32) in
          (no_t or (r ⟨ _ ⟩ over_space (blanks bs (halves (blank c) (all blank bs) b).1 k))) ⟨ _ ⟩! at_once _ (no_combined_time (still k) h)
      go false e = at_once _ (no_t nor at_once _ (byte_else 32 e))

  -- a `t` behind blanks, and no digit behind it: `third day`
  pub no_time_behind_t : (bs : List ℕ) {l m : List ℕ} → all blank bs ≡ true → Spaces l m → digit (head m) ≡ false → Fails (parse_time_after_date d) (bs ++ (116 ∷ l))
  unfolding parse_time_after_date separator blank
  no_time_behind_t bs b s h = first _ (behind_space (blanks bs b (plain refl)) (byte_read 116)) ⟨ _ ⟩! at_once _ (no_combined_time s h)
