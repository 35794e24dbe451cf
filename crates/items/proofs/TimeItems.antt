-- Theorem: each time form of 29.3 is read by `parse_item` as exactly its time, and what stands behind it is left. Blanks may stand in front.
-- Assumes nothing.
use Rattle.std.specs.Prelude.{Option, None, cond}
use Rattle.primitive.specs.declared.SecAndNsec.{SecAndNsec}
use Rattle.times.specs.declared.offset.Offset.{Offset}
use native.Mathlib.Omega.{arith}
use Prim.Native.Nat.{ℕ, ◌+◌, ◌%◌, ◌<◌, ◌≤◌}
use mathlib.Core.Path.{◌≡◌, refl}
use mathlib.Core.List.{List, [], ◌∷◌, ◌++◌}
use mathlib.Core.Bool.{Bool, true, false}
use lib.Dec.{eqb}
use Rattle.primitive.specs.Text.{bytes, blank, digit, letter}
use Rattle.primitive.specs.Primitive.{spaced, decimal, same}
use Rattle.dates.specs.Date.{literal_month, months, parse_non_iso}
use Rattle.times.specs.Time.{optional_second, optional_correction, meridiem}
use Rattle.items.specs.Items.{iso_date, parse_item}
use Rattle.items.specs.declared.Item.TheVariants as item
use Rattle.primitive.proofs.Walk.{Reads, Fails, Spaces, at_once, ◌nor◌, not_behind_space}
use Rattle.primitive.proofs.Leaves.{head, other, letter_no_digit, blank_no_digit, blanks_head, plain, letter_still, colon_else, number_still, still, blanks}
use Rattle.primitive.proofs.Rows.{all, Number}
use Rattle.primitive.proofs.WordTables.{lacks}
use Rattle.times.proofs.Forms.{clock_item, half_day_item, minutes_given, no_minutes, no_second, meridiem_of, meridiem_read}
use Rattle.dates.proofs.Forms.{small_no_date}
use Rattle.dates.proofs.LiteralForms.{no_name, letters_in}
use Rattle.items.proofs.Forms.{time_next, no_letter_month, no_row, number_no_iso1, number_no_date}

-- no date where behind a number below 100 neither of the three marks nor a name of a month stands
module _ (bs : List ℕ) (b : all blank bs ≡ true) {ds x m : List ℕ} (n : Number ds) (small : decimal ds < 100) (d : digit (head x) ≡ false) (k : Spaces x m) (h : eqb (head m) 45 ≡ false) (p : eqb (head m) 46 ≡ false) (q : eqb (head m) 47 ≡ false) (f : Fails (spaced literal_month) x) where
  no_dates : Fails iso_date (bs ++ (ds ++ x)) × Fails parse_non_iso (bs ++ (ds ++ x))
  unfolding iso_date
  no_dates =
      let s = blanks bs b (number_still x n) in
      (number_no_iso1 n s d k h nor no_row bs x b n d (λ z. small_no_date ds small), number_no_date n s d k h p q f)

no_dates_colon : (bs : List ℕ) → all blank bs ≡ true → {hs : List ℕ} (x : List ℕ) → Number hs → decimal hs < 100 → Fails iso_date (bs ++ (hs ++ (58 ∷ x))) × Fails parse_non_iso (bs ++ (hs ++ (58 ∷ x)))
unfolding digit letter blank
no_dates_colon bs b x h s = no_dates bs b h s refl (still (plain refl)) refl refl refl (no_letter_month (still (plain refl)) (plain refl) refl)

-- ---- am and pm

meridiem_letter : (pm dots : Bool) (rest : List ℕ) → letter (head (meridiem_of pm dots ++ rest)) ≡ true
unfolding bytes letter
meridiem_letter false false rest = refl
meridiem_letter false true rest = refl
meridiem_letter true false rest = refl
meridiem_letter true true rest = refl

module _ (bs : List ℕ) (b : all blank bs ≡ true) where
  -- whatever letters stand behind them, no name of a month begins so
  no_name_here : (pm dots : Bool) (rest : List ℕ) → Fails (spaced literal_month) (bs ++ (meridiem_of pm dots ++ rest))
  unfolding bytes blank letter lacks months same
  no_name_here false false rest = let (ws, r, e, a, f) = letters_in rest in rw e (not_behind_space (blanks bs b (plain refl)) (no_name (97 ∷ (109 ∷ ws)) r (still (plain refl)) (omega arith) a f refl refl))
  no_name_here false true rest = not_behind_space (blanks bs b (plain refl)) (no_name (97 ∷ []) _ (still (plain refl)) (omega arith) refl refl refl refl)
  no_name_here true false rest = let (ws, r, e, a, f) = letters_in rest in rw e (not_behind_space (blanks bs b (plain refl)) (no_name (112 ∷ (109 ∷ ws)) r (still (plain refl)) (omega arith) a f refl refl))
  no_name_here true true rest = not_behind_space (blanks bs b (plain refl)) (no_name (112 ∷ []) _ (still (plain refl)) (omega arith) refl refl refl refl)

-- ---- the items

module _ (bs : List ℕ) (b : all blank bs ≡ true) {hs ms l m' rest : List ℕ} (h : Number hs) (m : Number ms) where
  -- `20:02`, `20:02:00.5`, each with a correction or without one. Behind the minutes stands no digit, and behind the seconds, where the hour
  -- is 12 at most, neither am nor pm.
  pub time_24 : decimal hs < 24 → decimal ms < 60 → digit (head l) ≡ false → {v : SecAndNsec ℕ} → Reads optional_second l v m' → {o : Option Offset} → Reads optional_correction m' o rest → (decimal hs ≤ 12 → Fails meridiem m')
      → Reads parse_item (bs ++ (hs ++ (58 ∷ (ms ++ l)))) (item.Time (record { hour = decimal hs; minute = decimal ms; second = v.sec; nanosecond = v.nsec; offset = o })) rest
  time_24 hour minute d s c a =
      let f = no_dates_colon bs b (ms ++ l) h (omega arith) in
      time_next f.0 f.1 (clock_item (blanks bs b (number_still _ h)) h m hour minute d s c a)

  -- `8:02pm`, `8:02:00.5 p.m.`
  pub time_12 : 0 < decimal hs → decimal hs ≤ 12 → decimal ms < 60 → digit (head l) ≡ false → {v : SecAndNsec ℕ} → Reads optional_second l v m' → {pm : Bool} → Reads meridiem m' pm rest
      → Reads parse_item (bs ++ (hs ++ (58 ∷ (ms ++ l)))) (item.Time (record { hour = decimal hs % 12 + cond pm 12 0; minute = decimal ms; second = v.sec; nanosecond = v.nsec; offset = None })) rest
  unfolding digit
  time_12 some_hour hour minute d s a =
      let f = no_dates_colon bs b (ms ++ l) h (omega arith) in
      time_next f.0 f.1 (half_day_item (blanks bs b (number_still _ h)) h some_hour hour refl (minutes_given m d minute) s a)

-- `8pm`, `8 p.m.`
pub hour_12 : (bs : List ℕ) → all blank bs ≡ true → {hs : List ℕ} → Number hs → 0 < decimal hs → decimal hs ≤ 12 → (cs : List ℕ) → all blank cs ≡ true → (pm dots : Bool) {rest : List ℕ}
    → Reads parse_item (bs ++ (hs ++ (cs ++ (meridiem_of pm dots ++ rest)))) (item.Time (record { hour = decimal hs % 12 + cond pm 12 0; minute = 0; second = 0; nanosecond = 0; offset = None })) rest
unfolding letter
hour_12 bs b {hs} h some_hour hour cs c pm dots {rest} =
    let a = meridiem_letter pm dots rest in
    let no : (n : ℕ) → letter n ≡ false → eqb (head (meridiem_of pm dots ++ rest)) n ≡ false = λ n f. other letter (head (meridiem_of pm dots ++ rest)) n a f in
    let k = blanks cs c (letter_still a) in
    let d = blanks_head digit blank_no_digit cs (meridiem_of pm dots ++ rest) c (letter_no_digit _ a) in
    let f = no_dates bs b h (omega arith) d k (no 45 refl) (no 46 refl) (no 47 refl) (no_name_here cs c pm dots rest) in
    let e = colon_else k (no 58 refl) in
    time_next f.0 f.1 (half_day_item (blanks bs b (number_still _ h)) h some_hour hour d (no_minutes (at_once _ e)) (no_second (at_once _ e)) (meridiem_read cs c pm dots))
