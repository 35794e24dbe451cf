-- A written record's text, alone and with seconds behind it, read under any base. Assumes nothing.
use Rattle.items.specs.declared.Item.{Item}
use native.Mathlib.Omega.{arith}
use borrow.Author.Tests.{leb-true, lt-ltb}
use native.Mathlib.Nat.{zero-add}
use Prim.Native.Nat.{ℕ, ◌^◌, ◌<◌, ◌≤◌}
use mathlib.Core.Path.{◌≡◌, ◌∙◌}
use mathlib.Core.Bool.{Bool, true, false}
use mathlib.Core.List.{List, [], ◌∷◌, ◌++◌}
use lib.Dec.{ltb, leb}
use lib.ListN.{length, length-append}
use Rattle.answers.specs.Outcome.{accepted}
use Rattle.extended.specs.Extended.{test, add_seconds}
use Rattle.extended.specs.declared.ExtendedDateTime.{ExtendedDateTime}
use Rattle.extended.proofs.Records.{facts}
use Rattle.primitive.specs.Text.{lowered, bytes, digit, run, past}
use Rattle.primitive.specs.Ordinal.{signed}
use Rattle.primitive.proofs.Rows.{all, halves, run_all}
use Rattle.relative.specs.declared.Relative.TheVariants.{Seconds}
use Rattle.items.specs.Items.{ended, parse_items}
use Rattle.items.specs.declared.Item.TheVariants as item
use Rattle.items.proofs.TwoItems.{shift_text, one_item_text, two_items_text, both_lowered}
use Rattle.answers.specs.Placed.{fine, placed}
use Rattle.builder.specs.Building.{build}
use Rattle.writer.specs.Writer.{digits, whole_minutes, text_of}
use Rattle.writer.proofs.Digits.{all_join, all_also, digits_value, digits_number, digits_length, width_most}
use Rattle.writer.proofs.Texts.{text_long, text_ascii, text_lowered}
use Rattle.text_tests.specs.Tests.{ascii, ascii_end}
use Rattle.text_tests.proofs.Tests.{base_alone}
use Rattle.text_general.specs.Reading.{items_of, build_parsed, read_parsed, read_text}
use Rattle.theorems_round_trip.proofs.Written.{digits_of, text_is, both_of, sound, item_is}
use Rattle.theorems_round_trip.proofs.Built.{built_alone, built_moved}

-- a blank, the sign, N in decimal without leading zeros, a blank and `seconds`; true is minus
unfoldable pub shift : Bool → ℕ → List ℕ
shift minus n = shift_text minus (digits n)

-- ---- its bytes

-- the bytes below 128 end where the text does
ascii_all : (l : List ℕ) → all (λ b. ltb b 128) l ≡ true → ascii_end l ≡ length l
unfolding ascii_end past ascii
ascii_all l h = zero-add (run (λ b. ltb b 128) l) ∙ run_all (λ b. ltb b 128) l h

digit_ascii : (b : ℕ) → digit b ≡ true → ltb b 128 ≡ true
unfolding digit
digit_ascii b h = let k = leb-true b 57 (halves (leb 48 b) (leb b 57) h).1 in lt-ltb b 128 (omega arith)

shift_ascii : (minus : Bool) (n : ℕ) → all (λ b. ltb b 128) (shift minus n) ≡ true
unfolding shift bytes
shift_ascii true n = simp (all_join, all_also digit (λ b. ltb b 128) digit_ascii (digits n) (digits_number n).digits)
shift_ascii false n = simp (all_join, all_also digit (λ b. ltb b 128) digit_ascii (digits n) (digits_number n).digits)

shift_length : (minus : Bool) (n : ℕ) → n < 2 ^ 63 → length (shift minus n) ≤ 40
unfolding shift bytes
shift_length minus n h = simp (length-append, digits_length) (omega (arith, width_most n 19 (omega arith) (omega arith)))

-- ---- reading

-- a text that passes the first tests is read by its items
passes : (l : List ℕ) (base : ExtendedDateTime) (xs : List Item) → test base ≡ accepted tt → lowered l ≡ l → length l ≤ 4096 → all (λ b. ltb b 128) l ≡ true → parse_items l ≡ ended xs 0 0 → read_text l base ≡ build [] xs base
unfolding read_text read_parsed build_parsed items_of
passes l base xs tb low short small read = rw (low, base_alone l base short (omega (arith, ascii_all l small)), tb, read)

module _ (base r : ExtendedDateTime) (tb : test base ≡ accepted tt) (tr : test r ≡ accepted tt) (whole : whole_minutes r.offset_seconds ≡ true) where
  pub read_alone : read_text (text_of r) base ≡ fine r
  read_alone =
      passes (text_of r) base (item.DateTime (both_of r) ∷ []) tb (text_lowered r) (omega (arith, text_long r (facts r tr))) (text_ascii r)
      (rw (text_is r, ← item_is r tr) (one_item_text (digits_of r) (sound r tr)))
      ∙ built_alone base r tb tr whole

  short : (minus : Bool) (n : ℕ) → n < 2 ^ 63 → length (text_of r ++ shift minus n) ≤ 4096
  short minus n h = simp length-append (omega (arith, text_long r (facts r tr), shift_length minus n h))

  small : (minus : Bool) (n : ℕ) → all (λ b. ltb b 128) (text_of r ++ shift minus n) ≡ true
  small minus n = simp (all_join, text_ascii r, shift_ascii minus n)

  pub read_moved : (minus : Bool) (n : ℕ) → n < 2 ^ 63 → read_text (text_of r ++ shift minus n) base ≡ placed 0 (add_seconds r (signed minus n) 0)
  unfolding shift
  read_moved minus n h =
      passes (text_of r ++ shift minus n) base (item.DateTime (both_of r) ∷ item.Relative (Seconds (signed minus n) 0) ∷ []) tb
      (rw (text_is r) (both_lowered (digits_of r) (sound r tr) minus (digits_number n)))
      (short minus n h)
      (small minus n)
      (rw (text_is r, ← item_is r tr) (rw (digits_value n) at (two_items_text (digits_of r) (sound r tr) minus (digits_number n) (rw (digits_value n) h))))
      ∙ built_moved base r tb tr whole (signed minus n)
