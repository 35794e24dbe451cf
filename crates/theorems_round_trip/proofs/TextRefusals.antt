-- Which numbers a text is answered with. A text's items are dates, times and relative items, so that no rule but the one of a second date or
-- time refuses them. Assumes nothing.
use Prim.Native.Nat.{ℕ, zero, suc}
use mathlib.Core.Path.{◌≡◌, refl}
use mathlib.Core.Bool.{Bool, true, false, cond}
use mathlib.Core.List.{List, [], ◌∷◌, ◌++◌}
use lib.Dec.{ltb, eqb}
use lib.ListN.{length}
use Rattle.answers.specs.Numbers as refusal
use Rattle.answers.specs.Outcome.{Outcome, accepted}
use Rattle.extended.specs.Extended.{test}
use Rattle.answers.specs.Placed.{fine, refusal, ◌>>=◌}
use Rattle.extended.specs.declared.ExtendedDateTime.{ExtendedDateTime}
use Rattle.primitive.specs.Answer.{Answer, matched, dropped, none, stop}
use Rattle.primitive.specs.Text.{lowered}
use Rattle.primitive.specs.Primitive.{space}
use Rattle.primitive.proofs.Dropped.{Has, has_next, has_or}
use Rattle.dates.specs.Date.{parse_non_iso}
use Rattle.dates.specs.declared.date.Date.{Date}
use Rattle.relative.specs.Relative as relative
use Rattle.times.specs.Time as times
use Rattle.items.specs.Combined.{parse_time_after_date}
use Rattle.items.specs.Items.{Parsed, ended, further, kept, items_from, date_time_item, dated_item, iso_date, iso_item, date_item, time_item, relative_item, time_or_relative, other_item, parse_item, parse_items}
use Rattle.items.specs.declared.Item.{Item}
use Rattle.items.specs.declared.Item.TheVariants as item
use Rattle.builder.specs.Building.{build}
use Rattle.host_calls.specs.Given.{has, record_numbers, text_numbers}
use Rattle.text_tests.specs.Tests.{test_text}
use Rattle.text_general.specs.Reading.{items_of, build_parsed, read_parsed, read_text}
use Rattle.host_calls.proofs.Numbered.{Numbered, by_number, covers, wider, check_numbered, has_covers}
use Rattle.theorems_round_trip.proofs.Refusals.{Among, a_refusal, step_then, placed_among, among_wider, test_numbered}
use Rattle.theorems_round_trip.proofs.BuildRefusals.{Texted, a_date, a_time, a_date_time, a_relative, AllTexted, no_item, an_item, text_build_among}

-- ---- the items of a text

dated_item_texted : (d : Date) (text : List ℕ) (at : ℕ) → Has Texted (dated_item d text at)
unfolding dated_item date_time_item
dated_item_texted d text at =
    has_or Texted (date_time_item d text at) (matched (item.Date d) at) (has_next Texted (parse_time_after_date d text at) (λ v n. matched (item.DateTime v) n) (λ v n. a_date_time v)) (a_date d)

parse_item_texted : (text : List ℕ) (at : ℕ) → Has Texted (parse_item text at)
unfolding parse_item iso_item other_item date_item time_or_relative time_item relative_item
parse_item_texted text at =
    has_or Texted (iso_item text at) (other_item text at) (has_next Texted (iso_date text at) (λ d n. dated_item d text n) (λ d n. dated_item_texted d text n))
    (has_or Texted (date_item text at) (time_or_relative text at) (has_next Texted (parse_non_iso text at) (λ d n. matched (item.Date d) n) (λ d n. a_date d))
    (has_or Texted (time_item text at) (relative_item text at) (has_next Texted (times.parse text at) (λ t n. matched (item.Time t) n) (λ t n. a_time t))
    (has_next Texted (relative.parse text at) (λ r n. matched (item.Relative r) n) (λ r n. a_relative r))))

one_more : (xs : List Item) (x : Item) → AllTexted xs → Texted x → AllTexted (xs ++ (x ∷ []))
one_more [] x no_item t = an_item t no_item
one_more (y ∷ xs) x (an_item s a) t = an_item s (one_more xs x a t)

-- the numbers that the reading of a text's items ends with where it is refused
abbrev pub reading_numbers : List ℕ
reading_numbers = refusal.oversize ∷ (refusal.unread ∷ (refusal.stopped ∷ (refusal.fraction ∷ [])))

pub record Reading (p : Parsed) : Type 0 where
  pub number : has (0 ∷ reading_numbers) p.number ≡ true
  pub texted : AllTexted p.items

reading : (room : ℕ) (xs : List Item) (text : List ℕ) (at : ℕ) → AllTexted xs → Reading (items_from parse_item room xs text at)
unfolding items_from
reading zero xs text at a = go (ltb (space text at) (length text)) (kept (parse_item text at))
  where
    go : (t : Bool) (p : Answer Item) → Reading (cond t (further p xs at (λ v n. ended xs 1 0)) (ended xs 0 0))
    go true (matched v n) = record { number = refl; texted = a }
    go true (dropped v n) = record { number = refl; texted = a }
    go true none = record { number = refl; texted = a }
    go true stop = record { number = refl; texted = a }
    go false p = record { number = refl; texted = a }
reading (suc room) xs text at a = go (λ v n t. reading room (xs ++ (v ∷ [])) text n (one_more xs v a t)) (ltb (space text at) (length text)) (parse_item text at) (parse_item_texted text at)
  where
    go : ((v : Item) (n : ℕ) → Texted v → Reading (items_from parse_item room (xs ++ (v ∷ [])) text n)) → (t : Bool) (p : Answer Item) → Has Texted p →
        Reading (cond t (further p xs at (λ v n. items_from parse_item room (xs ++ (v ∷ [])) text n)) (ended xs 0 0))
    go f true (matched v n) h = f v n h
    go f true (dropped v n) h = record { number = refl; texted = a }
    go f true none h = record { number = refl; texted = a }
    go f true stop h = record { number = refl; texted = a }
    go f false p h = record { number = refl; texted = a }

-- The items of a text are read, or refused with one of these numbers.
pub reading_text : (text : List ℕ) → Reading (parse_items text)
unfolding parse_items
reading_text text = reading 64 [] text 0 no_item

parsed_among : (p : Parsed) (base : ExtendedDateTime) → Reading p → Among text_numbers (build_parsed p base)
unfolding build_parsed items_of
parsed_among p base h = go (eqb p.number 0) refl
  where
    go : (t : Bool) → eqb p.number 0 ≡ t → Among text_numbers (cond t (fine p.items) (refusal p.number p.place) >>= (λ xs. build [] xs base))
    go true e = among_wider text_numbers refl (text_build_among [] p.items base h.texted)
    go false e = a_refusal p.number p.place (has_covers reading_numbers text_numbers p.number refl (rw e at h.number))

items_among : (text : List ℕ) (base : ExtendedDateTime) → Among text_numbers (build_parsed (parse_items text) base)
items_among text base = parsed_among (parse_items text) base (reading_text text)

-- the tests before the items, by the numbers of the base's test
pub tests_among : {g : List ℕ} (text : List ℕ) (base : ExtendedDateTime) → Numbered g (test base) → has g refusal.oversize ≡ true → has g refusal.foreign ≡ true → Among g (test_text text base)
unfolding test_text
tests_among text base n one two = step_then (placed_among 0 n) (step_then (placed_among 0 (check_numbered _ 1 one)) (placed_among _ (check_numbered _ 2 two)))

-- Whatever the text and the base: the answer's number is 0 or one of these.
pub text_among : (text : List ℕ) (base : ExtendedDateTime) → Among text_numbers (read_text text base)
unfolding read_text read_parsed
text_among text base = step_then (tests_among (lowered text) base (wider text_numbers refl (test_numbered base)) refl refl) (items_among (lowered text) base)

-- A base that is refused gives its own refusal, so it is enough to bound the answers under an accepted one.
pub any_base : (g : List ℕ) → covers record_numbers g ≡ true → (text : List ℕ) (base : ExtendedDateTime) → (test base ≡ accepted tt → Among g (read_text text base)) → Among g (read_text text base)
unfolding read_text read_parsed test_text
any_base g c text base h = go (test base) refl (test_numbered base)
  where
    go : (o : Outcome (Unit {0})) → test base ≡ o → Numbered record_numbers o → Among g (read_text text base)
    go (accepted u) e n = h e
    go o e (by_number k f) = rw e (a_refusal k 0 (has_covers record_numbers g k c f))
