-- Which texts are answered with 22, on the calls of hosts: exactly the admitted ones in which one of the first 64 items that the Rust reads
-- loses a digit, at the end of the item before. All others are answered as the Rust reads them: as the same readers answer where lost digits are
-- ignored. Assumes nothing.
use Prim.Native.Nat.{ℕ}
use mathlib.Core.Path.{◌≡◌, refl, ap}
use mathlib.Core.List.{List, [], ◌∷◌}
use mathlib.Core.Bool.{Bool, true, false, cond}
use lib.Dec.{eqb}
use Rattle.answers.specs.Placed.{Placed, fine, refusal, number_of, place_of, ◌>>◌, ◌>>=◌}
use Rattle.extended.specs.declared.ExtendedDateTime.{ExtendedDateTime}
use Rattle.primitive.specs.Text.{lowered}
use Rattle.items.specs.Items.{Parsed, parse_items}
use Rattle.theorems_round_trip.specs.Promises.{Admitted, LosesAt}
use Rattle.theorems_forms.proofs.DroppedItems.{Refused, drops_refused, refused_drops}
use Rattle.builder.specs.Building.{build}
use Rattle.text_tests.specs.Tests.{test_text}
use Rattle.text_tests.proofs.Tests.{base_alone, passed_tested}
use Rattle.text_general.specs.Reading.{items_of, build_parsed, read_parsed, read_text, rust_text}
use Rattle.text_general.proofs.Theorems.{same_text}
use Rattle.host_answers.specs.Hosts.{placed_answer}
use Rattle.host_answers.specs.declared.Answer.{Answer}
use Rattle.host_calls.specs.Given.{record_numbers}
use Rattle.host_calls.specs.Calls.{answer, ReadText}
use Rattle.host_calls.proofs.Numbered.{wider}
use Rattle.theorems_round_trip.proofs.Refusals.{Among, not_among, test_numbered}
use Rattle.theorems_round_trip.proofs.BuildRefusals.{build_among}
use Rattle.theorems_round_trip.proofs.TextRefusals.{tests_among}

-- ---- the items

module _ (base : ExtendedDateTime) where
  parsed_22 : (a : Parsed) (p : ℕ) → Refused a p → build_parsed a base ≡ refusal 22 p
  unfolding build_parsed items_of
  parsed_22 a p h = rw (h.0, h.1) refl

  only_parsed : (a : Parsed) → number_of (build_parsed a base) ≡ 22 → Refused a (place_of (build_parsed a base))
  unfolding build_parsed items_of
  only_parsed a = go (eqb a.number 0)
    where
      go : (t : Bool) → number_of (cond t (fine a.items) (refusal a.number a.place) >>= (λ xs. build [] xs base)) ≡ 22
          → Refused a (place_of (cond t (fine a.items) (refusal a.number a.place) >>= (λ xs. build [] xs base)))
      go true e = absurd (not_among 22 refl (build_among [] a.items base) e)
      go false e = (e, refl)

-- ---- the calls

-- the numbers of the tests before the items
abbrev test_numbers : List ℕ
test_numbers = 1 ∷ (2 ∷ record_numbers)

module _ (text : List ℕ) (base : ExtendedDateTime) where
  text_22 : (p : ℕ) → Admitted text base → LosesAt text p → read_text text base ≡ refusal 22 p
  unfolding read_text read_parsed
  text_22 p h d = rw (base_alone (lowered text) base h.short h.ascii, h.accepted_base) (parsed_22 base (parse_items (lowered text)) p (drops_refused (lowered text) p d))

  only_text : number_of (read_text text base) ≡ 22 → Admitted text base × LosesAt text (place_of (read_text text base))
  unfolding read_text read_parsed
  only_text = go (test_text (lowered text) base) refl (tests_among (lowered text) base (wider test_numbers refl (test_numbered base)) refl refl)
    where
      items : Placed ExtendedDateTime
      items = build_parsed (parse_items (lowered text)) base

      go : (p : Placed (Unit {0})) → test_text (lowered text) base ≡ p → Among test_numbers p → number_of (p >> items) ≡ 22 → Admitted text base × LosesAt text (place_of (p >> items))
      go (fine tt) e a h =
          let t = passed_tested (lowered text) base e in
          (record { accepted_base = t.accepted_base; short = t.short; ascii = t.ascii }, refused_drops (lowered text) _ (only_parsed base (parse_items (lowered text)) h))
      go (refusal n at) e a h = absurd (not_among 22 refl a h)

  -- what `seqtullo_read_text` returns
  abbrev answered : Answer
  answered = answer (ReadText text base)

  -- A text that is admitted, and has such an item at p, is answered with 22 at p, whatever follows the item.
  pub loss_refused : (p : ℕ) → Admitted text base → LosesAt text p → (answered.number ≡ 22) × (answered.place ≡ p)
  unfolding placed_answer
  loss_refused p h d = (ap number_of (text_22 p h d), ap place_of (text_22 p h d))

  -- A text that is not answered with 22 is answered as the Rust's reading has it.
  pub no_loss : (answered.number ≡ 22 → ⊥) → answered ≡ placed_answer (rust_text text base)
  unfolding placed_answer
  no_loss h = ap placed_answer (same_text text base h)

  -- No other text is answered with 22, and the answer's place is that of such an item.
  pub refused_loss : answered.number ≡ 22 → Admitted text base × LosesAt text answered.place
  unfolding placed_answer
  refused_loss e = only_text e
