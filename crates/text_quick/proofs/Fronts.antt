-- From the quick readers to the items of a text: a date in front, a time behind it or none, and then nothing or a relative item. Assumes
-- nothing.
use native.Mathlib.Omega.{arith}
use Prim.Native.Nat.{ℕ, ◌+◌, ◌<◌, ◌≤◌}
use mathlib.Core.Path.{◌≡◌, refl, ◌∙◌}
use mathlib.Core.Logic.{◌⊎◌, inl, inr}
use mathlib.Core.Bool.{Bool, true, false}
use mathlib.Core.List.{List, [], ◌∷◌, ◌++◌}
use lib.ListN.{length, get_or, drop, length-drop, drop_of_length-le}
use Rattle.std.specs.Prelude.{Option, Some}
use Rattle.times.specs.declared.offset.Offset.{Offset}
use Rattle.primitive.specs.Text.{lower, lowered, blank, digit}
use Rattle.primitive.proofs.Lowered.{length_lowered, get_or_lowered}
use Rattle.primitive.proofs.Rows.{all}
use Rattle.dates.specs.Date.{exists}
use Rattle.items.specs.Combined.{parse_time_after_date}
use Rattle.items.specs.Items.{parse_item, ended, parse_items}
use Rattle.items.specs.declared.Item.{Item}
use Rattle.items.specs.declared.Item.TheVariants as item
use Rattle.primitive.proofs.Walk.{Reads, Fails}
use Rattle.primitive.proofs.Leaves.{head, Still, plain, digit_still, still, blanks}
use Rattle.items.proofs.Forms.{iso_date_alone}
use Rattle.items.proofs.DateTimes.{separator_of, separator_no_digit, combined_item, no_time_behind}
use Rattle.items.proofs.Lists.{no_more_items, one_item}
use Rattle.text_quick.proofs.Places.{byte_there}
use Rattle.text_quick.specs.Days.{day_of, Iso, Other}
use Rattle.text_quick.specs.Clocks.{time_of, zone_small, Clock, HalfDay}
use Rattle.text_quick.specs.Shapes.{day_alone, combined, apart, Shaped, at_midnight, SeparatorAt}
use Rattle.text_quick.specs.declared.Shape.{Shape}

-- ---- one item, two items

module _ {text : List ℕ} (gap l : List ℕ) {v : Item} (k : Still text) (h : 0 < length text) (r : Reads parse_item text v (gap ++ l)) (b : all blank gap ≡ true) where
  pub listed_one : l ≡ [] → parse_items text ≡ ended (v ∷ []) 0 0
  unfolding parse_items blank
  listed_one e = (one_item (still k) h r (no_more_items (rw e (blanks gap b (plain refl))))).lists text 0 refl

  pub listed_two : Still l → 0 < length l → {w : Item} → Reads parse_item (gap ++ l) w [] → parse_items text ≡ ended (v ∷ w ∷ []) 0 0
  unfolding parse_items blank
  listed_two s g a = (one_item (still k) h r (one_item (blanks gap b s) g a (no_more_items (still (plain refl))))).lists text 0 refl

-- the end of a text
past_end : (text : List ℕ) (n : ℕ) → length text ≤ n → drop n text ≡ []
past_end text n h = drop_of_length-le text h

left : (text : List ℕ) (n : ℕ) → n < length text → 0 < length (drop n text)
left text n h = rw (length-drop n text) (omega arith)

-- the hours and minutes of a small offset
pub small_zone : (z : Option Offset) {o : Offset} → z ≡ Some o → zone_small z → (o.hours < 24) × (o.minutes < 60)
small_zone z e a = rw e at a

-- a blank or a `t` that the code saw
pub separator_at : (s : List ℕ) (at b : ℕ) → at < length s → b ≡ lower (get_or s at 0) → (b ≡ 32) ⊎ (b ≡ 116) → SeparatorAt (lowered s) at
separator_at s at b h e k = by k
  where
    seen : (with_t : Bool) → b ≡ separator_of with_t → SeparatorAt (lowered s) at
    seen w f = record { with_t = w; there = let g : at < length (lowered s) = rw (length_lowered s) h in byte_there (lowered s) at g ∙ rw (get_or_lowered s at, ← e, f) }

    by : (b ≡ 32) ⊎ (b ≡ 116) → SeparatorAt (lowered s) at
    by (inl f) = seen false f
    by (inr f) = seen true f

-- ---- an ISO date

module _ {text : List ℕ} {y m d n : ℕ} (a : Iso text y m d n) where
  long : 0 < length text
  long = let e = a.ends in let w = a.within in omega arith

  quiet_front : Still text
  quiet_front = digit_still a.begins

  alone : {l : List ℕ} → exists y m d ≡ true → drop n text ≡ l → digit (head l) ≡ false → Fails (parse_time_after_date (day_of y m d)) l → Reads parse_item text (item.Date (day_of y m d)) l
  alone {l} t e h f =
      let r = a.reads t (rw e h) in
      iso_date_alone (rw e at r) f

  -- with nothing behind it
  pub iso_end : n ≡ length text → Shaped text (at_midnight (record { year = y; month = m; day = d }) n)
  unfolding digit blank
  iso_end e = record {
    front = λ t. record {
      items = (item.Date (day_of y m d)) ∷ [];
      fronts = day_alone refl;
      whole = λ h. listed_one [] [] quiet_front long (alone t (past_end text n h) refl (no_time_behind _ [] [] refl (plain refl) refl refl)) refl refl;
      moved = λ v s. let z = s.there in absurd (omega arith);
    };
  }

  -- with a blank behind it
  pub iso_day : drop n text ≡ 32 ∷ drop (n + 1) text → n + 1 ≤ length text → Shaped text (at_midnight (record { year = y; month = m; day = d }) (n + 1))
  unfolding digit blank
  iso_day e g = record {
    front = λ t. record {
      items = (item.Date (day_of y m d)) ∷ [];
      fronts = day_alone refl;
      whole = λ h.
          let z = past_end text (n + 1) h in
          listed_one (32 ∷ []) (drop (n + 1) text) quiet_front long (alone t e refl (rw z (no_time_behind _ (32 ∷ []) [] refl (plain refl) refl refl))) refl z;
      moved = λ v s. listed_two (32 ∷ []) (drop (n + 1) text) quiet_front long (alone t e refl (s.no_time (day_of y m d))) refl s.still (left text (n + 1) s.there) (s.reads (32 ∷ []) refl);
    };
  }

  -- with a time behind a blank or a `t`
  module _ (p : SeparatorAt text n) {h i s j : ℕ} {z : Option Offset} {k : ℕ} (c : Clock text (n + 1) h i s j z k) where
    abbrev clocked : Shape
    clocked = record { date = record { year = y; month = m; day = d }; time = time_of h i s j z; next = k }

    both : exists y m d ≡ true → Reads parse_item text (item.DateTime (record { date = day_of y m d; time = time_of h i s j z })) (c.gap ++ drop k text)
    both t =
        let w = p.with_t in
        let r = a.reads t (rw p.there (separator_no_digit w)) in
        combined_item w (rw p.there at r) c.begins c.reads

    pub iso_clock : Shaped text clocked
    iso_clock = record {
      front = λ t. record {
        items = (item.DateTime (record { date = day_of y m d; time = time_of h i s j z })) ∷ [];
        fronts = combined;
        whole = λ g. listed_one c.gap (drop k text) quiet_front long (both t) c.blanks (past_end text k g);
        moved = λ v f. listed_two c.gap (drop k text) quiet_front long (both t) c.blanks f.still (left text k f.there) (f.reads c.gap c.blanks);
      };
    }

-- a date that does not end the text
pub iso_inside : (s : List ℕ) {y m d n : ℕ} → Iso (lowered s) y m d n → (n ≡ length s → ⊥) → n < length s
iso_inside s a f = let w = a.within in let e = length_lowered s in omega arith

-- ---- another date

module _ {text : List ℕ} {y m d n : ℕ} (a : Other text y m d n) (long : 0 < length text) where
  pub other_day : Shaped text (at_midnight (record { year = y; month = m; day = d }) n)
  other_day = record {
    front = λ t. record {
      items = (item.Date (day_of y m d)) ∷ [];
      fronts = day_alone refl;
      whole = λ h. listed_one a.gap (drop n text) a.still long (a.reads t) a.blanks (past_end text n h);
      moved = λ v s. listed_two a.gap (drop n text) a.still long (a.reads t) a.blanks s.still (left text n s.there) (s.reads a.gap a.blanks);
    };
  }

  -- with a time that ends the text
  pub other_half : {h i s j : ℕ} {z : Option Offset} {k : ℕ} → HalfDay text n h i s j z k → Shaped text (record { date = record { year = y; month = m; day = d }; time = time_of h i s j z; next = k })
  other_half {h} {i} {s} {j} {z} {k} c = record {
    front = λ t. record {
      items = (item.Date (day_of y m d)) ∷ (item.Time (time_of h i s j z)) ∷ [];
      fronts = apart;
      whole = λ g. listed_two a.gap (drop n text) a.still long (a.reads t) a.blanks (digit_still c.begins) (left text n c.there) (c.reads a.gap a.blanks);
      moved = λ v f. let e = c.ends in let w = f.there in absurd (omega arith);
    };
  }
