-- Which items lose a digit: `parse_item` answers `dropped` if and only if the item's fraction has a digit other than `0` after the ninth.
-- Where the Rust reads an item, `parse_item` reads the same one, and says so if it loses a digit. Assumes nothing.
use Prim.Native.Nat.{ℕ}
use mathlib.Core.Path.{◌≡◌, refl, sym, ap, ◌∙◌}
use mathlib.Core.List.{List}
use mathlib.Core.Bool.{Bool, true, false}
use Rattle.primitive.specs.Answer.{Answer, matched, dropped, none, stop, drops, carry}
use Rattle.primitive.specs.Epoch.{lost}
use Rattle.primitive.proofs.Lowered.{clash}
use Rattle.times.specs.Offset.{without}
use Rattle.times.specs.Time as time
use Rattle.times.specs.declared.time.Time.{Time}
use Rattle.relative.specs.Relative as relative
use Rattle.items.specs.Combined.{unstopped, starts_with_meridiem, unless_meridiem, iso_alone, combined_time, parse_time_after_date}
use Rattle.items.specs.Items.{date_time_item, dated_item, iso_item, date_item, time_item, relative_item, time_or_relative, other_item, parse_item, kept, rust_item}
use Rattle.items.specs.declared.Item.{Item}
use Rattle.items.specs.declared.Item.TheVariants as item
use Rattle.theorems_forms.specs.Fractions.{clock_fraction, dated_fraction, no_fraction, fraction_of, Loses}
use Rattle.theorems_forms.proofs.Undropped.{whole_pure, whole_unless, not_none, not_stop, carried_same, either, from_rest, from_first}
use Rattle.theorems_forms.proofs.WholeReaders.{iso_date_whole, separator_whole, parse_non_iso_whole}
use Rattle.theorems_forms.proofs.Fractions.{Told, some_digits, no_digits, none_told, lost_place, place_lost}
use Rattle.theorems_forms.proofs.TimesFractions.{iso_told, time_told}
use Rattle.theorems_forms.proofs.RelativeFractions.{relative_told}

-- ---- a date with a time

unstopped_answer : {A : Type 0} (a : Answer A) (d : Bool) (v : A) (n : ℕ) → unstopped a ≡ carry d (matched v n) → a ≡ carry d (matched v n)
unstopped_answer (matched u m) d v n e = e
unstopped_answer (dropped u m) d v n e = e
unstopped_answer none d v n e = e
unstopped_answer stop d v n e = absurd (not_none d v n e)

without_end : {A B : Type 0} (a : Answer A) (u v : B) (m n : ℕ) → without a (matched u m) ≡ matched v n → m ≡ n
without_end (matched w k) u v m n e = absurd (not_none false v n e)
without_end (dropped w k) u v m n e = absurd (not_none false v n e)
without_end none u v m n e = cc
without_end stop u v m n e = cc

module _ (text : List ℕ) (at : ℕ) (d : Bool) where
  combined_told : (t : Time) (n : ℕ) → combined_time text at ≡ carry d (matched t n) → Told (clock_fraction text at) n d
  unfolding combined_time iso_alone unless_meridiem
  combined_told t n e =
      either (unstopped (iso_alone text at)) (time.parse text at) d t n e
      (λ e. from_first (time.iso text at) text (λ u. whole_unless starts_with_meridiem (whole_pure u)) d t n (unstopped_answer (iso_alone text at) d t n e)
      λ u m p e. let z = without_end (starts_with_meridiem text m) u t m n e in
      rw (← z) (iso_told text at d u m p))
      λ o. time_told text at d t n

-- ---- items

module _ (text : List ℕ) (at : ℕ) (d : Bool) (v : Item) (n : ℕ) where
  iso_item_told : iso_item text at ≡ carry d (matched v n) → Told (fraction_of v text at) n d
  unfolding iso_item dated_item date_time_item parse_time_after_date fraction_of dated_fraction no_fraction
  iso_item_told e =
      from_rest iso_date_whole text at _ d v n e
      λ day m p e. either (date_time_item day text m) (matched (item.Date day) m) d v n e
      (λ e. from_first (parse_time_after_date day text m) text (λ u. whole_pure _) d v n e
      λ u k q e. from_rest separator_whole text m _ d u k q
      λ s i r f. from_first (combined_time text i) text (λ t. whole_pure _) d u k f
      λ t j g f.
      let z : item.DateTime u ≡ v = cc in
      let y : j ≡ n = cc in
      rw (← z, p, r, ← y) (combined_told text i d t j g))
      λ o e. let (a, z, c) = carried_same false d (item.Date day) v m n e in
      rw (← z) (none_told none n d refl (sym a))

  other_item_told : other_item text at ≡ carry d (matched v n) → Told (fraction_of v text at) n d
  unfolding other_item date_item time_or_relative time_item relative_item fraction_of no_fraction
  other_item_told e =
      either (date_item text at) (time_or_relative text at) d v n e
      (λ e. from_rest parse_non_iso_whole text at _ d v n e
      λ day m p e. let (a, z, c) = carried_same false d (item.Date day) v m n e in
      rw (← z) (none_told none n d refl (sym a)))
      λ o e. either (time_item text at) (relative_item text at) d v n e
      (λ e. from_first (time.parse text at) text (λ t. whole_pure _) d v n e
      λ t m p e.
      let z : item.Time t ≡ v = cc in
      let y : m ≡ n = cc in
      rw (← z, ← y) (time_told text at d t m p))
      λ o e. from_first (relative.parse text at) text (λ r. whole_pure _) d v n e
      λ r m p e.
      let z : item.Relative r ≡ v = cc in
      let y : m ≡ n = cc in
      rw (← z, ← y) (relative_told text at d r m p)

  item_told : parse_item text at ≡ carry d (matched v n) → Told (fraction_of v text at) n d
  unfolding parse_item
  item_told e = either (iso_item text at) (other_item text at) d v n e iso_item_told λ o. other_item_told

-- ---- the theorems

module _ (text : List ℕ) (at : ℕ) (v : Item) (n : ℕ) where
  -- If `parse_item` says that an item lost a digit, its fraction has one to lose.
  pub loses : parse_item text at ≡ dropped v n → Loses text at v n
  loses e = go (item_told text at true v n e)
    where
      go : Told (fraction_of v text at) n true → Loses text at v n
      go (some_digits ds k p w l) =
          let (i, f, g, h) = lost_place ds l in
          record { digits = ds; end = k; there = p; within = w; place = i; late = f; inside = g; other = h }
      go (no_digits f z) = let y : ◌≡◌ {A = ℕ} 0 1 = cc in absurd (clash y)

  -- If it does not say so, the fraction has none.
  pub loses_none : parse_item text at ≡ matched v n → Loses text at v n → ⊥
  loses_none e l = go (item_told text at false v n e)
    where
      go : Told (fraction_of v text at) n false → ⊥
      go (some_digits ds k p w z) =
          let q = l.there in
          let y : l.digits ≡ ds = cc in
          let x : lost ds ≡ true = rw y at (place_lost l.digits l.place l.late l.inside l.other) in
          let b : ◌≡◌ {A = ℕ} 0 1 = cc in
          clash b
      go (no_digits f z) = f l.digits l.end l.there l.within

  -- What the Rust reads as an item: with such a digit it is `dropped` here, and without one `matched`.
  pub item_loses : rust_item text at ≡ matched v n → Loses text at v n → parse_item text at ≡ dropped v n
  unfolding rust_item
  item_loses e l = go (parse_item text at) refl e
    where
      go : (a : Answer Item) → parse_item text at ≡ a → kept a ≡ matched v n → a ≡ dropped v n
      go (matched u m) p e = absurd (loses_none (p ∙ e) l)
      go (dropped u m) p e = cc
      go none p e = absurd (not_none false v n e)
      go stop p e = absurd (not_stop false v n e)

  pub item_whole : rust_item text at ≡ matched v n → (Loses text at v n → ⊥) → parse_item text at ≡ matched v n
  unfolding rust_item
  item_whole e f = go (parse_item text at) refl e
    where
      go : (a : Answer Item) → parse_item text at ≡ a → kept a ≡ matched v n → a ≡ matched v n
      go (matched u m) p e = e
      go (dropped u m) p e = absurd (f (loses (p ∙ ap drops e)))
      go none p e = absurd (not_none false v n e)
      go stop p e = absurd (not_stop false v n e)
