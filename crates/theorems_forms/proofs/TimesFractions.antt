-- What a time loses. A time either reads the fraction after HOUR:MINUTE:SECOND, or it ends before the colon in front of SECOND. Assumes
-- nothing.
use native.Mathlib.Omega.{arith}
use borrow.Author.Tests.{ltb-true, lt-ltb, le-leb}
use Prim.Native.Nat.{ℕ, ◌<◌, ◌≤◌}
use native.Mathlib.Nat.{le_refl}
use mathlib.Core.Path.{◌≡◌, sym, ◌∙◌}
use mathlib.Core.List.{List, [], ◌∷◌}
use mathlib.Core.Bool.{Bool, false}
use lib.Dec.{ltb}
use lib.ListN.{get_or}
use Rattle.std.specs.Prelude.{None}
use Rattle.primitive.specs.Answer.{Answer, matched, none, carry, ◌>>◌}
use Rattle.primitive.specs.Primitive.{space, spaced, decimal, parse_uint, dec_uint_str, dec_uint, colon}
use Rattle.primitive.specs.Text.{bytes}
use Rattle.primitive.specs.Epoch.{sec_and_nsec}
use Rattle.primitive.specs.declared.SecAndNsec.{SecAndNsec}
use Rattle.primitive.proofs.Lowered.{clash}
use Rattle.primitive.proofs.Forward.{Forward, next_forward, spaced_forward, space_onward, tag_ends, dec_uint_str_forward, point_or_comma_forward}
use Rattle.primitive.proofs.Fronts.{tag_first, tag_else}
use Rattle.times.proofs.Chain.{nothing_left}
use Rattle.times.proofs.Hours.{no_correction, no_offset}
use Rattle.times.specs.Offset.{signed_fraction, time_zone_correction}
use Rattle.times.specs.Time.{below, hour24, hour12, minute, second, optional_second, optional_minute, optional_correction, hour_offset, clock, iso, meridiem, am_pm_time, parse}
use Rattle.times.specs.declared.time.Time.{Time}
use Rattle.theorems_forms.specs.Fractions.{fraction_digits, clock_fraction}
use Rattle.times.proofs.Forward.{optional_correction_forward, meridiem_forward}
use Rattle.theorems_forms.proofs.Undropped.{matched_undropped, whole_then, whole_pure, whole_verify, whole_certain, carried_same, tested, certain_end, none_lost, either, from_rest, from_first, of_both}
use Rattle.theorems_forms.proofs.WholeReaders.{colon_whole, below_whole, optional_minute_whole, optional_correction_whole, meridiem_whole, timezone_offset_whole}
use Rattle.theorems_forms.proofs.Fractions.{Told, no_digits, number_digits, seconds_told, fractional, fractional_told}

-- ---- at a colon

fractional_forward : Forward fractional
unfolding fraction_digits
fractional_forward = next_forward _ _ (spaced_forward _ dec_uint_str_forward) (next_forward _ _ point_or_comma_forward dec_uint_str_forward)

module _ (text : List ℕ) (at c : ℕ) (u : Unit {0}) (e : colon text at ≡ matched u c) where
  colon_ends : at < c
  unfolding colon
  colon_ends =
      let z = (tag_ends (58 ∷ []) text (space text at) c e).0 in
      let y = (space_onward text at).0 in
      omega arith

  is_colon : get_or text (space text at) 0 ≡ 58
  unfolding colon
  is_colon = tag_first text (space text at) 58 [] c e

  -- no correction stands at a colon
  optional_correction_else : optional_correction text at ≡ matched None at
  unfolding optional_correction time_zone_correction
  optional_correction_else = rw (no_correction text at c e, ← nothing_left (signed_fraction text at))

  -- a colon is no letter
  no_meridiem : meridiem text at ≡ none
  unfolding meridiem bytes
  no_meridiem =
      let z = is_colon in
      let a = λ (w : List ℕ). tag_else text (space text at) 97 w (λ y. omega arith) in
      let p = λ (w : List ℕ). tag_else text (space text at) 112 w (λ y. omega arith) in
      rw (a _, a _, p _, p _)

-- ---- hours, minutes, seconds

module _ (text : List ℕ) (at : ℕ) where
  below_digits : {C : Type 0} (k h i : ℕ) → below k text at ≡ matched h i → ((w : List ℕ) → dec_uint_str text (space text at) ≡ matched w i → C) → C
  unfolding below
  below_digits k h i e f =
      of_both (dec_uint 255 text (space text at)) _ h i e
      λ v m p e. number_digits text (space text at) 255 v m p
      λ w q s t. let (a, b, c) = tested (ltb v k) v h m i e in
      f w (rw c at q)

module _ (text : List ℕ) (at : ℕ) (d : Bool) (v : SecAndNsec ℕ) (l : ℕ) where
  second_told : (n : ℕ) → second text at ≡ carry d (matched v l) → l ≤ n → Told (fractional text at) n d
  unfolding second
  second_told n e h =
      from_first (sec_and_nsec text (space text at)) text (λ u. whole_verify _ _) d v l e
      λ u m p e. let (a, b, c) = tested (ltb u.sec 60) _ v m l e in
      fractional_told text at d u m n p (omega arith)

  -- a second below 60 is a minute below 60
  second_minute : {C : Type 0} → second text at ≡ carry d (matched v l) → ((m k : ℕ) → minute text at ≡ matched m k → C) → C
  unfolding second minute below dec_uint parse_uint
  second_minute e f =
      from_first (sec_and_nsec text (space text at)) text (λ u. whole_verify _ _) d v l e
      λ u m p e. seconds_told text (space text at) d u m m p (le_refl m)
      λ w k q s t. let (a, b, c) = tested (ltb u.sec 60) _ v m l e in
      let z : decimal w < 60 = rw s (ltb-true u.sec 60 a) in
      f (decimal w) k (rw (q, le-leb (decimal w) 255 (omega arith), lt-ltb (decimal w) 60 z))

module _ (text : List ℕ) (at : ℕ) (d : Bool) where
  -- If the seconds are left unread, so is the colon in front of them. The premise says that then nothing more is read.
  optional_second_told : (v : SecAndNsec ℕ) (l n : ℕ) → optional_second text at ≡ carry d (matched v l) → l ≤ n → ((c : ℕ) (u : Unit {0}) → colon text at ≡ matched u c → l ≡ at → n ≡ at)
      → Told ((colon >> fractional) text at) n d
  unfolding optional_second
  optional_second_told v l n e h f =
      either ((colon >> second) text at) _ d v l e
      (λ e. from_rest colon_whole text at _ d v l e
      λ u m p e. rw p (second_told text m d v l n e h))
      λ o e. let (a, b, c) = carried_same false d _ v at l e in
      no_digits
      (λ ds k g w. of_both (colon text at) _ ds k g
      λ u m p g.
      let z = colon_ends text at m u p in
      let y = (fractional_forward text m ds k g).0 in
      let x = f m u p (sym c) in
      omega arith)
      (sym a)

-- ---- times

-- what follows the hour of a time with am or pm
module _ (text : List ℕ) (d : Bool) (i m k : ℕ) (v : SecAndNsec ℕ) (l x : ℕ) (pm : Bool) (s : optional_second text k ≡ carry d (matched v l)) (a : meridiem text l ≡ matched pm x) where
  -- There is no am or pm at a colon.
  colon_else : (c : ℕ) (u : Unit {0}) → colon text l ≡ matched u c → ⊥
  colon_else c u f = let z = no_meridiem text l c u f in let y : ◌≡◌ {A = ℕ} 0 1 = cc in clash y

  minutes_told : (n : ℕ) → l ≤ n → optional_minute text i ≡ matched m k → Told ((colon >> (spaced dec_uint_str >> (colon >> fractional))) text i) n d
  unfolding optional_minute minute optional_second
  minutes_told n h q =
      either ((colon >> minute) text i) _ false m k q
      (λ q. of_both (colon text i) _ m k q
      λ u j f q. below_digits text j 60 m k q
      λ w c. rw (f, c) (optional_second_told text k d v l n s h (λ c u f z. absurd (colon_else c u (rw (← z) at f)))))
      λ o q. let (y, z, g) = carried_same false false 0 m i k q in
      either ((colon >> second) text k) _ d v l s
      (λ s. from_rest colon_whole text k _ d v l s
      λ u c f s. second_minute text c d v l s
      λ r j b. let z : ◌≡◌ {A = Answer ℕ} (matched r j) none = rw (g, f, b) at o in let y : ◌≡◌ {A = ℕ} 0 1 = cc in absurd (clash y))
      λ p s. let (y, z, r) = carried_same false d _ v k l s in
      no_digits
      (λ ds e f w. of_both (colon text i) _ ds e f
      λ u c f b. colon_else c u (rw (g ∙ r) at f))
      (sym y)

module _ (text : List ℕ) (at : ℕ) (d : Bool) (t : Time) (n : ℕ) where
  -- An hour with an offset after it has no colon after it.
  hour_offset_told : hour_offset text at ≡ carry d (matched t n) → Told (clock_fraction text at) n d
  unfolding hour_offset hour24 clock_fraction
  hour_offset_told e =
      from_rest (below_whole 24) text at _ d t n e
      λ h i p e. from_rest timezone_offset_whole text i _ d t n e
      λ o k q e. below_digits text at 24 h i p
      λ w r. no_digits
      (λ ds j g w. of_both (colon text i) _ ds j (rw r at g)
      λ u m s g. let z = no_offset text i m s in let y : ◌≡◌ {A = ℕ} 0 1 = cc in clash y)
      (none_lost _ (matched_undropped _ k) d t n e)

  clock_told : clock text at ≡ carry d (matched t n) → Told (clock_fraction text at) n d
  unfolding clock hour24 minute clock_fraction
  clock_told e =
      from_rest (below_whole 24) text at _ d t n e
      λ h i p e. from_rest colon_whole text i _ d t n e
      λ u j q e. from_rest (below_whole 60) text j _ d t n e
      λ m k r e. from_first (optional_second text k) text (λ v. whole_then optional_correction_whole (λ o. whole_pure _)) d t n e
      λ v l s e. of_both (optional_correction text l) _ t n e
      λ o x a e. below_digits text at 24 h i p
      λ w b. below_digits text j 60 m k r
      λ y c.
      let z : x ≡ n = cc in
      let g = (optional_correction_forward text l o x a).0 in
      rw (b, q, c) (optional_second_told text k d v l n s (omega arith) (λ i u f g. let y = optional_correction_else text k i u f in cc))

  am_pm_told : am_pm_time text at ≡ carry d (matched t n) → Told (clock_fraction text at) n d
  unfolding am_pm_time hour12 clock_fraction
  am_pm_told e =
      from_rest (below_whole 13) text at _ d t n e
      λ h i p e. from_rest optional_minute_whole text i _ d t n e
      λ m k q e. from_first (optional_second text k) text (λ v. whole_then meridiem_whole (λ pm. whole_certain _ _)) d t n e
      λ v l s e. of_both (meridiem text l) _ t n e
      λ pm x a e. below_digits text at 13 h i p
      λ w b.
      let z = certain_end (ltb 0 h) _ t x n e in
      let g = (meridiem_forward text l pm x a).0 in
      rw b (minutes_told text d i m k v l x pm s a n (omega arith) q)

  pub iso_told : iso text at ≡ carry d (matched t n) → Told (clock_fraction text at) n d
  unfolding iso
  iso_told e = either (hour_offset text at) (clock text at) d t n e hour_offset_told λ o. clock_told

  pub time_told : parse text at ≡ carry d (matched t n) → Told (clock_fraction text at) n d
  unfolding parse
  time_told e = either (am_pm_time text at) (iso text at) d t n e am_pm_told λ o. iso_told
