-- What is known of a value that was read: a fraction of a second is below a second, an ordinal can be negated, a word lies within the
-- text. Assumes nothing.
use borrow.Author.Rules.{rules}
use native.Mathlib.Omega.{arith}
use borrow.Author.Tests.{leb-true, ltb-true}
use Prim.Native.Nat.{ℕ, zero, suc, ◌+◌, ◌-◌, ◌^◌, ◌<◌, ◌≤◌}
use Prim.Native.String.{String}
use native.Mathlib.Nat.{zero-add, suc-add, pow-suc, mul-le-mul_right}
use mathlib.Core.Path.{◌≡◌, refl, sym, ap, ◌∙◌}
use mathlib.Core.List.{List, [], ◌∷◌}
use mathlib.Core.Bool.{Bool, true, false, ◌&&◌, cond}
use lib.ListN.{length, take, drop}
use lib.Seq.{slice}
use lib.Dec.{ltb, leb}
use lib.IntN.{ℤ, neg_ℤ}
use lib.Signed.{mag}
use Rattle.primitive.specs.Answer.{Answer, matched, dropped, none, stop, and_then, or_else, carry}
use Rattle.primitive.specs.Text.{bytes, digit, run, past, some}
use Rattle.primitive.specs.Primitive.{space, sign, decimal, dec_uint, dec_uint_str, alpha1, same, named}
use Rattle.primitive.specs.Epoch.{zero_filled, nanoseconds, lost, point_or_comma, fraction, sec_and_nsec}
use Rattle.primitive.specs.Ordinal.{signed, ordinals, text_ordinal, signed_number, number_ordinal, ordinal}
use Rattle.primitive.specs.declared.SecAndNsec.{SecAndNsec}
use Rattle.primitive.proofs.Numbers.{number_limit}
use Rattle.primitive.proofs.Dropped.{Has, has_carry, carry_has, has_or, has_then, has_next, drops_never}

clash : ◌≡◌ {A = ℕ} 0 1 → ⊥
clash z = omega arith

-- ---- fractions

-- bytes that are worth at most 9 each
data Digits : List ℕ → Type 0 where
  none_left : Digits []
  one_more : {b : ℕ} {bs : List ℕ} → b - 48 ≤ 9 → Digits bs → Digits (b ∷ bs)

digit_worth : (b : ℕ) → digit b ≡ true → b - 48 ≤ 9
unfolding digit
digit_worth b = go (leb 48 b)
  where
    go : (t : Bool) → t && leb b 57 ≡ true → b - 48 ≤ 9
    go true e = let h = leb-true b 57 e in omega arith
    go false e = let z : ◌≡◌ {A = ℕ} 0 1 = cc in absurd (clash z)

run_digits : (l : List ℕ) → Digits (take (run digit l) l)
unfolding run
run_digits [] = none_left
run_digits (b ∷ bs) = go (digit b) refl (run_digits bs)
  where
    go : (t : Bool) → digit b ≡ t → Digits (take (run digit bs) bs) → Digits (take (cond t (suc (run digit bs)) 0) (b ∷ bs))
    go true e h = one_more (digit_worth b e) h
    go false e h = none_left

pub slice_take : (a k : ℕ) (l : List ℕ) → drop a (take (a + k) l) ≡ take k (drop a l)
slice_take zero k l = rw (zero-add k)
slice_take (suc a) zero [] = rw (suc-add a 0)
slice_take (suc a) (suc k) [] = rw (suc-add a (suc k))
slice_take (suc a) k (x ∷ xs) = rw (suc-add a k) (slice_take a k xs)

padded_digits : (k : ℕ) (ds : List ℕ) → Digits ds → Digits (zero_filled k ds)
unfolding zero_filled
padded_digits zero ds h = none_left
padded_digits (suc k) [] h = one_more {b = 48} (omega arith) (padded_digits k [] none_left)
padded_digits (suc k) (d ∷ ds) (one_more l h) = one_more l (padded_digits k ds h)

padded_length : (k : ℕ) (ds : List ℕ) → length (zero_filled k ds) ≡ k
unfolding zero_filled
padded_length zero ds = refl
padded_length (suc k) [] = ap suc (padded_length k [])
padded_length (suc k) (d ∷ ds) = ap suc (padded_length k ds)

decimal_below : (ds : List ℕ) → Digits ds → decimal ds < 10 ^ length ds
unfolding decimal
decimal_below [] h = omega arith
decimal_below (d ∷ ds) (one_more l h) =
    let z = mul-le-mul_right (10 ^ length ds) l in
    let y = decimal_below ds h in
    rw (pow-suc 10 (length ds)) (omega arith)

nanoseconds_below : (ds : List ℕ) → Digits ds → nanoseconds ds < 1000000000
unfolding nanoseconds
nanoseconds_below ds h = rw (padded_length 9 ds) at (decimal_below (zero_filled 9 ds) (padded_digits 9 ds h))

str_digits : (text : List ℕ) (at : ℕ) → Has Digits (dec_uint_str text at)
unfolding dec_uint_str some past
str_digits text at = go (ltb at (at + run digit (drop at text)))
  where
    go : (t : Bool) → Has Digits (cond t (matched (slice at (at + run digit (drop at text)) text) (at + run digit (drop at text))) none)
    go true = rw (slice_take at (run digit (drop at text)) text) (run_digits (drop at text))
    go false = tt

abbrev Below : ℕ → Type 0
Below v = v < 1000000000

fraction_below : (text : List ℕ) (at : ℕ) → Has Below (fraction text at)
unfolding fraction
fraction_below text at =
    has_next Below (point_or_comma text at) _
    (λ u m. has_then Below Digits (dec_uint_str text m) _ (str_digits text m) (λ ds k h. has_carry Below (lost ds) (nanoseconds ds) k (nanoseconds_below ds h)))

abbrev pub Fraction : SecAndNsec ℕ → Type 0
Fraction v = v.nsec < 1000000000

pub nsec_below : (text : List ℕ) (at : ℕ) → Has Fraction (sec_and_nsec text at)
unfolding sec_and_nsec
nsec_below text at =
    has_next Fraction (dec_uint 18446744073709551615 text at) _
    (λ sec m. has_then Fraction Below (or_else (fraction text m) (matched 0 m)) (λ nsec k. matched (record { sec = sec; nsec = nsec }) k) (has_or Below (fraction text m) (matched 0 m) (fraction_below text m) (omega arith)) (λ nsec k h. h))

pub nsec_limit : (text : List ℕ) (at n : ℕ) (v : SecAndNsec ℕ) (d : Bool) → carry d (matched v n) ≡ sec_and_nsec text at → v.nsec < 1000000000
nsec_limit text at n v d e = carry_has Fraction d v n (rw e (nsec_below text at))

-- ---- ordinals

-- whether the negative of a number is below 2 to the power 31
abbrev negatable : ℤ → Bool
negatable z = ltb (mag (neg_ℤ z)) 2147483648

every : {A : Type 0} → (A → Bool) → List (String × A) → Bool
every p [] = true
every p (e ∷ es) = p e.1 && every p es

-- the values of a table pass a test that all of its entries pass
named_every : {A : Type 0} (p : A → Bool) (w text : List ℕ) (at n : ℕ) (v : A) (es : List (String × A)) → every p es ≡ true → named es w text at ≡ matched v n → p v ≡ true
unfolding named every
named_every p w text at n v [] h e = let z : ◌≡◌ {A = ℕ} 0 1 = cc in absurd (clash z)
named_every {A = A} p w text at n v (x ∷ es) h e = go (same w (bytes x.0)) (p x.1) refl h e (named_every p w text at n v es)
  where
    go : (t u : Bool) → p x.1 ≡ u → u && every p es ≡ true → cond t (matched x.1 at) (named es w text at) ≡ matched v n
        → (every p es ≡ true → named es w text at ≡ matched v n → p v ≡ true) → p v ≡ true
    go true true g h e f = let z : v ≡ x.1 = cc in rw z g
    go true false g h e f = let z : ◌≡◌ {A = ℕ} 0 1 = cc in absurd (clash z)
    go false true g h e f = f h e
    go false false g h e f = let z : ◌≡◌ {A = ℕ} 0 1 = cc in absurd (clash z)

signed_negatable : (negative : Bool) (k : ℕ) → k ≤ 2147483647 → mag (neg_ℤ (signed negative k)) < 2147483648
unfolding signed
signed_negatable true zero h = omega arith
signed_negatable true (suc k) h = omega arith
signed_negatable false zero h = omega arith
signed_negatable false (suc k) h = omega arith

-- an ordinal of the table
pub named_range : (w text : List ℕ) (at n : ℕ) (v : ℤ) → named ordinals w text at ≡ matched v n → mag (neg_ℤ v) < 2 ^ 31
unfolding ordinals every
named_range w text at n v e = ltb-true (mag (neg_ℤ v)) 2147483648 (named_every negatable w text at n v ordinals refl e)

text_range : (text : List ℕ) (at n : ℕ) (v : ℤ) → text_ordinal text at ≡ matched v n → mag (neg_ℤ v) < 2147483648
unfolding text_ordinal
text_range text at n v = go (alpha1 text (space text at))
  where
    go : (a : Answer (List ℕ)) → and_then a (λ w m. named ordinals w text m) ≡ matched v n → mag (neg_ℤ v) < 2147483648
    go (matched w m) e = named_range w text m n v e
    go (dropped w m) e = absurd (drops_never (named ordinals w text m) v n e)
    go none e = let z : ◌≡◌ {A = ℕ} 0 1 = cc in absurd (clash z)
    go stop e = let z : ◌≡◌ {A = ℕ} 0 1 = cc in absurd (clash z)

number_range : (text : List ℕ) (at n : ℕ) (v : ℤ) (negative : Bool) → signed_number negative text at ≡ matched v n → mag (neg_ℤ v) < 2147483648
unfolding signed_number
number_range text at n v negative = go (dec_uint 2147483647 text (space text at)) refl
  where
    go : (a : Answer ℕ) → dec_uint 2147483647 text (space text at) ≡ a → and_then a (λ k m. matched (signed negative k) m) ≡ matched v n → mag (neg_ℤ v) < 2147483648
    go (matched k m) f e = let z : v ≡ signed negative k = cc in rw z (signed_negatable negative k (number_limit 2147483647 text (space text at) k m f))
    go (dropped k m) f e = let z : ◌≡◌ {A = ℕ} 0 1 = cc in absurd (clash z)
    go none f e = let z : ◌≡◌ {A = ℕ} 0 1 = cc in absurd (clash z)
    go stop f e = let z : ◌≡◌ {A = ℕ} 0 1 = cc in absurd (clash z)

number_ordinal_range : (text : List ℕ) (at n : ℕ) (v : ℤ) → number_ordinal text at ≡ matched v n → mag (neg_ℤ v) < 2147483648
unfolding number_ordinal
number_ordinal_range text at n v = go (or_else (sign text (space text at)) (matched false (space text at)))
  where
    go : (a : Answer Bool) → and_then a (λ negative m. signed_number negative text m) ≡ matched v n → mag (neg_ℤ v) < 2147483648
    go (matched negative m) e = number_range text m n v negative e
    go (dropped negative m) e = absurd (drops_never (signed_number negative text m) v n e)
    go none e = let z : ◌≡◌ {A = ℕ} 0 1 = cc in absurd (clash z)
    go stop e = let z : ◌≡◌ {A = ℕ} 0 1 = cc in absurd (clash z)

ordinal_within : (text : List ℕ) (at n : ℕ) (v : ℤ) → ordinal text at ≡ matched v n → mag (neg_ℤ v) < 2147483648
unfolding ordinal
ordinal_within text at n v = go (text_ordinal text at) refl
  where
    go : (a : Answer ℤ) → text_ordinal text at ≡ a → or_else a (number_ordinal text at) ≡ matched v n → mag (neg_ℤ v) < 2147483648
    go (matched u m) f e = text_range text at n v (f ∙ e)
    go (dropped u m) f e = let z : ◌≡◌ {A = ℕ} 0 1 = cc in absurd (clash z)
    go none f e = number_ordinal_range text at n v e
    go stop f e = let z : ◌≡◌ {A = ℕ} 0 1 = cc in absurd (clash z)

-- an ordinal that was read lies between -2147483647 and 2147483647, so that its negative is an i32 too
pub ordinal_range : (text : List ℕ) (at n : ℕ) (v : ℤ) → matched v n ≡ ordinal text at → mag (neg_ℤ v) < 2 ^ 31
ordinal_range text at n v e = ordinal_within text at n v (sym e)

pub ruleset limits = (nsec_limit, ordinal_range, rules)
