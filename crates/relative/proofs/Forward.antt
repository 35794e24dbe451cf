-- Where a relative item ends: never before the place asked, and within the text where that place is. Assumes nothing.
use Prim.Native.Nat.{ℕ, ◌^◌}
use Prim.Native.String.{String}
use mathlib.Core.List.{List, [], ◌∷◌}
use mathlib.Core.Bool.{Bool, true, false, not, cond}
use lib.Dec.{ltb}
use lib.IntN.{ℤ, pos, neg_ℤ, ◌*ℤ◌}
use lib.Signed.{mag}
use Rattle.primitive.specs.Answer.{Reader, matched, and_then, ◌>>=◌}
use Rattle.primitive.specs.Text.{bytes}
use Rattle.primitive.specs.Primitive.{named, same}
use Rattle.primitive.proofs.Forward.{Ends, Forward, none_ends, then_forward, next_forward, or_forward, pure_forward, verify_forward, optional_forward, value_forward, spaced_forward, tag_forward, named_forward, alpha1_forward, plus_or_minus_forward, sec_and_nsec_forward, ordinal_forward}
use Rattle.relative.specs.Relative.{direction, rounded, second_words, second_word, signed_seconds, seconds, days, units, stripped, in_unit, displaced, displacement, parse}
use Rattle.relative.specs.declared.Relative.{Relative}
use Rattle.relative.specs.declared.Relative.TheVariants.{Days}

pub direction_forward : Forward direction
unfolding direction
direction_forward =
    optional_forward _ _ (or_forward _ _ (value_forward _ _ (spaced_forward _ (tag_forward _))) (value_forward _ _ (spaced_forward _ (tag_forward _))))

pub second_word_forward : Forward second_word
unfolding second_word
second_word_forward = then_forward _ _ (spaced_forward _ alpha1_forward) (named_forward second_words)

pub signed_seconds_forward : (negative : Bool) → Forward (signed_seconds negative)
unfolding signed_seconds
signed_seconds_forward negative =
    then_forward _ _ (spaced_forward _ sec_and_nsec_forward)
    (λ v. next_forward _ _ second_word_forward (then_forward _ _ direction_forward (λ ago. verify_forward (ltb v.sec (2 ^ 63)) (rounded (cond ago (not negative) negative) v))))

pub seconds_forward : Forward seconds
unfolding seconds
seconds_forward = then_forward _ _ (optional_forward _ _ plus_or_minus_forward) signed_seconds_forward

pub days_forward : (k : ℕ) (n : ℤ) → Forward (days k n)
unfolding days
days_forward k n = verify_forward (ltb (mag (n *ℤ pos k)) (2 ^ 31)) (Days (n *ℤ pos k))

-- the readers of a table, each of them forward
data Each (n : ℤ) : List (String × (ℤ → Reader Relative)) → Type 0 where
  no_more : Each n []
  one_more : {e : String × (ℤ → Reader Relative)} {es : List (String × (ℤ → Reader Relative))} → Forward (e.1 n) → Each n es → Each n (e ∷ es)

table_forward : (n : ℤ) (w : List ℕ) (es : List (String × (ℤ → Reader Relative))) → Each n es → Forward (named es w >>= λ unit. unit n)
unfolding named
table_forward n w [] no_more text at = none_ends text at
table_forward n w (x ∷ es) (one_more f fs) text at = go (same w (bytes x.0)) (table_forward n w es fs text at)
  where
    go : (t : Bool) → Ends text at ((named es w >>= λ unit. unit n) text at)
        → Ends text at (and_then (cond t (matched x.1 at) (named es w text at)) (λ unit m. unit n text m))
    go true g = f text at
    go false g = g

pub in_unit_forward : (n : ℤ) (w : List ℕ) → Forward (in_unit n w)
unfolding in_unit units
in_unit_forward n w =
    table_forward n (stripped w) units
    (one_more (pure_forward _) (one_more (pure_forward _) (one_more (days_forward 14 n) (one_more (days_forward 7 n)
    (one_more (pure_forward _) (one_more (pure_forward _) (one_more (pure_forward _) (one_more (pure_forward _)
    (one_more (pure_forward _) (one_more (pure_forward _) no_more))))))))))

pub displaced_forward : (n : ℤ) → Forward (displaced n)
unfolding displaced
displaced_forward n =
    then_forward _ _ (spaced_forward _ alpha1_forward)
    (λ w. then_forward _ _ direction_forward (λ ago. in_unit_forward (cond ago (neg_ℤ n) n) w))

pub displacement_forward : Forward displacement
unfolding displacement
displacement_forward = then_forward _ _ (optional_forward _ _ ordinal_forward) displaced_forward

pub parse_forward : Forward parse
unfolding parse
parse_forward = or_forward _ _ seconds_forward displacement_forward
