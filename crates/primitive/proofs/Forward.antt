-- Where a match ends: never before the place asked, and within the text where that place is. One law for each combinator and
-- leaf, so that the law of a reader is put together as the reader is. Assumes nothing.
use native.Mathlib.Omega.{arith}
use Prim.Native.Nat.{ℕ, zero, suc, ◌+◌, ◌≤◌, zero-le, suc-le-suc}
use native.Mathlib.Nat.{le_refl, le_trans}
use mathlib.Core.Path.{◌≡◌, refl, ◌∙◌}
use mathlib.Core.List.{List, [], ◌∷◌}
use mathlib.Core.Bool.{Bool, true, false, ◌&&◌, cond}
use lib.ListN.{length, get_or, drop, length-drop}
use lib.Dec.{ltb, eqb, leb}
use Prim.Native.String.{String}
use Rattle.primitive.specs.Answer.{Answer, Reader, matched, dropped, none, stop, and_then, or_else, ◌>>=◌, ◌>>◌, ◌<|>◌, pure, value, optional, verify, cut}
use Rattle.primitive.specs.Text.{bytes, blank, digit, run, past, some, starts, tag}
use Rattle.primitive.specs.Primitive.{multispace0, multispace1, inside, comment, no_digit, sign, ignored_hyphen_or_plus, ignored, behind, skip, space, spaced, decimal, parse_uint, dec_uint_str, dec_uint, colon, plus_or_minus, alpha1, same, named}
use Rattle.primitive.specs.Epoch.{point_or_comma, nanoseconds, lost, fraction, sec_and_nsec}
use Rattle.primitive.specs.Ordinal.{ordinals, signed, signed_number, text_ordinal, number_ordinal, ordinal}
use Rattle.primitive.proofs.Comments.{inside_within}
use Rattle.primitive.proofs.Dropped.{drops_never}

-- n is a place that reading from `at` may end at
abbrev pub Onward : List ℕ → ℕ → ℕ → Type 0
Onward text at n = (at ≤ n) × (at ≤ length text → n ≤ length text)

abbrev pub Ends : {A : Type 0} → List ℕ → ℕ → Answer A → Type 0
Ends {A = A} text at a = (v : A) (n : ℕ) → a ≡ matched v n → Onward text at n

-- each match of the reader ends so
abbrev pub Forward : {A : Type 0} → Reader A → Type 0
Forward p = (text : List ℕ) (at : ℕ) → Ends text at (p text at)

onward_here : (text : List ℕ) (at : ℕ) → Onward text at at
onward_here text at = (omega arith, λ h. h)

onward_then : (text : List ℕ) (at m n : ℕ) → Onward text at m → Onward text m n → Onward text at n
onward_then text at m n h k = (le_trans h.0 k.0, λ l. k.1 (h.1 l))

-- an answer that is no match ends nowhere
module _ {A : Type 0} (text : List ℕ) (at : ℕ) where
  pub none_ends : Ends {A = A} text at none
  none_ends v n e = let z : ◌≡◌ {A = ℕ} 0 1 = cc in (omega arith, λ h. omega arith)

  pub stop_ends : Ends {A = A} text at stop
  stop_ends v n e = let z : ◌≡◌ {A = ℕ} 0 1 = cc in (omega arith, λ h. omega arith)

  pub dropped_ends : (u : A) (m : ℕ) → Ends text at (dropped u m)
  dropped_ends u m v n e = let z : ◌≡◌ {A = ℕ} 0 1 = cc in (omega arith, λ h. omega arith)

  matched_ends : (u : A) (m : ℕ) → Onward text at m → Ends text at (matched u m)
  matched_ends u m h v n e = let z : n ≡ m = cc in rw z h

  pub if_ends : (t : Bool) (a b : Answer A) → Ends text at a → Ends text at b → Ends text at (cond t a b)
  if_ends true a b f g = f
  if_ends false a b f g = g

-- ---- combinators

pub if_forward : {A : Type 0} (t : Bool) (p q : Reader A) → Forward p → Forward q → Forward (cond t p q)
if_forward true p q h k = h
if_forward false p q h k = k

module _ {A B : Type 0} where
  pub then_forward : (p : Reader A) (f : A → Reader B) → Forward p → ((v : A) → Forward (f v)) → Forward (p >>= f)
  then_forward p f h k text at = go (p text at) refl
    where
      go : (a : Answer A) → p text at ≡ a → Ends text at (and_then a (λ v n. f v text n))
      go (matched u m) e = λ v n g. onward_then text at m n (h text at u m e) (k u text m v n g)
      go (dropped u m) e = λ v n g. absurd (drops_never (f u text m) v n g)
      go none e = none_ends text at
      go stop e = stop_ends text at

  pub next_forward : (p : Reader A) (q : Reader B) → Forward p → Forward q → Forward (p >> q)
  next_forward p q h k = then_forward p (λ v. q) h (λ v. k)

module _ {A : Type 0} where
  pub or_forward : (p q : Reader A) → Forward p → Forward q → Forward (p <|> q)
  or_forward p q h k text at = go (p text at) refl
    where
      go : (a : Answer A) → p text at ≡ a → Ends text at (or_else a (q text at))
      go (matched u m) e = λ v n g. h text at v n (e ∙ g)
      go (dropped u m) e = dropped_ends text at u m
      go none e = k text at
      go stop e = stop_ends text at

  pub pure_forward : (v : A) → Forward (pure v)
  pure_forward v text at = matched_ends text at v at (onward_here text at)

  pub verify_forward : (t : Bool) (v : A) → Forward (verify t v)
  verify_forward t v text at = if_ends text at t _ _ (pure_forward v text at) (none_ends text at)

  pub cut_forward : (t : Bool) (v : A) → Forward (cut t v)
  cut_forward true v text at = dropped_ends text at v at
  cut_forward false v text at = pure_forward v text at

  pub optional_forward : (d : A) (p : Reader A) → Forward p → Forward (optional d p)
  optional_forward d p h = or_forward p (pure d) h (pure_forward d)

pub value_forward : {A B : Type 0} (v : B) (p : Reader A) → Forward p → Forward (value v p)
value_forward v p h = next_forward p (pure v) h (pure_forward v)

-- ---- leaves

pub run_le : (p : ℕ → Bool) (l : List ℕ) → run p l ≤ length l
unfolding run
run_le p [] = le_refl 0
run_le p (b ∷ bs) = go (p b) (run_le p bs)
  where
    go : (t : Bool) → run p bs ≤ length bs → cond t (suc (run p bs)) 0 ≤ suc (length bs)
    go true h = suc-le-suc h
    go false h = zero-le

pub past_onward : (p : ℕ → Bool) (text : List ℕ) (at : ℕ) → Onward text at (past p text at)
unfolding past
past_onward p text at = let r = run_le p (drop at text) in let l = length-drop at text in (omega arith, λ h. omega arith)

pub some_forward : (p : ℕ → Bool) → Forward (some p)
unfolding some
some_forward p text at = if_ends text at (ltb at (past p text at)) _ _ (matched_ends text at _ _ (past_onward p text at)) (none_ends text at)

starts_length : (w bs : List ℕ) → starts w bs ≡ true → length w ≤ length bs
unfolding starts
starts_length [] bs e = zero-le
starts_length (c ∷ cs) [] e = let z : ◌≡◌ {A = ℕ} 0 1 = cc in omega arith
starts_length (c ∷ cs) (b ∷ bs) e = suc-le-suc (starts_length cs bs (go (eqb b c) e))
  where
    go : (t : Bool) → t && starts cs bs ≡ true → starts cs bs ≡ true
    go true e = e
    go false e = cc

-- a match of fixed bytes ends behind all of them
pub tag_ends : (w text : List ℕ) (at n : ℕ) → tag w text at ≡ matched tt n → (n ≡ at + length w) × (at ≤ length text → n ≤ length text)
unfolding tag
tag_ends w text at n = go (starts w (drop at text)) refl
  where
    go : (t : Bool) → starts w (drop at text) ≡ t → ◌≡◌ {A = Answer (Unit {0})} (cond t (matched tt (at + length w)) none) (matched tt n) → (n ≡ at + length w) × (at ≤ length text → n ≤ length text)
    go true e k =
        let z : n ≡ at + length w = cc in
        let l = starts_length w (drop at text) e in
        let d = length-drop at text in
        (z, λ h. omega arith)
    go false e k = let z : ◌≡◌ {A = ℕ} 0 1 = cc in (omega arith, λ h. omega arith)

pub tag_forward : (w : List ℕ) → Forward (tag w)
tag_forward w text at tt n e = let z = tag_ends w text at n e in let y = z.0 in (omega arith, z.1)

pub named_forward : {A : Type 0} (es : List (String × A)) (w : List ℕ) → Forward (named es w)
unfolding named
named_forward [] w text at = none_ends text at
named_forward (e ∷ es) w text at = if_ends text at (same w (bytes e.0)) _ _ (pure_forward e.1 text at) (named_forward es w text at)

-- ---- the space between tokens

pub multispace0_forward : Forward multispace0
unfolding multispace0
multispace0_forward text at = matched_ends text at tt _ (past_onward blank text at)

pub multispace1_forward : Forward multispace1
unfolding multispace1
multispace1_forward = some_forward blank

pub inside_forward : Forward inside
inside_forward text at tt n e = let z = inside_within text at n e in (omega arith, z.1)

pub comment_forward : Forward comment
unfolding comment
comment_forward = next_forward _ _ (tag_forward _) inside_forward

pub no_digit_forward : Forward no_digit
unfolding no_digit
no_digit_forward text at = if_ends text at (digit (get_or text at 0)) _ _ (none_ends text at) (pure_forward tt text at)

pub sign_forward : Forward sign
unfolding sign
sign_forward = or_forward _ _ (value_forward false _ (tag_forward _)) (value_forward true _ (tag_forward _))

pub ignored_sign_forward : Forward ignored_hyphen_or_plus
unfolding ignored_hyphen_or_plus
ignored_sign_forward = then_forward _ _ sign_forward (λ v. then_forward _ _ multispace0_forward (λ u. no_digit_forward))

pub ignored_forward : Forward ignored
unfolding ignored
ignored_forward = or_forward _ _ comment_forward ignored_sign_forward

skip_onward : (k : ℕ) (text : List ℕ) (at : ℕ) → Onward text at (skip k text at)
unfolding skip
skip_onward zero text at = onward_here text at
skip_onward (suc k) text at = go (ignored text at) refl (skip_onward k text)
  where
    go : (a : Answer (Unit {0})) → ignored text at ≡ a → ((m : ℕ) → Onward text m (skip k text m)) → Onward text at (behind a at (λ n. skip k text (past blank text n)))
    go (matched tt n) e f =
        onward_then text at n _ (ignored_forward text at tt n e)
        (onward_then text n (past blank text n) _ (past_onward blank text n) (f (past blank text n)))
    go (dropped tt n) e f = onward_here text at
    go none e f = onward_here text at
    go stop e f = onward_here text at

pub space_onward : (text : List ℕ) (at : ℕ) → Onward text at (space text at)
unfolding space
space_onward text at = onward_then text at (past blank text at) _ (past_onward blank text at) (skip_onward (length text) text (past blank text at))

pub spaced_forward : {A : Type 0} (p : Reader A) → Forward p → Forward (spaced p)
spaced_forward p h text at v n e = onward_then text at (space text at) n (space_onward text at) (h text (space text at) v n e)

-- ---- numbers, signs, words

pub dec_uint_str_forward : Forward dec_uint_str
unfolding dec_uint_str
dec_uint_str_forward = some_forward digit

pub parse_uint_forward : (max : ℕ) (w : List ℕ) → Forward (parse_uint max w)
unfolding parse_uint
parse_uint_forward max w = verify_forward (leb (decimal w) max) (decimal w)

pub dec_uint_forward : (max : ℕ) → Forward (dec_uint max)
unfolding dec_uint
dec_uint_forward max = then_forward _ _ dec_uint_str_forward (parse_uint_forward max)

pub colon_forward : Forward colon
unfolding colon
colon_forward = spaced_forward _ (tag_forward _)

pub plus_or_minus_forward : Forward plus_or_minus
unfolding plus_or_minus
plus_or_minus_forward = spaced_forward _ sign_forward

pub alpha1_forward : Forward alpha1
unfolding alpha1
alpha1_forward = some_forward _

-- ---- seconds and ordinals

pub point_or_comma_forward : Forward point_or_comma
unfolding point_or_comma
point_or_comma_forward = or_forward _ _ (tag_forward _) (tag_forward _)

pub fraction_forward : Forward fraction
unfolding fraction
fraction_forward =
    next_forward _ _ point_or_comma_forward
    (then_forward _ _ dec_uint_str_forward (λ ds. cut_forward (lost ds) (nanoseconds ds)))

pub sec_and_nsec_forward : Forward sec_and_nsec
unfolding sec_and_nsec
sec_and_nsec_forward =
    then_forward _ _ (dec_uint_forward _)
    (λ sec. then_forward _ _ (optional_forward 0 _ fraction_forward) (λ nsec. pure_forward _))

pub text_ordinal_forward : Forward text_ordinal
unfolding text_ordinal
text_ordinal_forward = then_forward _ _ (spaced_forward _ alpha1_forward) (named_forward ordinals)

pub signed_number_forward : (negative : Bool) → Forward (signed_number negative)
unfolding signed_number
signed_number_forward negative = then_forward _ _ (spaced_forward _ (dec_uint_forward _)) (λ n. pure_forward (signed negative n))

pub number_ordinal_forward : Forward number_ordinal
unfolding number_ordinal
number_ordinal_forward = then_forward _ _ (spaced_forward _ (optional_forward false _ sign_forward)) signed_number_forward

pub ordinal_forward : Forward ordinal
unfolding ordinal
ordinal_forward = or_forward _ _ text_ordinal_forward number_ordinal_forward
