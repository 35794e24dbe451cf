-- What the leaves read where the text is known: fixed bytes, words, digits, space. Digits are any row of digits, so that leading zeros are
-- among them. Assumes nothing.
use native.Mathlib.Omega.{arith}
use Prim.Native.Nat.{ℕ, zero, suc, ◌+◌, ◌-◌, ◌<◌, ◌≤◌}
use native.Mathlib.Nat.{add-zero}
use mathlib.Core.Path.{◌≡◌, refl, sym, ap, ◌∙◌}
use mathlib.Core.List.{List, [], ◌∷◌, ◌++◌}
use mathlib.Core.Bool.{Bool, true, false, ◌&&◌, ◌||◌, not}
use lib.ListN.{length, get_or, drop, length-drop, drop_of_length-le}
use lib.Seq.{get_or-drop, drop-drop, drop-append_seam, take-append_seam}
use lib.Dec.{leb, eqb}
use borrow.Author.Tests.{eqb-true, lt-ltb, le-ltb, le-leb, lt-leb, eq-eqb, ne_eqb, leb-true, not-true}
use Rattle.primitive.specs.Answer.{matched, none, ◌>>◌, pure, cut}
use Rattle.primitive.specs.Text.{blank, digit, letter, run, past, some, starts, tag}
use Rattle.primitive.specs.Primitive.{multispace0, comment, no_digit, sign, ignored_hyphen_or_plus, ignored, skip, space, decimal, parse_uint, dec_uint_str, dec_uint, colon, plus_or_minus, alpha1}
use Rattle.primitive.specs.Epoch.{nanoseconds, nonzero, lost, point_or_comma, fraction, sec_and_nsec}
use Rattle.primitive.proofs.Limits.{slice_take}
use Rattle.primitive.proofs.Rows.{all, halves, Number}
use Rattle.primitive.proofs.Walk.{Reads, Fails, Spaces, ◌⟨◌⟩◌, ◌⟨◌⟩!◌, at_once, first, ◌or◌, ◌nor◌, nothing, verified, uncut, behind_space, not_behind_space}

-- the first byte, and 0 at the end
abbrev pub head : List ℕ → ℕ
head [] = 0
head (b ∷ bs) = b

pub head_all : (p : ℕ → Bool) (k l : List ℕ) → 0 < length k → all p k ≡ true → p (head (k ++ l)) ≡ true
head_all p [] l h g = absurd (omega arith)
head_all p (b ∷ bs) l h g = (halves (p b) (all p bs) g).0

-- ---- bytes by their kind

clash : ◌≡◌ {A = ℕ} 0 1 → ⊥
clash z = omega arith

pub letter_no_digit : (b : ℕ) → letter b ≡ true → digit b ≡ false
unfolding letter digit
letter_no_digit b h =
    let l = leb-true 97 b (halves (leb 97 b) (leb b 122) h).0 in
    rw (le-leb 48 b (omega arith), lt-leb b 57 (omega arith))

pub digit_no_letter : (b : ℕ) → digit b ≡ true → letter b ≡ false
unfolding letter digit
digit_no_letter b h =
    let l = leb-true b 57 (halves (leb 48 b) (leb b 57) h).1 in
    rw (lt-leb 97 b (omega arith))

-- what passes a test that c does not pass is not c
pub other : (p : ℕ → Bool) (b c : ℕ) → p b ≡ true → p c ≡ false → eqb b c ≡ false
other p b c h g = ne_eqb b c (λ z. let w : true ≡ false = sym h ∙ (ap p z ∙ g) in let y : ◌≡◌ {A = ℕ} 0 1 = cc in clash y)

pub blank_no_digit : (b : ℕ) → blank b ≡ true → digit b ≡ false
unfolding blank digit
blank_no_digit b = go (eqb b 32) refl
  where
    go : (t : Bool) → eqb b 32 ≡ t → t || (leb 9 b && leb b 13) ≡ true → leb 48 b && leb b 57 ≡ false
    go true e h = let z = eqb-true b 32 e in rw (lt-leb 48 b (omega arith))
    go false e h = let l = leb-true b 13 (halves (leb 9 b) (leb b 13) h).1 in rw (lt-leb 48 b (omega arith))

-- what no blank passes and the byte behind blanks does not
pub blanks_head : (p : ℕ → Bool) → ((b : ℕ) → blank b ≡ true → p b ≡ false) → (bs l : List ℕ) → all blank bs ≡ true → p (head l) ≡ false → p (head (bs ++ l)) ≡ false
blanks_head p f [] l a h = h
blanks_head p f (b ∷ bs) l a h = f b (halves (blank b) (all blank bs) a).0

pub head_at : (text : List ℕ) (at : ℕ) (l : List ℕ) → drop at text ≡ l → get_or text at 0 ≡ head l
head_at text at l e = rw (← add-zero at, ← get_or-drop at text 0 0, e) (go l)
  where
    go : (k : List ℕ) → get_or k 0 0 ≡ head k
    go [] = refl
    go (b ∷ bs) = refl

-- ---- fixed bytes

starts_whole : (w l : List ℕ) → starts w (w ++ l) ≡ true
unfolding starts
starts_whole [] l = refl
starts_whole (c ∷ cs) l = rw (eq-eqb c c refl) (starts_whole cs l)

pub tag_read : (w : List ℕ) {l : List ℕ} → Reads (tag w) (w ++ l) tt l
unfolding tag
tag_read w {l} = record {
  reads = λ text at e. (at + length w, rw (e, starts_whole w l), rw (← drop-drop (length w) at text, e) (drop-append_seam w l));
}

pub tag_else : (w : List ℕ) {l : List ℕ} → starts w l ≡ false → Fails (tag w) l
unfolding tag
tag_else w h = record { fails = λ text at e. rw (e, h) }

-- ---- a run of bytes that pass a test

run_none : (p : ℕ → Bool) (l : List ℕ) → p (head l) ≡ false → run p l ≡ 0
unfolding run
run_none p [] h = refl
run_none p (b ∷ bs) h = rw h

run_all : (p : ℕ → Bool) (k l : List ℕ) → all p k ≡ true → p (head l) ≡ false → run p (k ++ l) ≡ length k
unfolding run
run_all p [] l g h = run_none p l h
run_all p (b ∷ bs) l g h = let t = halves (p b) (all p bs) g in rw (t.0, run_all p bs l t.1 h)

pub some_read : (p : ℕ → Bool) (ds : List ℕ) {rest : List ℕ} → 0 < length ds → all p ds ≡ true → p (head rest) ≡ false → Reads (some p) (ds ++ rest) ds rest
unfolding some past
some_read p ds {rest} z g h = record {
  reads = λ text at e. (
    at + length ds,
    rw (e, run_all p ds rest g h, lt-ltb at (at + length ds) (omega arith), slice_take at (length ds) text, e, take-append_seam ds rest),
    rw (← drop-drop (length ds) at text, e) (drop-append_seam ds rest),
  );
}

pub some_else : (p : ℕ → Bool) {l : List ℕ} → p (head l) ≡ false → Fails (some p) l
unfolding some past
some_else p {l} h = record { fails = λ text at e. rw (e, run_none p l h, le-ltb at (at + 0) (omega arith)) }

pub word_read : (ws : List ℕ) {rest : List ℕ} → 0 < length ws → all letter ws ≡ true → letter (head rest) ≡ false → Reads alpha1 (ws ++ rest) ws rest
unfolding alpha1
word_read ws = some_read letter ws

pub word_else : {l : List ℕ} → letter (head l) ≡ false → Fails alpha1 l
unfolding alpha1
word_else = some_else letter

-- ---- digits

pub str_read : {ds rest : List ℕ} → Number ds → digit (head rest) ≡ false → Reads dec_uint_str (ds ++ rest) ds rest
unfolding dec_uint_str
str_read {ds} n h = some_read digit ds n.long n.digits h

pub str_else : {l : List ℕ} → digit (head l) ≡ false → Fails dec_uint_str l
unfolding dec_uint_str
str_else = some_else digit

pub number_read : {max : ℕ} {ds rest : List ℕ} → Number ds → decimal ds ≤ max → digit (head rest) ≡ false → Reads (dec_uint max) (ds ++ rest) (decimal ds) rest
unfolding dec_uint parse_uint
number_read {max} {ds} n m h = str_read n h ⟨ _ ⟩ verified (le-leb (decimal ds) max m)

pub number_else : (max : ℕ) {l : List ℕ} → digit (head l) ≡ false → Fails (dec_uint max) l
unfolding dec_uint
number_else max h = at_once _ (str_else h)

pub number_head : {ds : List ℕ} (l : List ℕ) → Number ds → digit (head (ds ++ l)) ≡ true
number_head {ds} l n = head_all digit ds l n.long n.digits

-- ---- space

-- no blank, no parenthesis and no sign
abbrev pub quiet : ℕ → Bool
quiet b = not (blank b) && (not (eqb b 40) && (not (eqb b 43) && not (eqb b 45)))

-- nothing to skip in front: by the first byte, and for a sign by the digit behind it
pub data Still : List ℕ → Type 0 where
  plain : {l : List ℕ} → quiet (head l) ≡ true → Still l
  plus : {l : List ℕ} → digit (head l) ≡ true → Still (43 ∷ l)
  minus : {l : List ℕ} → digit (head l) ≡ true → Still (45 ∷ l)

quiet_digit : (b : ℕ) → digit b ≡ true → quiet b ≡ true
unfolding digit blank
quiet_digit b h =
    let t = halves (leb 48 b) (leb b 57) h in
    let l = leb-true 48 b t.0 in
    rw (ne_eqb b 32 (λ z. omega arith), le-leb 9 b (omega arith), lt-leb b 13 (omega arith), ne_eqb b 40 (λ z. omega arith), ne_eqb b 43 (λ z. omega arith), ne_eqb b 45 (λ z. omega arith))

quiet_letter : (b : ℕ) → letter b ≡ true → quiet b ≡ true
unfolding letter blank
quiet_letter b h =
    let t = halves (leb 97 b) (leb b 122) h in
    let l = leb-true 97 b t.0 in
    rw (ne_eqb b 32 (λ z. omega arith), le-leb 9 b (omega arith), lt-leb b 13 (omega arith), ne_eqb b 40 (λ z. omega arith), ne_eqb b 43 (λ z. omega arith), ne_eqb b 45 (λ z. omega arith))

pub digit_still : {l : List ℕ} → digit (head l) ≡ true → Still l
digit_still {l} h = plain (quiet_digit (head l) h)

pub number_still : {ds : List ℕ} (l : List ℕ) → Number ds → Still (ds ++ l)
number_still {ds} l n = plain (quiet_digit (head (ds ++ l)) (number_head l n))

pub letter_still : {l : List ℕ} → letter (head l) ≡ true → Still l
letter_still {l} h = plain (quiet_letter (head l) h)

pub word_still : (ws l : List ℕ) → 0 < length ws → all letter ws ≡ true → Still (ws ++ l)
word_still ws l h g = plain (quiet_letter (head (ws ++ l)) (head_all letter ws l h g))

-- blanks, none or more
pub blanks_read : (bs : List ℕ) {l : List ℕ} → all blank bs ≡ true → blank (head l) ≡ false → Reads multispace0 (bs ++ l) tt l
unfolding multispace0 past
blanks_read bs {l} g h = record {
  reads = λ text at e. (at + length bs, rw (e, run_all blank bs l g h), rw (← drop-drop (length bs) at text, e) (drop-append_seam bs l));
}

no_digit_else : {l : List ℕ} → digit (head l) ≡ true → Fails no_digit l
unfolding no_digit
no_digit_else {l} h = record { fails = λ text at e. rw (head_at text at l e, h) }

digit_no_blank : (l : List ℕ) → digit (head l) ≡ true → blank (head l) ≡ false
digit_no_blank l h = not-true _ (halves _ _ (quiet_digit (head l) h)).0

pub still_no_blank : {l : List ℕ} → Still l → blank (head l) ≡ false
unfolding blank
still_no_blank (plain h) = not-true _ (halves _ _ h).0
still_no_blank (plus h) = refl
still_no_blank (minus h) = refl

-- a sign with a digit behind it is not skipped
kept : {l : List ℕ} → digit (head l) ≡ true → Fails (multispace0 >> no_digit) l
kept {l} h = blanks_read [] refl (digit_no_blank l h) ⟨ _ ⟩! no_digit_else h

-- fixed bytes whose first is not there
pub other_start : (b : ℕ) (w l : List ℕ) → eqb (head l) b ≡ false → starts (b ∷ w) l ≡ false
unfolding starts
other_start b w [] h = refl
other_start b w (c ∷ cs) h = rw h

-- one byte that is not there
pub byte_else : (b : ℕ) {l : List ℕ} → eqb (head l) b ≡ false → Fails (tag (b ∷ [])) l
byte_else b {l} h = tag_else (b ∷ []) (other_start b [] l h)

pub byte_read : (b : ℕ) {l : List ℕ} → Reads (tag (b ∷ [])) (b ∷ l) tt l
byte_read b = tag_read (b ∷ [])

still_kept : {l : List ℕ} → Still l → Fails ignored l
unfolding ignored comment ignored_hyphen_or_plus sign
still_kept (plain {l} h) =
    let t = halves (not (eqb (head l) 40)) _ (halves (not (blank (head l))) _ h).1 in
    let u = halves (not (eqb (head l) 43)) _ t.1 in
    at_once _ (byte_else 40 (not-true _ t.0)) nor at_once _ (at_once _ (byte_else 43 (not-true _ u.0)) nor at_once _ (byte_else 45 (not-true _ u.1)))
still_kept (plus h) = at_once _ (byte_else 40 refl) nor (first _ (byte_read 43 ⟨ _ ⟩ nothing) ⟨ _ ⟩! kept h)
still_kept (minus h) = at_once _ (byte_else 40 refl) nor ((at_once _ (byte_else 43 refl) or (byte_read 45 ⟨ _ ⟩ nothing)) ⟨ _ ⟩! kept h)

skip_none : (text : List ℕ) (at k : ℕ) → ignored text at ≡ none → skip k text at ≡ at
unfolding skip
skip_none text at zero f = refl
skip_none text at (suc k) f = rw f

-- blanks, none or more, in front of what is not skipped
pub blanks : (bs : List ℕ) {l : List ℕ} → all blank bs ≡ true → Still l → Spaces (bs ++ l) l
unfolding space past
blanks bs {l} g h = record {
  spaces = λ text at e.
      let d : drop (at + length bs) text ≡ l = rw (← drop-drop (length bs) at text, e) (drop-append_seam bs l) in
      rw (e, run_all blank bs l g (still_no_blank h), skip_none text (at + length bs) (length text) ((still_kept h).fails text (at + length bs) d)) d;
}

pub still : {l : List ℕ} → Still l → Spaces l l
still h = blanks [] refl h

-- ---- signs and colons

-- `+` is 43 and `-` is 45
abbrev pub sign_of : Bool → ℕ
sign_of true = 45
sign_of false = 43

pub sign_still : (w : Bool) {l : List ℕ} → digit (head l) ≡ true → Still (sign_of w ∷ l)
sign_still true h = minus h
sign_still false h = plus h

pub sign_here : (w : Bool) {m : List ℕ} → Reads sign (sign_of w ∷ m) w m
unfolding sign
sign_here true = at_once _ (byte_else 43 refl) or (byte_read 45 ⟨ _ ⟩ nothing)
sign_here false = first _ (byte_read 43 ⟨ _ ⟩ nothing)

pub no_sign_here : {m : List ℕ} → eqb (head m) 43 ≡ false → eqb (head m) 45 ≡ false → Fails sign m
unfolding sign
no_sign_here g h = at_once _ (byte_else 43 g) nor at_once _ (byte_else 45 h)

no_digit_read : {l : List ℕ} → digit (head l) ≡ false → Reads no_digit l tt l
unfolding no_digit
no_digit_read {l} h = record { reads = λ text at e. (at, rw (head_at text at l e, h), e) }

sign_no_blank : (w : Bool) → blank (sign_of w) ≡ false
unfolding blank
sign_no_blank true = refl
sign_no_blank false = refl

no_comment : (w : Bool) → eqb (sign_of w) 40 ≡ false
no_comment true = refl
no_comment false = refl

-- 29.1: a sign with no digit behind it is skipped
pub over_sign : (bs : List ℕ) (w : Bool) {l : List ℕ} → all blank bs ≡ true → Still l → digit (head l) ≡ false → Spaces (bs ++ (sign_of w ∷ l)) l
unfolding space past skip ignored comment ignored_hyphen_or_plus
over_sign bs w {l} g k h = record {
  spaces = λ text at e.
      let d : drop (at + length bs) text ≡ sign_of w ∷ l = rw (← drop-drop (length bs) at text, e) (drop-append_seam bs (sign_of w ∷ l)) in
      let z : length text - (at + length bs) ≡ suc (length l) = sym (length-drop (at + length bs) text) ∙ ap length d in
      let r : Reads ignored (sign_of w ∷ l) tt l = at_once _ (byte_else 40 (no_comment w)) or (sign_here w ⟨ _ ⟩ blanks_read [] refl (still_no_blank k) ⟨ _ ⟩ no_digit_read h) in
      let (n, i, f) = r.reads text (at + length bs) d in
      rw (e, run_all blank bs (sign_of w ∷ l) g (sign_no_blank w), ended text (at + length bs) n (length text) i f (omega arith)) f;
}
  where
    ended : (text : List ℕ) (at n k : ℕ) → ignored text at ≡ matched tt n → drop n text ≡ l → 0 < k → skip k text at ≡ n
    ended text at n zero i f z = absurd (omega arith)
    ended text at n (suc j) i f z = rw (i, f, run_none blank l (still_no_blank k), add-zero n) (skip_none text n j ((still_kept k).fails text n f))

pub sign_read : (w : Bool) {l m : List ℕ} → Spaces l (sign_of w ∷ m) → Reads plus_or_minus l w m
unfolding plus_or_minus
sign_read w s = behind_space s (sign_here w)

pub sign_else : {l m : List ℕ} → Spaces l m → eqb (head m) 43 ≡ false → eqb (head m) 45 ≡ false → Fails plus_or_minus l
unfolding plus_or_minus
sign_else s g h = not_behind_space s (no_sign_here g h)

pub colon_read : {l m : List ℕ} → Spaces l (58 ∷ m) → Reads colon l tt m
unfolding colon
colon_read s = behind_space s (byte_read 58)

pub colon_else : {l m : List ℕ} → Spaces l m → eqb (head m) 58 ≡ false → Fails colon l
unfolding colon
colon_else s h = not_behind_space s (byte_else 58 h)

-- ---- seconds

-- `.` is 46 and `,` is 44
abbrev pub point_of : Bool → ℕ
point_of true = 44
point_of false = 46

point_read : (comma : Bool) {l : List ℕ} → Reads point_or_comma (point_of comma ∷ l) tt l
unfolding point_or_comma
point_read true = byte_else 46 refl or byte_read 44
point_read false = first _ (byte_read 46)

-- nine digits and fewer lose none
pub nine_lose_none : (fs : List ℕ) → length fs ≤ 9 → lost fs ≡ false
unfolding lost nonzero
nine_lose_none fs h = rw (drop_of_length-le fs h) refl

-- seconds with a fraction that loses no digit, and without one
pub fraction_read : (comma : Bool) {fs rest : List ℕ} → Number fs → lost fs ≡ false → digit (head rest) ≡ false → Reads fraction (point_of comma ∷ (fs ++ rest)) (nanoseconds fs) rest
unfolding fraction
fraction_read comma n k h = point_read comma ⟨ _ ⟩ str_read n h ⟨ (λ ds. cut (lost ds) (nanoseconds ds)) ⟩ uncut k

pub fraction_else : {l : List ℕ} → eqb (head l) 46 ≡ false → eqb (head l) 44 ≡ false → Fails fraction l
unfolding fraction point_or_comma
fraction_else g h = at_once _ (byte_else 46 g nor byte_else 44 h)

pub seconds_read : {ds rest : List ℕ} → Number ds → decimal ds ≤ 18446744073709551615 → digit (head rest) ≡ false → eqb (head rest) 46 ≡ false → eqb (head rest) 44 ≡ false → Reads sec_and_nsec (ds ++ rest) (record { sec = decimal ds; nsec = 0 }) rest
unfolding sec_and_nsec
seconds_read {ds} n m d g h = number_read n m d ⟨ _ ⟩ (fraction_else g h or nothing) ⟨ (λ nsec. pure (record { sec = decimal ds; nsec = nsec })) ⟩ nothing

pub point_no_digit : (comma : Bool) → digit (point_of comma) ≡ false
unfolding digit
point_no_digit true = refl
point_no_digit false = refl

pub fractional_read : (comma : Bool) {ds fs rest : List ℕ} → Number ds → decimal ds ≤ 18446744073709551615 → Number fs → lost fs ≡ false → digit (head rest) ≡ false → Reads sec_and_nsec (ds ++ (point_of comma ∷ (fs ++ rest))) (record { sec = decimal ds; nsec = nanoseconds fs }) rest
unfolding sec_and_nsec
fractional_read comma {ds} n m f k h = number_read n m (point_no_digit comma) ⟨ _ ⟩ first _ (fraction_read comma f k h) ⟨ (λ nsec. pure (record { sec = decimal ds; nsec = nsec })) ⟩ nothing

pub seconds_else : {l : List ℕ} → digit (head l) ≡ false → Fails sec_and_nsec l
unfolding sec_and_nsec
seconds_else h = at_once _ (number_else 18446744073709551615 h)
