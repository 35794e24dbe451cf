-- Which readers never lose a digit, and where an answer of a chain of readers comes from. Assumes nothing.
use Prim.Native.Nat.{ℕ}
use Prim.Native.String.{String}
use mathlib.Core.Path.{◌≡◌, refl}
use mathlib.Core.List.{List, [], ◌∷◌}
use mathlib.Core.Bool.{Bool, true, false, cond}
use Rattle.primitive.specs.Answer.{Answer, Reader, matched, dropped, none, stop, drops, carry, and_then, or_else, ◌>>=◌, ◌>>◌, ◌<|>◌, pure, verify}
use Rattle.primitive.specs.Text.{bytes, some, tag}
use Rattle.primitive.specs.Primitive.{space, spaced, same, named}
use Rattle.primitive.proofs.Lowered.{clash}
use Rattle.primitive.proofs.Dropped.{drops_never}
use Rattle.times.specs.Offset.{certain, without, unless}

-- an answer that is not `dropped`
abbrev pub Undropped : {A : Type 0} → Answer A → Type 0
Undropped {A = A} a = (v : A) (n : ℕ) → a ≡ dropped v n → ⊥

-- a reader that never answers `dropped`
pub record Whole {A : Type 0} (p : Reader A) : Type 0 where
  pub whole : (text : List ℕ) (at : ℕ) → Undropped (p text at)

-- ---- answers

module _ {A : Type 0} where
  pub matched_undropped : (u : A) (m : ℕ) → Undropped (matched u m)
  matched_undropped u m v n e = let z : ◌≡◌ {A = ℕ} 0 1 = cc in clash z

  pub none_undropped : Undropped {A = A} none
  none_undropped v n e = let z : ◌≡◌ {A = ℕ} 0 1 = cc in clash z

  stop_undropped : Undropped {A = A} stop
  stop_undropped v n e = let z : ◌≡◌ {A = ℕ} 0 1 = cc in clash z

  pub if_undropped : (t : Bool) (a b : Answer A) → Undropped a → Undropped b → Undropped (cond t a b)
  if_undropped true a b f g = f
  if_undropped false a b f g = g

  without_undropped : {B : Type 0} (b : Answer B) (a : Answer A) → Undropped a → Undropped (without b a)
  without_undropped (matched u m) a h = none_undropped
  without_undropped (dropped u m) a h = none_undropped
  without_undropped none a h = h
  without_undropped stop a h = h

  or_undropped : (a b : Answer A) → Undropped a → Undropped b → Undropped (or_else a b)
  or_undropped (matched u m) b f g = f
  or_undropped (dropped u m) b f g = f
  or_undropped none b f g = g
  or_undropped stop b f g = stop_undropped

then_undropped : {A B : Type 0} (a : Answer A) (f : A → ℕ → Answer B) → Undropped a → ((v : A) (n : ℕ) → Undropped (f v n)) → Undropped (and_then a f)
then_undropped (matched u m) f h k = k u m
then_undropped (dropped u m) f h k = absurd (h u m refl)
then_undropped none f h k = none_undropped
then_undropped stop f h k = stop_undropped

-- ---- readers

module _ {A B : Type 0} where
  pub whole_then : {p : Reader A} {f : A → Reader B} → Whole p → ((v : A) → Whole (f v)) → Whole (p >>= f)
  whole_then {p} {f} h k = record { whole = λ text at. then_undropped (p text at) (λ v n. f v text n) (h.whole text at) (λ v n. (k v).whole text n) }

  pub whole_next : {p : Reader A} {q : Reader B} → Whole p → Whole q → Whole (p >> q)
  whole_next h k = whole_then h (λ v. k)

  pub whole_unless : (p : Reader A) {q : Reader B} → Whole q → Whole (unless p q)
  whole_unless p {q} h = record { whole = λ text at. without_undropped (p text at) (q text at) (h.whole text at) }

module _ {A : Type 0} where
  pub whole_or : {p q : Reader A} → Whole p → Whole q → Whole (p <|> q)
  whole_or {p} {q} h k = record { whole = λ text at. or_undropped (p text at) (q text at) (h.whole text at) (k.whole text at) }

  pub whole_pure : (v : A) → Whole (pure v)
  whole_pure v = record { whole = λ text at. matched_undropped v at }

  pub whole_verify : (t : Bool) (v : A) → Whole (verify t v)
  whole_verify t v = record { whole = λ text at. if_undropped t (matched v at) none (matched_undropped v at) none_undropped }

  pub whole_certain : (t : Bool) (v : A) → Whole (certain t v)
  whole_certain t v = record { whole = λ text at. if_undropped t (matched v at) stop (matched_undropped v at) stop_undropped }

  pub whole_if : (t : Bool) {p q : Reader A} → Whole p → Whole q → Whole (cond t p q)
  whole_if true h k = h
  whole_if false h k = k

  pub whole_spaced : {p : Reader A} → Whole p → Whole (spaced p)
  whole_spaced h = record { whole = λ text at. h.whole text (space text at) }

  pub whole_named : (es : List (String × A)) (w : List ℕ) → Whole (named es w)
  unfolding named
  whole_named [] w = record { whole = λ text at. none_undropped }
  whole_named (x ∷ es) w = record { whole = λ text at. if_undropped (same w (bytes x.0)) (matched x.1 at) (named es w text at) (matched_undropped x.1 at) ((whole_named es w).whole text at) }

pub whole_tag : (w : List ℕ) → Whole (tag w)
unfolding tag
whole_tag w = record { whole = λ text at. if_undropped _ _ _ (matched_undropped _ _) none_undropped }

pub whole_some : (p : ℕ → Bool) → Whole (some p)
unfolding some
whole_some p = record { whole = λ text at. if_undropped _ _ _ (matched_undropped _ _) none_undropped }

-- that a reader is whole, by its parts: `search wholes`
pub ruleset wholes = (whole_then, whole_next, whole_unless, whole_or, whole_pure, whole_verify, whole_certain, whole_if, whole_spaced, whole_named, whole_tag, whole_some)

-- ---- where an answer comes from

-- d says whether a digit was lost. Each law hands the parts on to its last argument, so that a proof goes along a reader as its `do` does.

module _ {A : Type 0} where
  pub not_none : (d : Bool) (v : A) (n : ℕ) → none ≡ carry d (matched v n) → ⊥
  not_none true v n e = let z : ◌≡◌ {A = ℕ} 0 1 = cc in clash z
  not_none false v n e = let z : ◌≡◌ {A = ℕ} 0 1 = cc in clash z

  pub not_stop : (d : Bool) (v : A) (n : ℕ) → stop ≡ carry d (matched v n) → ⊥
  not_stop true v n e = let z : ◌≡◌ {A = ℕ} 0 1 = cc in clash z
  not_stop false v n e = let z : ◌≡◌ {A = ℕ} 0 1 = cc in clash z

  -- equal answers have equal parts
  pub carried_same : (t d : Bool) (u v : A) (m n : ℕ) → carry t (matched u m) ≡ carry d (matched v n) → (t ≡ d) × (u ≡ v) × (m ≡ n)
  carried_same true true u v m n e = (refl, cc, cc)
  carried_same true false u v m n e = let z : ◌≡◌ {A = ℕ} 0 1 = cc in absurd (clash z)
  carried_same false true u v m n e = let z : ◌≡◌ {A = ℕ} 0 1 = cc in absurd (clash z)
  carried_same false false u v m n e = (refl, cc, cc)

  -- a match of `verify`
  pub tested : (t : Bool) (u v : A) (m n : ℕ) → cond t (matched u m) none ≡ matched v n → (t ≡ true) × (u ≡ v) × (m ≡ n)
  tested true u v m n e = (refl, cc, cc)
  tested false u v m n e = absurd (not_none false v n e)

  -- a match of `certain`
  pub certain_end : (t : Bool) (u v : A) (m n : ℕ) → cond t (matched u m) stop ≡ matched v n → m ≡ n
  certain_end true u v m n e = cc
  certain_end false u v m n e = absurd (not_stop false v n e)

  -- an answer that is not `dropped` loses none
  pub none_lost : (a : Answer A) → Undropped a → (d : Bool) (v : A) (n : ℕ) → a ≡ carry d (matched v n) → d ≡ false
  none_lost a h true v n e = absurd (h v n e)
  none_lost a h false v n e = refl

  -- Of two alternatives the first answers, or else the second.
  pub either : {C : Type 0} (a b : Answer A) (d : Bool) (v : A) (n : ℕ) → or_else a b ≡ carry d (matched v n) → (a ≡ carry d (matched v n) → C) → (a ≡ none → b ≡ carry d (matched v n) → C) → C
  either (matched u m) b d v n e f g = f e
  either (dropped u m) b d v n e f g = f e
  either none b d v n e f g = g refl e
  either stop b d v n e f g = absurd (not_stop d v n e)

module _ {A B C : Type 0} where
  after_whole : (a : Answer A) (f : A → ℕ → Answer B) → Undropped a → (d : Bool) (v : B) (n : ℕ) → and_then a f ≡ carry d (matched v n)
      → ((u : A) (m : ℕ) → a ≡ matched u m → f u m ≡ carry d (matched v n) → C) → C
  after_whole (matched u m) f h d v n e k = k u m refl e
  after_whole (dropped u m) f h d v n e k = absurd (h u m refl)
  after_whole none f h d v n e k = absurd (not_none d v n e)
  after_whole stop f h d v n e k = absurd (not_stop d v n e)

  before_whole : (a : Answer A) (f : A → ℕ → Answer B) → ((u : A) (m : ℕ) → Undropped (f u m)) → (d : Bool) (v : B) (n : ℕ) → and_then a f ≡ carry d (matched v n)
      → ((u : A) (m : ℕ) → a ≡ carry d (matched u m) → f u m ≡ matched v n → C) → C
  before_whole (matched u m) f h true v n e k = absurd (h u m v n e)
  before_whole (matched u m) f h false v n e k = k u m refl e
  before_whole (dropped u m) f h d v n e k = go d (f u m) (h u m) refl e k
    where
      go : (d : Bool) (b : Answer B) → Undropped b → f u m ≡ b → drops b ≡ carry d (matched v n) → ((x : A) (i : ℕ) → dropped u m ≡ carry d (matched x i) → f x i ≡ matched v n → C) → C
      go true (matched w i) h g e k = k u m refl cc
      go false (matched w i) h g e k = let z : ◌≡◌ {A = ℕ} 0 1 = cc in absurd (clash z)
      go d (dropped w i) h g e k = absurd (h w i refl)
      go d none h g e k = absurd (not_none d v n e)
      go d stop h g e k = absurd (not_stop d v n e)
  before_whole none f h d v n e k = absurd (not_none d v n e)
  before_whole stop f h d v n e k = absurd (not_stop d v n e)

  none_of : (a : Answer A) (f : A → ℕ → Answer B) → Undropped a → and_then a f ≡ none → (a ≡ none → C) → ((u : A) (m : ℕ) → a ≡ matched u m → f u m ≡ none → C) → C
  none_of (matched u m) f h e j k = k u m refl e
  none_of (dropped u m) f h e j k = absurd (h u m refl)
  none_of none f h e j k = j refl
  none_of stop f h e j k = let z : ◌≡◌ {A = ℕ} 0 1 = cc in absurd (clash z)

  -- If the first part of a chain loses no digit, the answer is the rest's.
  pub from_rest : {p : Reader A} → Whole p → (text : List ℕ) (at : ℕ) (f : A → ℕ → Answer B) (d : Bool) (v : B) (n : ℕ) → and_then (p text at) f ≡ carry d (matched v n)
      → ((u : A) (m : ℕ) → p text at ≡ matched u m → f u m ≡ carry d (matched v n) → C) → C
  from_rest {p} h text at f = after_whole (p text at) f (h.whole text at)

  -- If the rest of a chain loses none, the first part loses what the chain loses.
  pub from_first : {f : A → Reader B} (a : Answer A) (text : List ℕ) → ((u : A) → Whole (f u)) → (d : Bool) (v : B) (n : ℕ) → and_then a (λ u m. f u text m) ≡ carry d (matched v n)
      → ((u : A) (m : ℕ) → a ≡ carry d (matched u m) → f u text m ≡ matched v n → C) → C
  from_first {f} a text h = before_whole a (λ u m. f u text m) (λ u m. (h u).whole text m)

  -- If a chain matches, both parts match.
  pub of_both : (a : Answer A) (f : A → ℕ → Answer B) (v : B) (n : ℕ) → and_then a f ≡ matched v n → ((u : A) (m : ℕ) → a ≡ matched u m → f u m ≡ matched v n → C) → C
  of_both (matched u m) f v n e k = k u m refl e
  of_both (dropped u m) f v n e k = absurd (drops_never (f u m) v n e)
  of_both none f v n e k = absurd (not_none false v n e)
  of_both stop f v n e k = absurd (not_stop false v n e)

  -- If a chain does not match, one part does not.
  pub no_match : {p : Reader A} → Whole p → (text : List ℕ) (at : ℕ) (f : A → ℕ → Answer B) → and_then (p text at) f ≡ none
      → (p text at ≡ none → C) → ((u : A) (m : ℕ) → p text at ≡ matched u m → f u m ≡ none → C) → C
  no_match {p} h text at f = none_of (p text at) f (h.whole text at)
