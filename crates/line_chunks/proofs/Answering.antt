-- The loop that answers the lines of a chunk: what is answered and what is left to answer are the whole. Assumes nothing.
use native.Mathlib.Omega.{arith}
use borrow.Author.Tests.{lt-ltb, le-ltb}
use borrow.Rule.Slice.PartMut.{mid_of, put_mid, mid_len}
use Prim.Native.Nat.{ℕ, suc, ◌+◌, ◌-◌, ◌<◌, ◌≤◌}
use native.Mathlib.Nat.{zero-add, add-zero, sub-zero}
use mathlib.Core.Path.{◌≡◌, refl, ◌∙◌, sym, ap}
use mathlib.Core.Bool.{Bool, true, false, ◌&&◌}
use mathlib.Core.List.{List, [], ◌∷◌}
use lib.Dec.{ltb}
use lib.ListN.{length, take, drop, length-append, length-take, length-drop, take-append-drop}
use lib.Seq.{length-take-le, drop-drop}
use Rattle.extended.specs.declared.ExtendedDateTime.{ExtendedDateTime}
use Rattle.text_general.specs.Reading.{read_text}
use Rattle.line_answers.specs.Answers.{line_answer, put_at, Put}
use Rattle.line_chunks.specs.Lines.{line_length, whole_lines, answers, fitting, answered, unlines, wanting}
use Rattle.line_answers.proofs.Putting.{put_behind, part_put}
use Rattle.line_ends.proofs.Splitting.{whole_none, whole_more}

no_room : (base : ExtendedDateTime) (room : ℕ) (ls : List (List ℕ)) → room < 44 → fitting base room ls ≡ []
unfolding fitting
no_room base room [] h = refl
no_room base room (line ∷ later) h = rw (lt-ltb room 44 h)

-- where nothing more is answered: no room, or no line that has ended
pub answered_full : (chunk : List ℕ) (base : ExtendedDateTime) (room : ℕ) → room < 44 → answered chunk base room ≡ []
unfolding answered
answered_full chunk base room h = no_room base room (whole_lines chunk) h

pub answered_none : (chunk : List ℕ) (base : ExtendedDateTime) (room : ℕ) → length chunk ≤ line_length chunk → answered chunk base room ≡ []
unfolding answered fitting
answered_none chunk base room h = rw (whole_none chunk h)

-- the first line of a chunk, and those behind it
pub answered_more : (chunk : List ℕ) (base : ExtendedDateTime) (room n : ℕ) → n ≡ line_length chunk → n < length chunk → 44 ≤ room → answered chunk base room ≡ take n chunk ∷ answered (drop (suc n) chunk) base (room - length (line_answer (read_text (take n chunk) base)))
unfolding answered fitting
answered_more chunk base room n e h g = rw e (rw (whole_more chunk (rw e at h), le-ltb room 44 g))

-- the lines that are left to answer
abbrev left : List ℕ → ExtendedDateTime → List ℕ → ℕ → ℕ → List (List ℕ)
left chunk base out taken used = answered (drop taken chunk) base (length out - used)

pub record Going (chunk : List ℕ) (base : ExtendedDateTime) (out₀ out : List ℕ) (taken used : ℕ) : Type 0 where
  pub in_chunk : taken ≤ length chunk
  pub in_out : used ≤ length out
  pub same : length out ≡ length out₀
  pub takes : taken + length (unlines (answered (drop taken chunk) base (length out - used))) ≡ length (unlines (answered chunk base (length out₀)))
  pub uses : used + length (answers base (answered (drop taken chunk) base (length out - used))) ≡ length (answers base (answered chunk base (length out₀)))
  pub puts : put_at (answers base (answered (drop taken chunk) base (length out - used))) used out ≡ put_at (answers base (answered chunk base (length out₀))) 0 out₀

pub going_start : (chunk : List ℕ) (base : ExtendedDateTime) (out : List ℕ) → Going chunk base out out 0 0
going_start chunk base out = record {
  in_chunk = omega arith;
  in_out = omega arith;
  same = refl;
  takes = rw (sub-zero (length out)) (omega arith);
  uses = rw (sub-zero (length out)) (omega arith);
  puts = rw (sub-zero (length out));
}

put_none : (at : ℕ) (out : List ℕ) → put_at [] at out ≡ out
unfolding put_at
put_none at out = rw (add-zero at) (take-append-drop at out)

and_false : (t : Bool) → (t && false) ≡ false
and_false true = refl
and_false false = refl

module _ {chunk : List ℕ} {base : ExtendedDateTime} {out₀ out : List ℕ} {taken used : ℕ} (g : Going chunk base out₀ out taken used) where
  -- what `put_answers` promises
  abbrev Stopped : Bool → Type 0
  Stopped full =
      ((taken ≤ length chunk) × (used ≤ length out₀))
      × ((taken ≡ length (unlines (answered chunk base (length out₀))))
      × (Put (answers base (answered chunk base (length out₀))) 0 out₀ used out
      × (full ≡ wanting (length chunk - taken) (length out₀ - used))))

  module _ (e : left chunk base out taken used ≡ []) where
    all_taken : taken ≡ length (unlines (answered chunk base (length out₀)))
    unfolding unlines
    all_taken = omega (arith, rw e at g.takes)

    all_put : Put (answers base (answered chunk base (length out₀))) 0 out₀ used out
    unfolding answers
    all_put = record { place = omega (arith, rw e at g.uses); bytes = sym (put_none used out) ∙ rw e at g.puts }

  -- the three ends of the loop: no room is left, the line has not ended, nothing is left
  pub stopped_full : taken < length chunk → length out - used < 44 → Stopped true
  unfolding wanting
  stopped_full h f =
      let e = answered_full (drop taken chunk) base (length out - used) f in
      let l : 0 < length chunk - taken = omega arith in
      let m : length out₀ - used < 44 = rw g.same at f in
      ((g.in_chunk, omega arith), (all_taken e, (all_put e, rw (lt-ltb 0 (length chunk - taken) l, lt-ltb (length out₀ - used) 44 m))))

  pub stopped_unended : (end : ℕ) → end ≡ taken + line_length (drop taken chunk) → end ≡ length chunk → 44 ≤ length out - used → Stopped false
  unfolding wanting
  stopped_unended end p q f =
      let e = answered_none (drop taken chunk) base (length out - used) (omega (arith, length-drop taken chunk)) in
      let m : 44 ≤ length out₀ - used = rw g.same at f in
      ((g.in_chunk, omega arith), (all_taken e, (all_put e, rw (le-ltb (length out₀ - used) 44 m) (sym (and_false (ltb 0 (length chunk - taken)))))))

  pub stopped_none : length chunk ≤ taken → Stopped false
  unfolding wanting
  stopped_none h =
      let e = answered_none (drop taken chunk) base (length out - used) (omega (arith, length-drop taken chunk)) in
      let l : length chunk - taken ≤ 0 = omega arith in
      ((g.in_chunk, omega arith), (all_taken e, (all_put e, rw (le-ltb 0 (length chunk - taken) l))))

  -- a line is answered
  module _ (end r : ℕ) (ys : List ℕ) (p : end ≡ taken + line_length (drop taken chunk)) (q : end ≡ length chunk → ⊥) (inside : end ≤ length chunk) (f : 44 ≤ length out - used) (fits : r ≤ 44) (put : Put (line_answer (read_text (take (end - taken) (drop taken chunk)) base)) 0 (mid_of used (length out - used) out) r ys) where
    line : List ℕ
    line = take (end - taken) (drop taken chunk)

    answer : List ℕ
    answer = line_answer (read_text line base)

    size : r ≡ length answer
    unfolding answer line
    size = omega (arith, put.place)

    length_line : length line ≡ end - taken
    unfolding line
    length_line = length-take-le (end - taken) (drop taken chunk) (rw (length-drop taken chunk) (omega arith))

    room : length (mid_of used (length out - used) out) ≡ length out - used
    room = mid_len used (length out) out (omega arith)

    next : put_mid used (length out - used) out ys ≡ put_at answer used out
    unfolding answer line put_at
    next =
        let h : length answer ≤ length (mid_of used (length out - used) out) = omega (arith, room, size) in
        rw (put.bytes, zero-add (length answer)) (part_put answer out used (length out - used) h)

    length_next : length (put_at answer used out) ≡ length out
    unfolding put_at
    length_next = simp (length-append, length-take, length-drop) (omega (arith, size))

    later : left chunk base out taken used ≡ line ∷ left chunk base (put_at answer used out) (end + 1) (used + r)
    unfolding answer line
    later =
        let a : end - taken ≡ line_length (drop taken chunk) = omega arith in
        let b : end - taken < length (drop taken chunk) = rw (length-drop taken chunk) (omega arith) in
        let d : taken + suc (end - taken) ≡ end + 1 = omega arith in
        let m : length out - used - length answer ≡ length (put_at answer used out) - (used + r) = omega (arith, size, length_next) in
        answered_more (drop taken chunk) base (length out - used) (end - taken) a b f ∙ rw (drop-drop (suc (end - taken)) taken chunk, d, m)

    pub going_on : Going chunk base out₀ (put_mid used (length out - used) out ys) (end + 1) (used + r)
    unfolding answers unlines answer
    going_on =
        let rest = left chunk base (put_at answer used out) (end + 1) (used + r) in
        rw next (record {
          in_chunk = omega arith;
          in_out = omega (arith, length_next, size);
          same = length_next ∙ g.same;
          takes = omega (arith, length_line, rw later at g.takes, length-append line (10 ∷ unlines rest));
          uses = omega (arith, rw later at g.uses, length-append answer (answers base rest), size);
          puts = ap (λ (k : ℕ). put_at (answers base rest) (used + k) (put_at answer used out)) size ∙ put_behind answer (answers base rest) used out g.in_out ∙ rw later at g.puts;
        })
