-- With room for an answer the line program comes to the end of every input: for all chunks there are turns, and they print its output.
-- Assumes nothing.
use native.Mathlib.Omega.{arith}
use borrow.Author.Tests.{ltb-true, ltb-false, le-ltb}
use Prim.Native.Nat.{ℕ, zero, suc, ◌+◌, ◌-◌, ◌<◌, ◌≤◌}
use mathlib.Core.Path.{◌≡◌, refl, ◌∙◌, sym, ap, subst}
use mathlib.Core.Bool.{Bool, true, false}
use mathlib.Core.List.{List, [], ◌∷◌, ◌++◌}
use lib.Dec.{ltb}
use lib.ListN.{length, take, drop, length-append, length-drop, drop_of_length-le}
use lib.Seq.{take-append_seam, drop-length}
use Rattle.extended.specs.declared.ExtendedDateTime.{ExtendedDateTime}
use Rattle.extended.proofs.Counting.{and_left, and_right}
use Rattle.answers.specs.Placed.{Placed, fine, refusal}
use Rattle.text_general.specs.Reading.{read_text}
use Rattle.line_answers.specs.Answers.{line_answer}
use Rattle.line_chunks.specs.Lines.{line_length, answers, answered, unlines, wanting, epoch, output}
use Rattle.line_chunks.specs.Turns.{rest, full, Prints, again, read, close, end, Begins, seek, close_first, nothing, begin, refuse, joined}
use Rattle.line_ends.proofs.Splitting.{line_inside}
use Rattle.line_chunks.proofs.Answering.{answered_none, answered_more}
use Rattle.line_chunks.proofs.Chunks.{covers, unended_later, unended_take}
use Rattle.line_chunks.proofs.Turns.{whole}

-- ---- a line that the end of the input has ended
ended_length : (line : List ℕ) → line_length line ≡ length line → line_length (line ++ (10 ∷ [])) ≡ length line
unfolding line_length
ended_length [] h = refl
ended_length (b ∷ s) h = let e = unended_later b s h in rw e.0 (ap suc (ended_length s e.1))

module _ (room : ℕ) (base : ExtendedDateTime) (enough : 44 ≤ room) where
  module _ (line : List ℕ) (h : line_length line ≡ length line) where
    ended_answered : answered (line ++ (10 ∷ [])) base room ≡ line ∷ []
    unfolding line_length
    ended_answered =
        let held = line ++ (10 ∷ []) in
        let l : length held ≡ length line + 1 = length-append line (10 ∷ []) in
        let n : length line ≡ line_length held = sym (ended_length line h) in
        let g : length held ≤ suc (length line) = omega arith in
        let d : drop (suc (length line)) held ≡ [] = drop_of_length-le held g in
        answered_more held base room (length line) n (omega arith) enough
        ∙ rw (take-append_seam line (10 ∷ []), d) (ap (λ (ls : List (List ℕ)). line ∷ ls) (answered_none [] base (room - length (line_answer (read_text line base))) (omega arith)))

    ended_rest : rest room base (line ++ (10 ∷ [])) ≡ []
    unfolding unlines
    ended_rest = rw ended_answered (drop-length (line ++ (10 ∷ [])))

    ended_full : full room base (line ++ (10 ∷ [])) ≡ false
    unfolding unlines wanting
    ended_full =
        let k = length (line ++ (10 ∷ [])) in
        let z : k - k ≤ 0 = omega arith in
        rw (ended_answered, le-ltb 0 (k - k) z)

    ended_run : (text : List ℕ) × Prints room base (line ++ (10 ∷ [])) [] text
    ended_run = (_, end ended_full ended_rest)

  -- ---- a turn that stopped for want of room has answered a line
  shorter : (held : List ℕ) (ls : List (List ℕ)) → wanting (length held - length (unlines ls)) (room - length (answers base ls)) ≡ true → length (drop (length (unlines ls)) held) < length held
  unfolding wanting unlines answers
  shorter held [] w =
      let t : ltb (room - 0) 44 ≡ true = and_right (ltb 0 (length held - 0)) (ltb (room - 0) 44) w in
      let r : room - 0 < 44 = ltb-true (room - 0) 44 t in
      absurd (omega arith)
  shorter held (line ∷ later) w =
      let k = length (line ++ (10 ∷ unlines later)) in
      let t : ltb 0 (length held - k) ≡ true = and_left (ltb 0 (length held - k)) (ltb (room - length (line_answer (read_text line base) ++ answers base later)) 44) w in
      let p : 0 < length held - k = ltb-true 0 (length held - k) t in
      omega (arith, length-drop k held, length-append line (10 ∷ unlines later))

  -- ---- the turns up to a read, and then those behind it
  module _ (reads : List (List ℕ)) (last : (held : List ℕ) → full room base held ≡ false → (text : List ℕ) × Prints room base held reads text) where
    turns : (bound : ℕ) (held : List ℕ) → length held ≤ bound → (text : List ℕ) × Prints room base held reads text
    turns zero held b = by (full room base held) refl where
      by : (t : Bool) → full room base held ≡ t → (text : List ℕ) × Prints room base held reads text
      by true f = let s = shorter held (answered held base room) f in absurd (omega arith)
      by false f = last held f
    turns (suc bound) held b = by (full room base held) refl (turns bound (rest room base held)) where
      by : (t : Bool) → full room base held ≡ t → (length (rest room base held) ≤ bound → (text : List ℕ) × Prints room base (rest room base held) reads text) → (text : List ℕ) × Prints room base held reads text
      by true f r =
          let s = shorter held (answered held base room) f in
          (_, again f (r (omega arith)).1)
      by false f r = last held f

  at_end : (held : List ℕ) → full room base held ≡ false → (text : List ℕ) × Prints room base held [] text
  at_end held f = by (rest room base held) refl where
    by : (line : List ℕ) → rest room base held ≡ line → (text : List ℕ) × Prints room base held [] text
    by [] e = (_, end f e)
    by (b ∷ s) e =
        let u = (covers base held room).unended f in
        let g : 0 < length (rest room base held) = rw e (omega arith) in
        (_, close f g (ended_run (take 4097 (rest room base held)) (unended_take 4097 (rest room base held) u)).1)

  pub printing : (reads : List (List ℕ)) (held : List ℕ) → (text : List ℕ) × Prints room base held reads text
  printing [] held = turns [] at_end (length held) held (omega arith)
  printing (chunk ∷ reads) held = turns (chunk ∷ reads) (λ (h : List ℕ) (f : full room base h ≡ false). (_, read f (printing reads (take 4097 (rest room base h) ++ chunk)).1)) (length held) held (omega arith)

-- ---- line 1
module _ (room : ℕ) (enough : 44 ≤ room) where
  with_line : (reads : List (List ℕ)) (held : List ℕ) → line_length held < length held → (text : List ℕ) × Begins room held reads text
  with_line reads held h = by (read_text (take (line_length held) held) epoch) refl where
    by : (p : Placed ExtendedDateTime) → read_text (take (line_length held) held) epoch ≡ p → (text : List ℕ) × Begins room held reads text
    by (fine base) e = (_, begin h e (printing room base enough reads (drop (suc (line_length held)) held)).1)
    by (refusal n at) e = (_, refuse h e)

  closing : (held : List ℕ) → line_length held ≡ length held → 0 < length held → (text : List ℕ) × Begins room held [] text
  closing held u g =
      let line = take 4097 held in
      let e = ended_length line (unended_take 4097 held u) in
      let h : line_length (line ++ (10 ∷ [])) < length (line ++ (10 ∷ [])) = omega (arith, length-append line (10 ∷ [])) in
      (_, close_first u g (with_line [] (line ++ (10 ∷ [])) h).1)

  without_line : (held : List ℕ) → line_length held ≡ length held → (text : List ℕ) × Begins room held [] text
  without_line [] u = (_, nothing)
  without_line (b ∷ s) u = closing (b ∷ s) u (omega arith)

  pub beginning : (reads : List (List ℕ)) (held : List ℕ) → (text : List ℕ) × Begins room held reads text
  beginning [] held = by (ltb (line_length held) (length held)) refl where
    by : (t : Bool) → ltb (line_length held) (length held) ≡ t → (text : List ℕ) × Begins room held [] text
    by true e = with_line [] held (ltb-true (line_length held) (length held) e)
    by false e = let g = ltb-false (line_length held) (length held) e in without_line held (omega (arith, line_inside held))
  beginning (chunk ∷ reads) held = by (ltb (line_length held) (length held)) refl (beginning reads (take 4097 held ++ chunk)) where
    by : (t : Bool) → ltb (line_length held) (length held) ≡ t → (text : List ℕ) × Begins room (take 4097 held ++ chunk) reads text → (text : List ℕ) × Begins room held (chunk ∷ reads) text
    by true e r = with_line (chunk ∷ reads) held (ltb-true (line_length held) (length held) e)
    by false e r =
        let g = ltb-false (line_length held) (length held) e in
        let u : line_length held ≡ length held = omega (arith, line_inside held) in
        (_, seek u r.1)

-- whatever chunks the input comes in, there are turns, and what they print is the output for the whole of it
pub prints_output : (room : ℕ) → 44 ≤ room → (reads : List (List ℕ)) → Begins room [] reads (output (joined reads))
prints_output room enough reads =
    let r = beginning room enough reads [] in
    subst (λ (text : List ℕ). Begins room [] reads text) (whole room r.1) r.1
