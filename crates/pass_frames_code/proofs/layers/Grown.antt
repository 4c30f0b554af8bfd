-- What passes make of instructions, one list behind another and one pass behind another.
use Rattle.std.proofs.Common.{◌≡◌, List, [], ◌∷◌, ◌++◌, refl, sym, ap, ◌∙◌, append_assoc, append-nil}
use Rattle.std.specs.Prelude.{None, Option, Some, option_to_list}
use Rattle.pass_proofs.specs.ir_model.declared.instr.Instr.{Instr}
use Rattle.pass_proofs.specs.ir_model.declared.instr.Terminator.{Terminator}
use Rattle.pass_proofs.specs.ir_model.declared.module.Block.{Block}
use Rattle.pass_frames_code.specs.Layers.{IsMadeBy, Layer, after_of, becomes, before_of, behind_of, both, ended, grown, here_of, met, passed, woven}

module _ {S : Type 0} (L : Layer S) where
  pub grown_append : (s : S) (is js : List Instr) → grown L s (is ++ js) ≡ grown L s is ++ grown L (passed L s is) js
  grown_append s [] js = refl
  grown_append s (i ∷ is) js =
      ap (λ (xs : List Instr). becomes L s i ++ xs) (grown_append (L.after s i) is js)
      ∙ sym (append_assoc (becomes L s i) (grown L (L.after s i) is) (grown L (passed L (L.after s i) is) js))

  pub passed_append : (s : S) (is js : List Instr) → passed L s (is ++ js) ≡ passed L (passed L s is) js
  passed_append s [] js = refl
  passed_append s (i ∷ is) js = passed_append (L.after s i) is js

  -- one instruction alone
  pub grown_one : (s : S) (i : Instr) → grown L s (i ∷ []) ≡ becomes L s i
  grown_one s i = append-nil (becomes L s i)

module _ {S T : Type 0} (L : Layer S) (M : Layer T) where
  -- what stands in the place of an instruction, and behind it
  middle : (t : T) (h : Option Instr) (front rest : List Instr)
      → (front ++ before_of M t h)
      ++ (option_to_list (here_of M t h) ++ (behind_of M t h ++ grown M (after_of M t h) rest)) ≡ front
      ++ grown M t (option_to_list h ++ rest)
  middle t None front rest = ap (λ (xs : List Instr). xs ++ grown M t rest) (append-nil front)
  middle t (Some j) front rest = simp append_assoc

  pub both_becomes : (s : S) (t : T) (i : Instr) → becomes (both L M) (s, t) i ≡ grown M t (becomes L s i)
  both_becomes s t i =
      middle (met L M s t i) (L.here s i) (grown M t (L.before s i)) (L.behind s i)
      ∙ sym (grown_append M t (L.before s i) (option_to_list (L.here s i) ++ L.behind s i))

  pub both_grown : (s : S) (t : T) (is : List Instr) → grown (both L M) (s, t) is ≡ grown M t (grown L s is)
  both_grown s t [] = refl
  both_grown s t (i ∷ is) =
      (λ k. both_becomes s t i k ++ both_grown (L.after s i) (passed M t (becomes L s i)) is k)
      ∙ sym (grown_append M t (becomes L s i) (grown L (L.after s i) is))

  pub both_passed : (s : S) (t : T) (is : List Instr)
      → passed (both L M) (s, t) is ≡ (passed L s is, passed M t (grown L s is))
  both_passed s t [] = refl
  both_passed s t (i ∷ is) =
      both_passed (L.after s i) (passed M t (becomes L s i)) is
      ∙ ap (λ (x : T). (passed L (L.after s i) is, x))
      (sym (passed_append M t (becomes L s i) (grown L (L.after s i) is)))

  -- the second pass goes over the front, over what the instructions become, and over the back
  parts : (is : List Instr)
      → grown M M.start (woven L is) ≡ grown M M.start L.front
      ++ (grown M (passed M M.start L.front) (grown L L.start is)
      ++ grown M (passed M (passed M M.start L.front) (grown L L.start is)) (L.back (passed L L.start is)))
  parts is =
      grown_append M M.start L.front (grown L L.start is ++ L.back (passed L L.start is))
      ∙ ap (λ (xs : List Instr). grown M M.start L.front ++ xs)
      (grown_append M (passed M M.start L.front) (grown L L.start is) (L.back (passed L L.start is)))

  states : (is : List Instr)
      → passed M M.start (woven L is)
      ≡ passed M (passed M (passed M M.start L.front) (grown L L.start is)) (L.back (passed L L.start is))
  states is =
      passed_append M M.start L.front (grown L L.start is ++ L.back (passed L L.start is))
      ∙ passed_append M (passed M M.start L.front) (grown L L.start is) (L.back (passed L L.start is))

  joined : (a b c d e : List Instr) → (a ++ b) ++ (c ++ (d ++ e)) ≡ a ++ ((b ++ (c ++ d)) ++ e)
  joined a b c d e = simp append_assoc

  pub both_woven : (is : List Instr) → woven (both L M) is ≡ woven M (woven L is)
  both_woven is =
      (λ k. (M.front ++ grown M M.start L.front)
      ++ (both_grown L.start (passed M M.start L.front) is k
      ++ (both L M).back (both_passed L.start (passed M M.start L.front) is k)))
      ∙ joined M.front (grown M M.start L.front) (grown M (passed M M.start L.front) (grown L L.start is))
      (grown M (passed M (passed M M.start L.front) (grown L L.start is)) (L.back (passed L L.start is)))
      (M.back (passed M (passed M (passed M M.start L.front) (grown L L.start is))
      (L.back (passed L L.start is))))
      ∙ sym (λ k. M.front ++ (parts is k ++ M.back (states is k)))

  pub both_ended : (is : List Instr) (t : Terminator) → ended (both L M) is t ≡ ended M (woven L is) (ended L is t)
  both_ended is t =
      ap (λ (x : S × T). (both L M).term x t) (both_passed L.start (passed M M.start L.front) is)
      ∙ sym (ap (λ (x : T). M.term x (ended L is t)) (states is))

  pub both_made : (b c d : Block) → IsMadeBy L b c → IsMadeBy M c d → IsMadeBy (both L M) b d
  both_made b c d x y = record {
    label = y.label ∙ x.label;
    instrs = y.instrs ∙ ap (woven M) x.instrs ∙ sym (both_woven b.instrs);
    term = y.term ∙ (λ k. ended M (x.instrs k) (x.term k)) ∙ sym (both_ended b.instrs b.term);
  }
