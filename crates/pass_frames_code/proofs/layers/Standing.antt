-- What stands at the places of a block that a pass makes.
use Rattle.std.proofs.Common.{◌≡◌, ℕ, zero, suc, ◌+◌, List, [], ◌∷◌, ◌++◌, length, refl, sym, ap, ◌∙◌, subst, arith, append_assoc, append-nil}
use Rattle.std.proofs.lemmas.List.{length-append}
use Rattle.std.specs.Prelude.{None, Option, Some, drop, slice_get, take, ◌==◌}
use Rattle.pass_proofs.proofs.ir_laws.facts.Lists.{get_behind}
use Rattle.pass_proofs.proofs.ir_laws.facts.Truth.{itself}
use Rattle.pass_proofs.specs.ir_model.declared.instr.Instr.{Instr}
use Rattle.pass_proofs.specs.ir_model.declared.module.Block.{Block}
use Rattle.pass_proofs.specs.ir_model.declared.module.Function.{Function}
use Rattle.pass_frames_code.proofs.layers.Grown.{grown_append, grown_one, passed_append}
use Rattle.pass_frames_code.specs.Layers.{IsMadeBy, Layer, becomes, ended, grown, passed, place_in, state_at, up_to, woven}
use Rattle.pass_proofs.specs.run_laws.access.Lines.{StandAt}
use Rattle.pass_proofs.specs.run_step.Step.{AtInstr, AtTerm, fetch, fetch_in, fetch_or}

-- ---- lists

module _ {A : Type 0} where
  -- an element of a list with those before and behind it
  pub split_at : (xs : List A) (k : ℕ) (x : A) → slice_get xs k ≡ Some x → xs ≡ take k xs ++ x ∷ drop (suc k) xs
  split_at [] k x e = absurd (cc)
  split_at (y ∷ xs) zero x e = let same : y ≡ x = cc in ap (λ (z : A). z ∷ xs) same
  split_at (y ∷ xs) (suc k) x e = ap (λ (ys : List A). y ∷ ys) (split_at xs k x e)

  pub take_one : (xs : List A) (k : ℕ) (x : A) → slice_get xs k ≡ Some x → take (k + 1) xs ≡ take k xs ++ x ∷ []
  take_one xs k x e = let next : k + 1 ≡ suc k = omega arith in ap (λ (n : ℕ). take n xs) next ∙ on xs k e
    where
      on : (ys : List A) (j : ℕ) → slice_get ys j ≡ Some x → take (suc j) ys ≡ take j ys ++ x ∷ []
      on [] j d = absurd (cc)
      on (y ∷ ys) zero d = let same : y ≡ x = cc in ap (λ (z : A). z ∷ []) same
      on (y ∷ ys) (suc j) d = ap (λ (zs : List A). y ∷ zs) (on ys j d)

  pub take_whole : (xs : List A) → take (length xs) xs ≡ xs
  take_whole [] = refl
  take_whole (x ∷ xs) = ap (λ (ys : List A). x ∷ ys) (take_whole xs)

  pub none_behind : (xs : List A) → slice_get xs (length xs) ≡ None
  none_behind [] = refl
  none_behind (x ∷ xs) = none_behind xs

-- ---- fetching from a block

module _ (f : Function) (k : ℕ) (c : Block) (there : slice_get f.blocks k ≡ Some c) where
  instr_fetched : (at : ℕ) (i : Instr) → slice_get c.instrs at ≡ Some i → fetch f k at ≡ AtInstr i
  instr_fetched at i e =
      ap (λ (o : Option Block). fetch_in o at) there
      ∙ ap (λ (o : Option Instr). fetch_or o (at == length c.instrs) c.term) e

  term_fetched : fetch f k (length c.instrs) ≡ AtTerm c.term
  term_fetched =
      ap (λ (o : Option Block). fetch_in o (length c.instrs)) there
      ∙ (λ j. fetch_or (none_behind c.instrs j) (itself (length c.instrs) j) c.term)

  -- a part of a block's instructions stands behind those before it
  pub part_stands : (xs ys zs : List Instr) → c.instrs ≡ xs ++ (ys ++ zs) → StandAt f k (length xs) ys
  part_stands xs [] zs e = tt
  part_stands xs (y ∷ ys) zs e =
      (here, subst (λ (n : ℕ). StandAt f k n ys) longer (part_stands (xs ++ y ∷ []) ys zs next))
    where
      zero-behind : length xs + 0 ≡ length xs
      zero-behind = omega arith

      here : fetch f k (length xs) ≡ AtInstr y
      here =
          instr_fetched (length xs) y
          (ap (λ (is : List Instr). slice_get is (length xs)) e
          ∙ ap (slice_get (xs ++ ((y ∷ ys) ++ zs))) (sym zero-behind)
          ∙ get_behind xs ((y ∷ ys) ++ zs) 0)

      longer : length (xs ++ y ∷ []) ≡ length xs + 1
      longer = length-append xs (y ∷ [])

      next : c.instrs ≡ (xs ++ y ∷ []) ++ (ys ++ zs)
      next = e ∙ sym (append_assoc xs (y ∷ []) (ys ++ zs))

  pub end_stands : (xs : List Instr) → c.instrs ≡ xs → fetch f k (length xs) ≡ AtTerm c.term
  end_stands xs e = subst (λ (is : List Instr). fetch f k (length is) ≡ AtTerm c.term) e term_fetched

-- ---- places

module _ {S : Type 0} (L : Layer S) where
  -- what stands behind what an instruction becomes
  pub rest : List Instr → ℕ → Instr → List Instr
  rest is k i = grown L (L.after (state_at L is k) i) (drop (suc k) is) ++ L.back (passed L L.start is)

  pub split_woven : (is : List Instr) (k : ℕ) (i : Instr) → slice_get is k ≡ Some i
      → woven L is ≡ up_to L is k ++ (becomes L (state_at L is k) i ++ rest is k i)
  unfolding rest
  split_woven is k i e =
      ap (λ (js : List Instr). L.front ++ (grown L L.start js ++ L.back (passed L L.start is))) (split_at is k i e)
      ∙ ap (λ (xs : List Instr). L.front ++ (xs ++ L.back (passed L L.start is)))
      (grown_append L L.start (take k is) (i ∷ drop (suc k) is))
      ∙ simp append_assoc

  pub one_stands : (f : Function) (k at : ℕ) (b c : Block) (i : Instr) → IsMadeBy L b c
      → slice_get f.blocks k ≡ Some c → slice_get b.instrs at ≡ Some i
      → StandAt f k (place_in L b.instrs at) (becomes L (state_at L b.instrs at) i)
  one_stands f k at b c i m there e =
      part_stands f k c there (up_to L b.instrs at) (becomes L (state_at L b.instrs at) i) (rest b.instrs at i)
      (m.instrs ∙ split_woven b.instrs at i e)

  pub state_next : (is : List Instr) (at : ℕ) (i : Instr) → slice_get is at ≡ Some i
      → state_at L is (at + 1) ≡ L.after (state_at L is at) i
  state_next is at i e = ap (passed L L.start) (take_one is at i e) ∙ passed_append L L.start (take at is) (i ∷ [])

  pub up_to_next : (is : List Instr) (at : ℕ) (i : Instr) → slice_get is at ≡ Some i
      → up_to L is (at + 1) ≡ up_to L is at ++ becomes L (state_at L is at) i
  up_to_next is at i e =
      ap (λ (js : List Instr). L.front ++ grown L L.start js) (take_one is at i e)
      ∙ ap (λ (xs : List Instr). L.front ++ xs)
      (grown_append L L.start (take at is) (i ∷ [])
      ∙ ap (λ (xs : List Instr). grown L L.start (take at is) ++ xs) (grown_one L (state_at L is at) i))
      ∙ sym (append_assoc L.front (grown L L.start (take at is)) (becomes L (state_at L is at) i))

  pub place_next : (is : List Instr) (at : ℕ) (i : Instr) → slice_get is at ≡ Some i
      → place_in L is (at + 1) ≡ place_in L is at + length (becomes L (state_at L is at) i)
  place_next is at i e =
      ap length (up_to_next is at i e) ∙ length-append (up_to L is at) (becomes L (state_at L is at) i)

  pub front_stands : (f : Function) (k : ℕ) (b c : Block) → IsMadeBy L b c → slice_get f.blocks k ≡ Some c
      → StandAt f k 0 L.front
  front_stands f k b c m there =
      part_stands f k c there [] L.front (grown L L.start b.instrs ++ L.back (passed L L.start b.instrs)) m.instrs

  pub first_place : (is : List Instr) → place_in L is 0 ≡ length L.front
  first_place is = ap length (append-nil L.front)

  pub end_woven : (is : List Instr) → woven L is ≡ up_to L is (length is) ++ L.back (passed L L.start is)
  end_woven is =
      ap (λ (js : List Instr). L.front ++ (grown L L.start js ++ L.back (passed L L.start is))) (sym (take_whole is))
      ∙ sym (append_assoc L.front (grown L L.start (take (length is) is)) (L.back (passed L L.start is)))

  pub back_stands : (f : Function) (k : ℕ) (b c : Block) → IsMadeBy L b c → slice_get f.blocks k ≡ Some c
      → StandAt f k (place_in L b.instrs (length b.instrs)) (L.back (passed L L.start b.instrs))
  back_stands f k b c m there =
      part_stands f k c there (up_to L b.instrs (length b.instrs)) (L.back (passed L L.start b.instrs)) []
      (m.instrs ∙ end_woven b.instrs
      ∙ ap (λ (xs : List Instr). up_to L b.instrs (length b.instrs) ++ xs)
      (sym (append-nil (L.back (passed L L.start b.instrs)))))

  pub term_stands : (f : Function) (k : ℕ) (b c : Block) → IsMadeBy L b c → slice_get f.blocks k ≡ Some c
      → fetch f k (place_in L b.instrs (length b.instrs) + length (L.back (passed L L.start b.instrs)))
      ≡ AtTerm (ended L b.instrs b.term)
  term_stands f k b c m there =
      ap (fetch f k) (sym (length-append (up_to L b.instrs (length b.instrs)) (L.back (passed L L.start b.instrs))))
      ∙ end_stands f k c there (up_to L b.instrs (length b.instrs) ++ L.back (passed L L.start b.instrs))
      (m.instrs ∙ end_woven b.instrs)
      ∙ ap AtTerm m.term
