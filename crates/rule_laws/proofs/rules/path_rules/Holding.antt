-- What holds of all parts of a function, by what stands at each place of it.
use Rattle.std.proofs.Common.{◌≡◌, inr, ℕ, zero, suc, ◌+◌, Bool, false, List, [], ◌∷◌, ◌++◌, length, refl, ap, ◌∙◌, subst, arith}
use Rattle.std.specs.Prelude.{Some, None, slice_get}
use Rattle.ir_laws.specs.ir_base.declared.outcome.Place.{Place}
use Rattle.ir_laws.proofs.facts.Members.{each_behind}
use Rattle.rule_laws.proofs.rules.renamed.Outside.{each_left, each_right}
use Rattle.ir_parts.specs.Parts.{Part, Signature, Head, OfPhi, OfInstr, Ending, block_parts, block_place, blocks_parts, first_part, function_place, instr_parts, instr_place, or_place, parts_of, phi_parts, place_if}
use Rattle.ir_laws.specs.ir_model.declared.instr.Instr.{Instr}
use Rattle.ir_laws.specs.ir_model.declared.instr.Phi.{Phi}
use Rattle.ir_laws.specs.ir_model.declared.module.Block.{Block}
use Rattle.ir_laws.specs.ir_model.declared.module.Function.{Function}
use Rattle.ir_laws.specs.run_laws.changed.Changed.{Each}
use Rattle.rule_windows.specs.First.{IsFirst}

-- what holds of the parts of a block of a number
pub record HoldsIn (P : Place × Part → Type 0) (func block : ℕ) (b : Block) : Type 0 where
  pub head : P (block_place func block, Head b)
  pub phis : (j : ℕ) (x : Phi) → slice_get b.phis j ≡ Some x → P (instr_place func block j, OfPhi x)
  pub instrs : (j : ℕ) (i : Instr) → slice_get b.instrs j ≡ Some i → P (instr_place func block (length b.phis + j), OfInstr i)
  pub ending : P (instr_place func block (length b.phis + length b.instrs), Ending b.term)

-- what holds of the parts of a function
pub record HoldsOf (P : Place × Part → Type 0) (func : ℕ) (f : Function) : Type 0 where
  pub signature : P (function_place func, Signature f)
  pub blocks : (k : ℕ) (b : Block) → slice_get f.blocks k ≡ Some b → HoldsIn P func k b

module _ (P : Place × Part → Type 0) (func : ℕ) where
  to_phis : (block at : ℕ) (ps : List Phi) → ((j : ℕ) (x : Phi) → slice_get ps j ≡ Some x → P (instr_place func block (at + j), OfPhi x)) → Each P (phi_parts func block at ps)
  to_phis block at [] h = tt
  to_phis block at (p ∷ ps) h = (
    (let same : at + 0 ≡ at = omega arith in subst (λ (n : ℕ). P (instr_place func block n, OfPhi p)) same (h 0 p refl)),
    to_phis block (at + 1) ps (λ j x e. let same : at + suc j ≡ at + 1 + j = omega arith in subst (λ (n : ℕ). P (instr_place func block n, OfPhi x)) same (h (suc j) x e)),
  )

  to_instrs : (block at : ℕ) (is : List Instr) → ((j : ℕ) (i : Instr) → slice_get is j ≡ Some i → P (instr_place func block (at + j), OfInstr i)) → Each P (instr_parts func block at is)
  to_instrs block at [] h = tt
  to_instrs block at (i ∷ is) h = (
    (let same : at + 0 ≡ at = omega arith in subst (λ (n : ℕ). P (instr_place func block n, OfInstr i)) same (h 0 i refl)),
    to_instrs block (at + 1) is (λ j x e. let same : at + suc j ≡ at + 1 + j = omega arith in subst (λ (n : ℕ). P (instr_place func block n, OfInstr x)) same (h (suc j) x e)),
  )

  to_block : (block : ℕ) (b : Block) → HoldsIn P func block b → Each P (block_parts func block b)
  unfolding block_parts
  to_block block b h =
      let phis : List (Place × Part) = phi_parts func block 0 b.phis in
      let instrs : List (Place × Part) = instr_parts func block (length b.phis) b.instrs in
      let end : List (Place × Part) = (instr_place func block (length b.phis + length b.instrs), Ending b.term) ∷ [] in (
        h.head,
        each_behind P phis (instrs ++ end)
            (to_phis block 0 b.phis (λ j x e. let same : j ≡ 0 + j = omega arith in subst (λ (n : ℕ). P (instr_place func block n, OfPhi x)) same (h.phis j x e)))
            (each_behind P instrs end (to_instrs block (length b.phis) b.instrs h.instrs) (h.ending, tt)),
      )

  to_blocks : (block : ℕ) (bs : List Block) → ((k : ℕ) (b : Block) → slice_get bs k ≡ Some b → HoldsIn P func (block + k) b) → Each P (blocks_parts func block bs)
  to_blocks block [] h = tt
  to_blocks block (b ∷ bs) h =
      each_behind P (block_parts func block b) (blocks_parts func (block + 1) bs)
      (to_block block b (let same : block + 0 ≡ block = omega arith in subst (λ (n : ℕ). HoldsIn P func n b) same (h 0 b refl)))
      (to_blocks (block + 1) bs (λ k c e. let same : block + suc k ≡ block + 1 + k = omega arith in subst (λ (n : ℕ). HoldsIn P func n c) same (h (suc k) c e)))

  pub to_parts : (f : Function) → HoldsOf P func f → Each P (parts_of func f)
  to_parts f h = (h.signature, to_blocks 0 f.blocks (λ k b e. let same : k ≡ 0 + k = omega arith in subst (λ (n : ℕ). HoldsIn P func n b) same (h.blocks k b e)))

  of_phis : (block at : ℕ) (ps : List Phi) → Each P (phi_parts func block at ps) → (j : ℕ) (x : Phi) → slice_get ps j ≡ Some x → P (instr_place func block (at + j), OfPhi x)
  of_phis block at [] h j x e = absurd (cc)
  of_phis block at (p ∷ ps) h zero x e =
      let same : at ≡ at + 0 = omega arith in
      let one : p ≡ x = cc in
      subst (λ (n : ℕ). P (instr_place func block n, OfPhi x)) same (subst (λ (y : Phi). P (instr_place func block at, OfPhi y)) one h.0)
  of_phis block at (p ∷ ps) h (suc j) x e =
      let same : at + 1 + j ≡ at + suc j = omega arith in
      subst (λ (n : ℕ). P (instr_place func block n, OfPhi x)) same (of_phis block (at + 1) ps h.1 j x e)

  of_instrs : (block at : ℕ) (is : List Instr) → Each P (instr_parts func block at is) → (j : ℕ) (i : Instr) → slice_get is j ≡ Some i → P (instr_place func block (at + j), OfInstr i)
  of_instrs block at [] h j i e = absurd (cc)
  of_instrs block at (x ∷ is) h zero i e =
      let same : at ≡ at + 0 = omega arith in
      let one : x ≡ i = cc in
      subst (λ (n : ℕ). P (instr_place func block n, OfInstr i)) same (subst (λ (y : Instr). P (instr_place func block at, OfInstr y)) one h.0)
  of_instrs block at (x ∷ is) h (suc j) i e =
      let same : at + 1 + j ≡ at + suc j = omega arith in
      subst (λ (n : ℕ). P (instr_place func block n, OfInstr i)) same (of_instrs block (at + 1) is h.1 j i e)

  of_block : (block : ℕ) (b : Block) → Each P (block_parts func block b) → HoldsIn P func block b
  unfolding block_parts
  of_block block b h =
      let phis : List (Place × Part) = phi_parts func block 0 b.phis in
      let instrs : List (Place × Part) = instr_parts func block (length b.phis) b.instrs in
      let end : List (Place × Part) = (instr_place func block (length b.phis + length b.instrs), Ending b.term) ∷ [] in
      let rest : Each P (instrs ++ end) = each_right P phis (instrs ++ end) h.1 in
      let last : Each P end = each_right P instrs end rest in
      record {
        head = h.0;
        phis = λ j x e. let same : 0 + j ≡ j = omega arith in subst (λ (n : ℕ). P (instr_place func block n, OfPhi x)) same (of_phis block 0 b.phis (each_left P phis (instrs ++ end) h.1) j x e);
        instrs = of_instrs block (length b.phis) b.instrs (each_left P instrs end rest);
        ending = last.0;
      }

  of_blocks : (block : ℕ) (bs : List Block) → Each P (blocks_parts func block bs) → (k : ℕ) (b : Block) → slice_get bs k ≡ Some b → HoldsIn P func (block + k) b
  of_blocks block [] h k b e = absurd (cc)
  of_blocks block (c ∷ bs) h zero b e =
      let same : block ≡ block + 0 = omega arith in
      let one : c ≡ b = cc in
      subst (λ (n : ℕ). HoldsIn P func n b) same (subst (λ (x : Block). HoldsIn P func block x) one (of_block block c (each_left P (block_parts func block c) (blocks_parts func (block + 1) bs) h)))
  of_blocks block (c ∷ bs) h (suc k) b e =
      let same : block + 1 + k ≡ block + suc k = omega arith in
      subst (λ (n : ℕ). HoldsIn P func n b) same (of_blocks (block + 1) bs (each_right P (block_parts func block c) (blocks_parts func (block + 1) bs) h) k b e)

  pub of_parts : (f : Function) → Each P (parts_of func f) → HoldsOf P func f
  of_parts f h = record {
    signature = h.0;
    blocks = λ k b e. let same : 0 + k ≡ k = omega arith in subst (λ (n : ℕ). HoldsIn P func n b) same (of_blocks 0 f.blocks h.1 k b e);
  }

-- ---- where nothing breaks a rule

pub first_none : {A : Type 0} (P : A → Type 0) (place : A → Place) (xs : List A) → Each (λ x. P x → ⊥) xs → IsFirst P place xs None
first_none P place [] h = refl
first_none P place (x ∷ xs) h = inr (h.0, first_none P place xs h.1)

pub part_none : (breaks : Place → Part → Bool) (xs : List (Place × Part)) → Each (λ x. breaks x.0 x.1 ≡ false) xs → first_part breaks xs ≡ None
part_none breaks [] h = refl
part_none breaks (x ∷ xs) h = ap (λ (b : Bool). or_place (place_if b x.0) (first_part breaks xs)) h.0 ∙ part_none breaks xs h.1
