-- What a rule that no part of a function breaks says of the parts of a block, and what F2 says of the uses there.
use Rattle.std.proofs.Common.{◌≡◌, inl, inr, ℕ, zero, suc, ◌+◌, Bool, true, false, List, [], ◌∷◌, ◌++◌, length, refl, sym, ap, ◌∙◌, subst, arith}
use Rattle.std.specs.List.{list_all}
use Rattle.std.specs.Prelude.{Some, None, map, option_to_list, slice_get}
use Rattle.rule_laws.proofs.rules.counted.Indices.{AreMadeBefore}
use Rattle.ir_laws.specs.ir_base.declared.outcome.Place.{Place}
use Rattle.rule_uses.specs.Undefined.{IsFirstUndefined, IsUndefined}
use Rattle.rule_uses.specs.Uses.{Use, instr_uses, locals_in, phi_values, use_of, uses_at, uses_of}
use Rattle.rule_laws.proofs.rules.renamed.Uses.{none_undefined, of_block, three_kinds}
use Rattle.rule_laws.proofs.rules.local_rules.Carried.{Passing, passing}
use Rattle.ir_laws.proofs.facts.Truth.{and_first, and_second}
use Rattle.ir_laws.proofs.facts.Members.{each_left, each_right}
use Rattle.ir_laws.specs.flow_solver.Paths.{IsListed}
use Rattle.ir_parts.specs.Contents.{instr_operands, result_of}
use Rattle.ir_parts.specs.Parts.{Ending, Head, OfInstr, OfPhi, Part, Signature, block_parts, block_place, blocks_parts, first_part, instr_parts, instr_place, parts_of, phi_parts}
use Rattle.ir_laws.specs.ir_model.declared.instr.Instr.{Instr}
use Rattle.ir_laws.specs.ir_model.declared.instr.Phi.{Phi}
use Rattle.ir_laws.specs.ir_model.declared.module.Block.{Block}
use Rattle.ir_laws.specs.ir_model.declared.module.Function.{Function}
use Rattle.ir_laws.specs.run_laws.changed.Changed.{Each}

pub all_at : {A : Type 0} (t : A → Bool) (xs : List A) → list_all t xs ≡ true → (k : ℕ) (x : A) → slice_get xs k ≡ Some x → t x ≡ true
all_at t [] h k x e = absurd (cc)
all_at t (y ∷ ys) h zero x e = let same : y ≡ x = cc in ap t (sym same) ∙ and_first (t y) (list_all t ys) h
all_at t (y ∷ ys) h (suc k) x e = all_at t ys (and_second (t y) (list_all t ys) h) k x e

-- ---- parts

module _ (breaks : Place → Part → Bool) where
  abbrev pub PhiPasses : ℕ → Phi → Type 0
  PhiPasses block x = (p : Place) × (p.block ≡ Some block) × (breaks p (OfPhi x) ≡ false)

  abbrev pub InstrPasses : ℕ → Instr → Type 0
  InstrPasses block x = (p : Place) × (p.block ≡ Some block) × (breaks p (OfInstr x) ≡ false)

  pub record BlockPasses (block : ℕ) (b : Block) : Type 0 where
    pub head : (p : Place) × (p.block ≡ Some block) × (breaks p (Head b) ≡ false)
    pub phis : Each (PhiPasses block) b.phis
    pub instrs : Each (InstrPasses block) b.instrs
    pub ending : (p : Place) × (breaks p (Ending b.term) ≡ false)

  phis_pass : (func block at : ℕ) (ps : List Phi) → Passing breaks (phi_parts func block at ps) → Each (PhiPasses block) ps
  phis_pass func block at [] h = tt
  phis_pass func block at (p ∷ ps) h = ((instr_place func block at, refl, h.0), phis_pass func block (at + 1) ps h.1)

  instrs_pass : (func block at : ℕ) (is : List Instr) → Passing breaks (instr_parts func block at is) → Each (InstrPasses block) is
  instrs_pass func block at [] h = tt
  instrs_pass func block at (i ∷ is) h = ((instr_place func block at, refl, h.0), instrs_pass func block (at + 1) is h.1)

  of_parts : (func block : ℕ) (b : Block) → Passing breaks (block_parts func block b) → BlockPasses block b
  unfolding block_parts
  of_parts func block b h =
      let Good : Place × Part → Type 0 = λ x. breaks x.0 x.1 ≡ false in
      let end : List (Place × Part) = (instr_place func block (length b.phis + length b.instrs), Ending b.term) ∷ [] in
      let instrs : List (Place × Part) = instr_parts func block (length b.phis) b.instrs in
      let phis : List (Place × Part) = phi_parts func block 0 b.phis in
      let rest = each_right Good phis (instrs ++ end) h.1 in
      record {
        head = (block_place func block, refl, h.0);
        phis = phis_pass func block 0 b.phis (each_left Good phis (instrs ++ end) h.1);
        instrs = instrs_pass func block (length b.phis) b.instrs (each_left Good instrs end rest);
        ending = (instr_place func block (length b.phis + length b.instrs), (each_right Good instrs end rest).0);
      }

  blocks_pass : (func at : ℕ) (bs : List Block) → Passing breaks (blocks_parts func at bs) → (j : ℕ) (b : Block) → slice_get bs j ≡ Some b → BlockPasses (at + j) b
  blocks_pass func at [] h j b e = absurd (cc)
  blocks_pass func at (c ∷ bs) h zero b e =
      let is_one : c ≡ b = cc in
      let same : at ≡ at + 0 = omega arith in
      subst (λ (n : ℕ). BlockPasses n b) same (subst (λ (x : Block). BlockPasses at x) is_one (of_parts func at c (each_left (λ x. breaks x.0 x.1 ≡ false) (block_parts func at c) (blocks_parts func (at + 1) bs) h)))
  blocks_pass func at (c ∷ bs) h (suc j) b e =
      let same : at + 1 + j ≡ at + suc j = omega arith in
      subst (λ (n : ℕ). BlockPasses n b) same (blocks_pass func (at + 1) bs (each_right (λ x. breaks x.0 x.1 ≡ false) (block_parts func at c) (blocks_parts func (at + 1) bs) h) j b e)

  pub block_passes : (k : ℕ) (f : Function) → first_part breaks (parts_of k f) ≡ None → (j : ℕ) (b : Block) → slice_get f.blocks j ≡ Some b → BlockPasses j b
  block_passes k f e j b there =
      let same : 0 + j ≡ j = omega arith in
      subst (λ (n : ℕ). BlockPasses n b) same (blocks_pass k 0 f.blocks (passing breaks (parts_of k f) e).1 j b there)

  -- the signature passes too
  pub signature_passes : (k : ℕ) (f : Function) → first_part breaks (parts_of k f) ≡ None → (p : Place) × (breaks p (Signature f) ≡ false)
  signature_passes k f e = (_, (passing breaks (parts_of k f) e).0)

-- ---- uses

module _ (f : Function) where
  abbrev IsDefined : Use → Type 0
  IsDefined u = IsUndefined f u → ⊥

  pub uses_are : (place : Place) (block : ℕ) (before vs : List ℕ) → Each IsDefined (map (use_of place block before) vs) → (v : ℕ) → IsListed v vs → IsDefined (use_of place block before v)
  uses_are place block before [] h v l = absurd l
  uses_are place block before (x ∷ xs) h v (inl e) = subst (λ (n : ℕ). IsDefined (use_of place block before n)) (sym e) h.0
  uses_are place block before (x ∷ xs) h v (inr l) = uses_are place block before xs h.1 v l

  -- so it is of each instruction of a list, behind what those before it make
  abbrev pub AllMadeBefore : ℕ → List ℕ → List Instr → Type 0
  AllMadeBefore block before [] = Unit {0}
  AllMadeBefore block before (i ∷ is) = AreMadeBefore f block before (instr_operands i) × AllMadeBefore block (option_to_list (result_of i) ++ before) is

  instrs_made : (func block at : ℕ) (before : List ℕ) (is : List Instr) → Each IsDefined (instr_uses func block at before is) → AllMadeBefore block before is
  instrs_made func block at before [] h = tt
  instrs_made func block at before (i ∷ is) h =
      let here : List Use = uses_at (instr_place func block at) block before (instr_operands i) in
      let rest : List Use = instr_uses func block (at + 1) (option_to_list (result_of i) ++ before) is in (
        λ v l r a b. uses_are (instr_place func block at) block before (locals_in (instr_operands i)) (each_left IsDefined here rest h) v l (record { reaches = r; not_before = a; no_param = b }),
        instrs_made func block (at + 1) (option_to_list (result_of i) ++ before) is (each_right IsDefined here rest h),
      )

  pub block_made : (k : ℕ) → IsFirstUndefined f (uses_of k f) None → (j : ℕ) (b : Block) → slice_get f.blocks j ≡ Some b → AllMadeBefore j (phi_values b) b.instrs
  block_made k none j b e =
      let all = three_kinds IsDefined f k j b (of_block IsDefined f k j b (none_undefined f (uses_of k f) None none refl) e) in
      instrs_made k j (length b.phis) (phi_values b) b.instrs all.instrs
