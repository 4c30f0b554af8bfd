-- No use is undefined (F2): a value isn't used in a block to which a path leads past all blocks that make it.
use Rattle.std.proofs.Common.{◌≡◌, ◌⊎◌, ◌∙◌, inl, inr, ⊎_elim, ℕ, zero, suc, Bool, true, false, List, [], ◌∷◌, ◌++◌, Option, None, Some, ap, length, refl, subst, sym}
use Rattle.std.specs.Prelude.{map, option_to_list, slice_get, if◌then◌else◌, ◌==◌, ◌+◌}
use Rattle.pass_elide_edges.proofs.pass_elide_proof.pass_proofs.ir_laws.facts.Members.{each_left, each_right}
use Rattle.pass_elide_edges.proofs.pass_elide_proof.pass_proofs.ir_laws.facts.Truth.{equal_numbers}
use Rattle.pass_elide_edges.proofs.pass_elide_proof.pass_proofs.ir_laws.paths.source_rules.Locals.{listed_either, listed_right}
use Rattle.pass_elide_edges.proofs.pass_elide_proof.pass_proofs.rule_laws.rules.counted.PartFacts.{AllMadeBefore, block_made, uses_are}
use Rattle.pass_elide_edges.proofs.pass_elide_proof.pass_proofs.rule_laws.rules.renamed.Uses.{none_undefined, of_block, three_kinds}
use Rattle.pass_elide_ready.specs.pass_elide_proof.pass_proofs.flow_solver.Paths.{IsListed}
use Rattle.pass_elide_ready.specs.pass_elide_proof.pass_proofs.ir_base.declared.outcome.Place.{Place}
use Rattle.pass_elide_ready.specs.pass_elide_proof.pass_proofs.ir_model.Names.{position_of}
use Rattle.pass_elide_ready.specs.pass_elide_proof.pass_proofs.ir_model.declared.instr.Incoming.{Incoming}
use Rattle.pass_elide_ready.specs.pass_elide_proof.pass_proofs.ir_model.declared.instr.Instr.{Instr}
use Rattle.pass_elide_ready.specs.pass_elide_proof.pass_proofs.ir_model.declared.instr.Phi.{Phi}
use Rattle.pass_elide_ready.specs.pass_elide_proof.pass_proofs.ir_model.declared.module.Block.{Block}
use Rattle.pass_elide_ready.specs.pass_elide_proof.pass_proofs.ir_model.declared.module.Function.{Function}
use Rattle.pass_elide_ready.specs.pass_elide_proof.pass_proofs.ir_model.declared.operand.Operand.{Operand}
use Rattle.pass_elide_ready.specs.pass_elide_proof.pass_proofs.ir_parts.Contents.{ending_operands, instr_operands, result_of}
use Rattle.pass_elide_ready.specs.pass_elide_proof.pass_proofs.ir_parts.Parts.{instr_place}
use Rattle.pass_elide_ready.specs.pass_elide_proof.pass_proofs.rule_uses.Undefined.{IsFirstUndefined, IsUndefined, ReachesWithout, params_of}
use Rattle.pass_elide_ready.specs.pass_elide_proof.pass_proofs.rule_uses.Uses.{Use, block_values, incoming_use, incoming_uses, local_of, locals_in, made_by_instrs, made_by_phis, phi_uses, phi_values, uses_of, values_at}
use Rattle.pass_elide_ready.specs.pass_elide_proof.pass_proofs.run_laws.changed.Changed.{Each}
use Rattle.pass_elide_ready.specs.pass_elide_proof.pass_proofs.run_step.Step.{incoming_from}

-- ---- what a block makes

module _ (v : ℕ) where
  not_given : (o : Option ℕ) → (o ≡ Some v → ⊥) → IsListed v (option_to_list o) → ⊥
  not_given None never l = l
  not_given (Some u) never (inl same) = never (ap Some (sym same))
  not_given (Some u) never (inr l) = l

  pub unmade_by_instrs : (before : List ℕ) (is : List Instr) → (IsListed v before → ⊥)
      → ((at : ℕ) (i : Instr) → slice_get is at ≡ Some i → result_of i ≡ Some v → ⊥)
      → IsListed v (made_by_instrs before is) → ⊥
  unmade_by_instrs before [] none gives l = none l
  unmade_by_instrs before (i ∷ is) none gives l =
      unmade_by_instrs (option_to_list (result_of i) ++ before) is
      (λ m. ⊎_elim (not_given (result_of i) (gives 0 i refl)) none (listed_either v (option_to_list (result_of i)) before m))
      (λ at j there. gives (suc at) j there) l

  pub unmade_by_phis : (before : List ℕ) (ps : List Phi) → (IsListed v before → ⊥)
      → Each (λ (p : Phi). p.result ≡ v → ⊥) ps → IsListed v (made_by_phis before ps) → ⊥
  unmade_by_phis before [] none gives l = none l
  unmade_by_phis before (p ∷ ps) none gives l =
      unmade_by_phis (p.result ∷ before) ps
      (λ m. ⊎_elim (λ (same : v ≡ p.result). gives.0 (sym same)) none m) gives.1 l

  stays_made : (before : List ℕ) (is : List Instr) → IsListed v before → IsListed v (made_by_instrs before is)
  stays_made before [] l = l
  stays_made before (i ∷ is) l =
      stays_made (option_to_list (result_of i) ++ before) is (listed_right v (option_to_list (result_of i)) before l)

-- ---- uses

module _ (k : ℕ) (f : Function) (uses : IsFirstUndefined f (uses_of k f) None) (v : ℕ)
    (no_param : IsListed v (params_of f) → ⊥) where
  abbrev IsDefined : Use → Type 0
  IsDefined u = IsUndefined f u → ⊥

  among : (block : ℕ) (before : List ℕ) (is : List Instr) → AllMadeBefore f block before is → (at : ℕ) (i : Instr)
      → slice_get is at ≡ Some i → IsListed v (locals_in (instr_operands i)) → ReachesWithout f v block
      → (IsListed v (made_by_instrs before is) → ⊥) → ⊥
  among block before [] all at i there l reaches unmade = absurd (cc)
  among block before (j ∷ is) all zero i there l reaches unmade =
      let same : i ≡ j = cc in
      all.0 v (subst (λ (x : Instr). IsListed v (locals_in (instr_operands x))) same l) reaches
      (λ m. unmade (stays_made v before (j ∷ is) m)) no_param
  among block before (j ∷ is) all (suc at) i there l reaches unmade =
      among block (option_to_list (result_of j) ++ before) is all.1 at i there l reaches unmade

  -- by an instruction
  pub instr_defined : (block : ℕ) (b : Block) → slice_get f.blocks block ≡ Some b → (at : ℕ) (i : Instr)
      → slice_get b.instrs at ≡ Some i → IsListed v (locals_in (instr_operands i)) → ReachesWithout f v block
      → (IsListed v (block_values b) → ⊥) → ⊥
  instr_defined block b got at i there l reaches unmade =
      among block (phi_values b) b.instrs (block_made f k uses block b got) at i there l reaches unmade

  -- by what ends a block
  pub term_defined : (block : ℕ) (b : Block) → slice_get f.blocks block ≡ Some b
      → IsListed v (locals_in (ending_operands b.term)) → ReachesWithout f v block
      → (IsListed v (block_values b) → ⊥) → ⊥
  term_defined block b got l reaches unmade =
      let all = three_kinds IsDefined f k block b
      (of_block IsDefined f k block b (none_undefined f (uses_of k f) None uses refl) got) in
      uses_are f (instr_place k block (length b.phis + length b.instrs)) block (block_values b)
      (locals_in (ending_operands b.term)) all.term v l
      (record { reaches = reaches; not_before = unmade; no_param = no_param })

  -- ---- by a phi, at the end of the block of a label

  module _ (label : ℕ) (reaches : ReachesWithout f v (position_of f label))
      (unmade : IsListed v (values_at f (position_of f label)) → ⊥) where
    taken_here : (place : Place) (i : Incoming) → i.from ≡ label → i.value ≡ Operand.Local v
        → Each IsDefined (map (incoming_use f place i) (option_to_list (local_of i.value))) → ⊥
    taken_here place i from is all =
        let one : Each IsDefined (map (incoming_use f place i) (v ∷ []))
        = subst (λ (o : Operand). Each IsDefined (map (incoming_use f place i) (option_to_list (local_of o)))) is all in
        one.0 (record {
          reaches = subst (λ (n : ℕ). ReachesWithout f v (position_of f n)) (sym from) reaches;
          not_before = λ l. unmade (subst (λ (n : ℕ). IsListed v (values_at f (position_of f n))) from l);
          no_param = no_param;
        })

    among_incoming : (place : Place) (is : List Incoming) → Each IsDefined (incoming_uses f place is)
        → incoming_from is label ≡ Operand.Local v → ⊥
    among_incoming place [] all is = absurd (cc)
    among_incoming place (i ∷ is) all takes =
        let here : List Use = map (incoming_use f place i) (option_to_list (local_of i.value)) in
        on (i.from == label) refl takes (each_left IsDefined here (incoming_uses f place is) all)
        (among_incoming place is (each_right IsDefined here (incoming_uses f place is) all))
      where
        on : (b : Bool) → (i.from == label) ≡ b → (if b then i.value else incoming_from is label) ≡ Operand.Local v
            → Each IsDefined (map (incoming_use f place i) (option_to_list (local_of i.value)))
            → (incoming_from is label ≡ Operand.Local v → ⊥) → ⊥
        on true same value here rest = taken_here place i (equal_numbers i.from label same) value here
        on false other value here rest = rest value

    among_phis : (block at : ℕ) (ps : List Phi) → Each IsDefined (phi_uses f k block at ps) → (p : Phi) → IsListed p ps
        → incoming_from p.incoming label ≡ Operand.Local v → ⊥
    among_phis block at [] all p l takes = l
    among_phis block at (q ∷ ps) all p l takes =
        let here : List Use = incoming_uses f (instr_place k block at) q.incoming in
        ⊎_elim
        (λ (same : p ≡ q). among_incoming (instr_place k block at) q.incoming
        (each_left IsDefined here (phi_uses f k block (at + 1) ps) all)
        (subst (λ (x : Phi). incoming_from x.incoming label ≡ Operand.Local v) same takes))
        (λ rest. among_phis block (at + 1) ps (each_right IsDefined here (phi_uses f k block (at + 1) ps) all) p rest
        takes) l

    pub phi_defined : (block : ℕ) (b : Block) → slice_get f.blocks block ≡ Some b → (p : Phi) → IsListed p b.phis
        → incoming_from p.incoming label ≡ Operand.Local v → ⊥
    phi_defined block b got p l takes =
        let all = three_kinds IsDefined f k block b
        (of_block IsDefined f k block b (none_undefined f (uses_of k f) None uses refl) got) in
        among_phis block 0 b.phis all.phis p l takes
