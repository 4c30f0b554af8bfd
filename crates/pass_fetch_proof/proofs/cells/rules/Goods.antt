-- What the rules say of each instruction, as it is asked of those that are woven.
use Rattle.std.proofs.Common.{◌≡◌, inl, inr, ℕ, Bool, true, false, List, [], ◌∷◌, ◌++◌, refl, sym, ap, ◌∙◌, subst}
use Rattle.std.specs.List.{list_all}
use Rattle.std.specs.Prelude.{Option, Some, None, not, option_to_list, slice_get, ◌&&◌}
use Rattle.pass_fetch_proof.proofs.cells.rules.Instrs.{AreGood}
use Rattle.pass_fetch_proof.proofs.cells.rules.Keepable.{block_fits, block_widths, keeping_holds, kept_values}
use Rattle.pass_edges_proof.proofs.rule_laws.rules.counted.PartFacts.{AllMadeBefore, block_made, block_passes}
use Rattle.pass_fetch_proof.specs.cells.rules.Asked.{AreCellsFor}
use Rattle.pass_edges_proof.specs.ir_laws.facts.counted.Widths.{has_width}
use Rattle.pass_edges_proof.specs.ir_base.declared.outcome.Place.{Place}
use Rattle.pass_edges_proof.specs.rule_uses.Uses.{local_of, locals_in, phi_values}
use Rattle.pass_edges_proof.proofs.ir_laws.facts.Members.{at_each, each_there}
use Rattle.pass_edges_proof.proofs.ir_laws.facts.Truth.{holds}
use Rattle.pass_edges_proof.specs.flow_solver.Paths.{IsListed}
use Rattle.pass_edges_proof.specs.ir_parts.Contents.{arg_operands, instr_operands, instr_types, result_of}
use Rattle.pass_edges_proof.specs.rule_laws.rules.function_rules.Kept.{KeepsFunctionRules}
use Rattle.ir_model.specs.declared.instr.Instr.{Instr}
use Rattle.ir_model.specs.declared.module.Block.{Block}
use Rattle.ir_model.specs.declared.module.Function.{Function}
use Rattle.ir_model.specs.declared.module.Module.{Module}
use Rattle.ir_model.specs.declared.operand.Arg.{Arg}
use Rattle.ir_model.specs.declared.operand.Callee.{Callee}
use Rattle.ir_model.specs.declared.operand.Operand.{Operand}
use Rattle.pass_edges_proof.specs.rule_locals.Instrs.{on_instr}
use Rattle.pass_edges_proof.specs.rule_locals.Markers.{is_marker, is_size_or_all, marks, marks_otherwise, marks_size, marks_slot, slot_size}
use Rattle.pass_edges_proof.specs.run_laws.changed.Changed.{Each}
use Rattle.pass_edges_proof.specs.pass_cells.Kept.{entry}
use Rattle.pass_edges_proof.specs.pass_cells.declared.plan.Plan.{Plan}
use Rattle.pass_edges_proof.specs.rule_values.Instrs.{fits_instr}
use Rattle.pass_edges_proof.specs.rule_values.Kinds.{value_kind}
use Rattle.pass_edges_proof.specs.rule_laws.rules.woven_rules.Blocks.{is_mark}

-- ---- markers mark slots

size_there : (x : Operand) (o : Option ℕ) → marks_size x o ≡ true → (s : ℕ) × (o ≡ Some s)
size_there x None h = absurd (cc)
size_there x (Some s) h = (s, refl)

size_no_local : (x : Operand) (s : ℕ) → is_size_or_all x s ≡ true → local_of x ≡ None
size_no_local (Operand.Local v) s h = absurd (cc)
size_no_local _ s h = refl

module _ (sizes : ℕ → Option ℕ) where
  marked : (x y : Operand) → marks_slot sizes x y ≡ true → (v : ℕ) → IsListed v (locals_in (x ∷ y ∷ [])) → (s : ℕ) × (sizes v ≡ Some s)
  marked x (Operand.Local u) h v l =
      let size = size_there x (sizes u) h in
      let none : local_of x ≡ None = size_no_local x size.0 (subst (λ (o : Option ℕ). marks_size x o ≡ true) size.1 h) in
      only size (subst (λ (o : Option ℕ). IsListed v (option_to_list o ++ u ∷ [])) none l)
    where
      only : (s : ℕ) × (sizes u ≡ Some s) → IsListed v (u ∷ []) → (s : ℕ) × (sizes v ≡ Some s)
      only size (inl e) = (size.0, ap sizes e ∙ size.1)
      only size (inr n) = absurd n
  marked x _ h v l = absurd (cc)

  args_marked : (args : List Arg) → marks sizes args ≡ true → (v : ℕ) → IsListed v (locals_in (arg_operands args)) → (s : ℕ) × (sizes v ≡ Some s)
  args_marked [] h v l = absurd (cc)
  args_marked (a ∷ []) h v l = absurd (cc)
  args_marked (a ∷ b ∷ []) h v l = marked a.value b.value h v l
  args_marked (a ∷ b ∷ c ∷ args) h v l = absurd (cc)

  other_mark : (b : Bool) (args : List Arg) → b ≡ true → (b && not (marks sizes args)) ≡ false → marks sizes args ≡ true
  other_mark true args e h = holds (marks sizes args) h
  other_mark false args e h = absurd (cc)

  mark_there : (p : Place) (i : Instr) → is_mark i ≡ true → marks_otherwise sizes p i ≡ false → (v : ℕ) → IsListed v (locals_in (instr_operands i)) → (s : ℕ) × (sizes v ≡ Some s)
  mark_there p (Instr.Call r must_tail ty (Callee.Intrinsic c) args) e h v l = args_marked args (other_mark (is_marker (Callee.Intrinsic c)) args e h) v l
  mark_there p (Instr.Call r must_tail ty (Callee.Named c) args) e h v l = absurd (cc)
  mark_there p (Instr.Call r must_tail ty (Callee.Allocator c) args) e h v l = absurd (cc)
  mark_there p (Instr.Call r must_tail ty (Callee.Local c) args) e h v l = absurd (cc)
  mark_there p _ e h v l = absurd (cc)

-- ---- all together

module _ (m : Module) (f : Function) (p : Plan) (block : ℕ) where
  abbrev MarksNoKept : Instr → Type 0
  MarksNoKept i = is_mark i ≡ true → (v : ℕ) → IsListed v (locals_in (instr_operands i)) → entry p.places v ≡ None

  all_good : (before : List ℕ) (is : List Instr) → Each (λ i. fits_instr m (value_kind f) i ≡ true) is → Each (λ i. list_all has_width (instr_types i) ≡ true) is → Each MarksNoKept is → AllMadeBefore f block before is → AreGood m f p block before is
  all_good before [] fits widths marks used = tt
  all_good before (i ∷ is) fits widths marks used = (
    record { fits = fits.0; widths = widths.0; uses = used.0; mark = marks.0 },
    all_good (option_to_list (result_of i) ++ before) is fits.1 widths.1 marks.1 used.1,
  )

module _ (m : Module) (k : ℕ) (f : Function) (rules : KeepsFunctionRules m k f) (crossing : List (ℕ × ℕ)) (local : List Bool) (asked : AreCellsFor k f crossing local) where
  abbrev places : List (Option ℕ)
  places = (kept_values m k f rules crossing local asked).places

  -- a slot isn't kept
  slot_unplaced : (v s : ℕ) → slot_size m f v ≡ Some s → entry places v ≡ None
  slot_unplaced v s size = on (entry places v) refl
    where
      on : (o : Option ℕ) → entry places v ≡ o → o ≡ None
      on None e = refl
      on (Some at) e =
          let h = keeping_holds m k f rules crossing local asked in
          let none : None ≡ Some s = sym (h.holds v at (h.there v at e)).no_slot ∙ size in
          absurd (cc)

  pub block_good : (p : Plan) → p.places ≡ places → (j : ℕ) (b : Block) → slice_get f.blocks j ≡ Some b → AreGood m f p j (phi_values b) b.instrs
  block_good p same j b got =
      all_good m f p j (phi_values b) b.instrs (block_fits m k f rules crossing local asked j b got) (block_widths m k f rules crossing local asked j b got)
      (each_there _ b.instrs (λ at i e is v l.
      let x = at_each _ b.instrs at i (block_passes (on_instr (marks_otherwise (slot_size m f))) k f rules.local.marks j b got).instrs e in
      let size = mark_there (slot_size m f) x.0 i is x.2 v l in
      ap (λ (ps : List (Option ℕ)). entry ps v) same ∙ slot_unplaced v size.0 size.1))
      (block_made f k rules.uses j b got)
