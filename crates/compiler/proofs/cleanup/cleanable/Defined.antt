-- A function whose operands name globals and functions of a module alone, and that calls no coro intrinsic as other functions are, is as the last pass asks.
use Rattle.std.proofs.Common.{◌≡◌, ℕ, Bool, true, false, List, [], ◌∷◌, refl, ap, ◌∙◌, subst}
use Rattle.std.specs.List.{list_all}
use Rattle.std.specs.Prelude.{None, is_some, map, not, ◌||◌}
use Rattle.ir_base.specs.declared.name.Name.{Name}
use Rattle.ir_base.specs.declared.outcome.Place.{Place}
use Rattle.pass_cleanup.specs.Cleanable.{IsCleanableBlock, IsCleanableFunction, IsCleanableInstr, IsCleanablePhi, IsDefined, IsNoIntrinsic}
use Rattle.pass_proofs.proofs.rule_laws.rules.renamed.Uses.{ending_spelt, operands_spelt}
use Rattle.pass_proofs.proofs.rule_laws.rules.local_rules.Carried.{Passing, none_of, passing}
use Rattle.pass_proofs.proofs.ir_laws.facts.Truth.{holds, first_no as or_first_out}
use Rattle.pass_proofs.proofs.ir_laws.facts.Members.{all_pass, each_passes, each_turns}
use Rattle.compiler.specs.cleanup.rules.Clean.{calls_left, is_left_callee}
use Rattle.pass_proofs.specs.ir_parts.Contents.{ending_operands, instr_operands, part_operands}
use Rattle.pass_proofs.specs.ir_parts.Parts.{Ending, OfInstr, OfPhi, Part, first_part, parts_of}
use Rattle.ir_model.specs.Names.{first_where, function_named, global_named, same_name}
use Rattle.ir_model.specs.declared.instr.Incoming.{Incoming}
use Rattle.ir_model.specs.declared.instr.Instr.{Instr}
use Rattle.ir_model.specs.declared.instr.Phi.{Phi}
use Rattle.ir_model.specs.declared.instr.Terminator.{Terminator}
use Rattle.ir_model.specs.declared.module.Block.{Block}
use Rattle.ir_model.specs.declared.module.Function.{Function}
use Rattle.ir_model.specs.declared.module.GlobalItem.{GlobalItem}
use Rattle.ir_model.specs.declared.module.Module.{Module}
use Rattle.ir_model.specs.declared.operand.Callee.{Callee}
use Rattle.ir_model.specs.declared.operand.Operand.{Operand}
use Rattle.pass_proofs.proofs.ir_paths.Search.{or_right}
use Rattle.pass_proofs.specs.rule_locals.Addresses.{calls_indirectly, first_function_pointer, is_no_function, points_to_functions}
use Rattle.compiler.proofs.cleanup.outside.Outside.{calls_pass, names_other, none_other, operands_pass, passes}
use Rattle.pass_proofs.proofs.rule_laws.rules.replaced.Passed.{PassingBlock, Passes, blocks_pass}
use Rattle.compiler.proofs.cleanup.unnamed_intrinsics.Early.{calls_free}
use Rattle.compiler.specs.cleanup.unnamed_intrinsics.Unnamed.{NamesNoIntrinsic, names_intrinsic}
use Rattle.pass_proofs.specs.run_step.Step.{AtInstr}
use Rattle.pass_proofs.specs.run_laws.changed.Changed.{Each, callee_at, named_callee, operands_of_term}

-- the name of a defined function or of a global
abbrev pub is_there : Module → Name → Bool
is_there m x = is_some (function_named m x) || is_some (global_named m x)

-- ---- where no function's address is used (P1)

module _ (m n : Module) (globals : n.globals ≡ m.globals) where
  operand_there : (x : Operand) → is_no_function m x ≡ true → passes (is_there n) x ≡ true
  operand_there (Operand.Global y) e = or_right (is_some (function_named n y)) (is_some (global_named n y)) (ap (λ (gs : List GlobalItem). is_some (first_where (λ g. same_name g.name y) gs)) globals ∙ e)
  operand_there (Operand.Local v) e = refl
  operand_there (Operand.Number z) e = refl
  operand_there Operand.True e = refl
  operand_there Operand.False e = refl
  operand_there Operand.Null e = refl
  operand_there Operand.None e = refl
  operand_there Operand.Poison e = refl

  operands_there : (xs : List Operand) → list_all (is_no_function m) xs ≡ true → list_all (passes (is_there n)) xs ≡ true
  operands_there xs e = all_pass (passes (is_there n)) xs (each_turns (λ (x : Operand). is_no_function m x ≡ true) (λ (x : Operand). passes (is_there n) x ≡ true) operand_there xs (each_passes (is_no_function m) xs e))

  part_there : (p : Place) (x : Part) → points_to_functions m p x ≡ false → names_intrinsic p x ≡ false → names_other (is_there n) p x ≡ false
  part_there p x e d =
      none_other (is_there n) p x (operands_there (part_operands x) (holds (list_all (is_no_function m) (part_operands x)) (or_first_out (not (list_all (is_no_function m) (part_operands x))) (calls_indirectly x) e)))
      (calls_free p x d)

  all_there : (xs : List (Place × Part)) → Passing (points_to_functions m) xs → Passing names_intrinsic xs → Passing (names_other (is_there n)) xs
  all_there [] h k = tt
  all_there (x ∷ xs) h k = (part_there x.0 x.1 h.0 k.0, all_there xs h.1 k.1)

  -- what a function names is there in a module with the same globals
  pub function_there : (k : ℕ) (f : Function) → first_function_pointer m k f ≡ None → NamesNoIntrinsic k f → first_part (names_other (is_there n)) (parts_of k f) ≡ None
  function_there k f e d = none_of (names_other (is_there n)) (parts_of k f) (all_there (parts_of k f) (passing (points_to_functions m) (parts_of k f) e) (passing names_intrinsic (parts_of k f) d))

-- ---- what the last pass asks

module _ (n : Module) where
  operand_defined : (x : Operand) → passes (is_there n) x ≡ true → IsDefined n x
  operand_defined (Operand.Global y) e = e
  operand_defined _ e = tt

  operands_defined : (xs : List Operand) → list_all (passes (is_there n)) xs ≡ true → Each (IsDefined n) xs
  operands_defined xs e = each_turns (λ (x : Operand). passes (is_there n) x ≡ true) (IsDefined n) operand_defined xs (each_passes (passes (is_there n)) xs e)

  incoming_defined : (is : List Incoming) → list_all (passes (is_there n)) (map (λ i. i.value) is) ≡ true → Each (λ i. IsDefined n i.value) is
  incoming_defined [] e = tt
  incoming_defined (i ∷ is) e =
      let h = each_passes (passes (is_there n)) (map (λ (i : Incoming). i.value) (i ∷ is)) e in
      (operand_defined i.value h.0, incoming_defined is (all_pass (passes (is_there n)) (map (λ (i : Incoming). i.value) is) h.1))

  called_unnamed : (c : Callee) → is_left_callee c ≡ true → IsNoIntrinsic (named_callee c)
  called_unnamed (Callee.Named y) e = e
  called_unnamed (Callee.Intrinsic x) e = tt
  called_unnamed (Callee.Allocator a) e = tt
  called_unnamed (Callee.Local v) e = tt

  callee_unnamed : (i : Instr) → calls_left (OfInstr i) ≡ true → IsNoIntrinsic (callee_at (AtInstr i))
  callee_unnamed (Instr.Call r must_tail ty callee args) e = called_unnamed callee e
  callee_unnamed _ e = tt

  instr_cleanable : (i : Instr) → Passes (names_other (is_there n)) (OfInstr i) → IsCleanableInstr n i
  instr_cleanable i h =
      record {
        operands = subst (Each (IsDefined n)) (operands_spelt i) (operands_defined (instr_operands i) (operands_pass (is_there n) h.0 (OfInstr i) h.1));
        callee = callee_unnamed i (calls_pass (is_there n) h.0 (OfInstr i) h.1);
      }

  phi_cleanable : (x : Phi) → Passes (names_other (is_there n)) (OfPhi x) → IsCleanablePhi n x
  phi_cleanable x h = incoming_defined x.incoming (operands_pass (is_there n) h.0 (OfPhi x) h.1)

  ending_cleanable : (t : Terminator) → Passes (names_other (is_there n)) (Ending t) → Each (IsDefined n) (operands_of_term t)
  ending_cleanable t h = subst (Each (IsDefined n)) (ending_spelt t) (operands_defined (ending_operands t) (operands_pass (is_there n) h.0 (Ending t) h.1))

  block_cleanable : (b : Block) → PassingBlock (names_other (is_there n)) b → IsCleanableBlock n b
  block_cleanable b h =
      record {
        phis = each_turns (λ (x : Phi). Passes (names_other (is_there n)) (OfPhi x)) (IsCleanablePhi n) phi_cleanable b.phis h.phis;
        instrs = each_turns (λ (i : Instr). Passes (names_other (is_there n)) (OfInstr i)) (IsCleanableInstr n) instr_cleanable b.instrs h.instrs;
        term = ending_cleanable b.term h.term;
      }

  pub function_cleanable : (k : ℕ) (f : Function) → first_part (names_other (is_there n)) (parts_of k f) ≡ None → IsCleanableFunction n f
  function_cleanable k f e =
      each_turns (PassingBlock (names_other (is_there n))) (IsCleanableBlock n) block_cleanable f.blocks (blocks_pass (names_other (is_there n)) k 0 f.blocks (passing (names_other (is_there n)) (parts_of k f) e).1)
