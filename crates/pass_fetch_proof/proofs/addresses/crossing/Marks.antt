-- A marker that goes makes no value.
use Rattle.std.proofs.Common.{◌≡◌, ℕ, Bool, true, false, List, sym, ◌∙◌}
use Rattle.std.specs.List.{list_all}
use Rattle.std.specs.Prelude.{None, Option, Some, slice_get, ◌&&◌}
use Rattle.pass_edges_proof.specs.ir_base.declared.outcome.Place.{Place}
use Rattle.pass_edges_proof.proofs.ir_laws.facts.Members.{at_each}
use Rattle.pass_edges_proof.proofs.rule_laws.rules.local_rules.Fitting.{either, no_either}
use Rattle.pass_edges_proof.proofs.ir_laws.facts.Truth.{and_first, holds, first_no, second_no}
use Rattle.pass_edges_proof.specs.flow_solver.Paths.{IsListed}
use Rattle.pass_addresses.specs.Placing.{stays}
use Rattle.pass_edges_proof.specs.ir_parts.Contents.{result_of}
use Rattle.pass_edges_proof.specs.ir_parts.Parts.{OfInstr, Part, parts_of}
use Rattle.pass_edges_proof.specs.rule_laws.rules.function_rules.Kept.{KeepsFunctionRules}
use Rattle.ir_model.specs.Ty.{Ty}
use Rattle.ir_model.specs.declared.instr.Instr.{Instr}
use Rattle.ir_model.specs.declared.module.Block.{Block}
use Rattle.ir_model.specs.declared.module.Function.{Function}
use Rattle.ir_model.specs.declared.module.Module.{Module}
use Rattle.ir_model.specs.declared.operand.Arg.{Arg}
use Rattle.ir_model.specs.declared.operand.Callee.{Callee}
use Rattle.ir_model.specs.declared.operand.Intrinsic.{Intrinsic}
use Rattle.pass_edges_proof.specs.rule_types.Signatures.{are_wanted, calls_otherwise, is_result}
use Rattle.pass_edges_proof.specs.rule_types.Wants.{intrinsic_params}
use Rattle.pass_edges_proof.specs.rule_values.Instrs.{fits_called, fits_instr, fits_result, passes}
use Rattle.pass_edges_proof.specs.rule_values.Kinds.{value_kind}
use Rattle.pass_edges_proof.specs.rule_values.Values.{breaks_values}
use Rattle.pass_edges_proof.proofs.rule_laws.rules.woven_rules.Unbroken.{Passes, PassesIn, all_pass}
use Rattle.pass_edges_proof.proofs.ir_laws.paths.woven_rules.Unbroken.{of_listed}
use Rattle.pass_edges_proof.proofs.rule_laws.rules.address_rules.Unmarked.{no_result}

module _ (m : Module) (k : ℕ) (f : Function) (marked : List Bool) (keeps : KeepsFunctionRules m k f) where
  abbrev fitting : Place → Part → Bool
  fitting = either (breaks_values m (value_kind f) f.result) (calls_otherwise m)

  of_call : (c : Intrinsic) (r : Option ℕ) (must_tail : Bool) (ty : Option Ty) (args : List Arg) → ((is_result None ty && are_wanted (intrinsic_params c) args) ≡ true) → fits_instr m (value_kind f) (Instr.Call r must_tail ty (Callee.Intrinsic c) args) ≡ true → r ≡ None
  of_call c r must_tail ty args calls fits =
      no_result (Callee.Intrinsic c) ty r (and_first (is_result None ty) (are_wanted (intrinsic_params c) args) calls)
      (and_first (fits_result (Callee.Intrinsic c) ty r) (fits_called (value_kind f) (Callee.Intrinsic c) args && list_all (passes (value_kind f) (Callee.Intrinsic c)) args) fits)

  marker_makes : (i : Instr) → Passes fitting (OfInstr i) → stays marked i ≡ false → result_of i ≡ None
  marker_makes (Instr.Call r must_tail ty (Callee.Intrinsic Intrinsic.LifetimeStart) args) h e =
      let i : Instr = Instr.Call r must_tail ty (Callee.Intrinsic Intrinsic.LifetimeStart) args in
      of_call Intrinsic.LifetimeStart r must_tail ty args
      (holds (is_result None ty && are_wanted (intrinsic_params Intrinsic.LifetimeStart) args) (second_no (breaks_values m (value_kind f) f.result h.0 (OfInstr i)) (calls_otherwise m h.0 (OfInstr i)) h.1))
      (holds (fits_instr m (value_kind f) i) (first_no (breaks_values m (value_kind f) f.result h.0 (OfInstr i)) (calls_otherwise m h.0 (OfInstr i)) h.1))
  marker_makes (Instr.Call r must_tail ty (Callee.Intrinsic Intrinsic.LifetimeEnd) args) h e =
      let i : Instr = Instr.Call r must_tail ty (Callee.Intrinsic Intrinsic.LifetimeEnd) args in
      of_call Intrinsic.LifetimeEnd r must_tail ty args
      (holds (is_result None ty && are_wanted (intrinsic_params Intrinsic.LifetimeEnd) args) (second_no (breaks_values m (value_kind f) f.result h.0 (OfInstr i)) (calls_otherwise m h.0 (OfInstr i)) h.1))
      (holds (fits_instr m (value_kind f) i) (first_no (breaks_values m (value_kind f) f.result h.0 (OfInstr i)) (calls_otherwise m h.0 (OfInstr i)) h.1))
  marker_makes _ h e = absurd (cc)

  all_fit : (q : ℕ) (b : Block) → slice_get f.blocks q ≡ Some b → PassesIn fitting b
  all_fit q b got = at_each (PassesIn fitting) f.blocks q b (all_pass fitting k f (no_either (breaks_values m (value_kind f) f.result) (calls_otherwise m) (parts_of k f) keeps.local.values keeps.calls)) got

  pub marker_none : (q : ℕ) (b : Block) (i : Instr) → slice_get f.blocks q ≡ Some b → IsListed i b.instrs → stays marked i ≡ false → (v : ℕ) → result_of i ≡ Some v → ⊥
  marker_none q b i got l e v makes =
      let none = marker_makes i (of_listed (λ (x : Instr). Passes fitting (OfInstr x)) b.instrs (all_fit q b got).of_instrs i l) e in
      let both : None ≡ Some v = sym none ∙ makes in
      absurd (cc)
