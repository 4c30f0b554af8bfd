-- What is called by a name is the same function or declaration in the parts.
use Rattle.std.proofs.Common.{◌≡◌, ℕ, Bool, true, false, refl, sym, ap, ◌∙◌}
use Rattle.std.specs.Prelude.{List, None, Option, Some, is_some, not, option_map, ◌||◌, ◌&&◌}
use Rattle.std.specs.List.{list_all}
use Rattle.pass_proofs.specs.frame_layout.declared.layout.Layouts.{Layouts}
use Rattle.pass_proofs.specs.ir_base.declared.name.Name.{Name}
use Rattle.pass_proofs.proofs.ir_laws.facts.Truth.{and_second, holds}
use Rattle.pass_proofs.specs.ir_model.Names.{declaration_named, function_named, global_named}
use Rattle.pass_proofs.specs.ir_model.Ty.{Ty}
use Rattle.pass_proofs.specs.ir_model.declared.instr.Instr.{Instr}
use Rattle.pass_proofs.specs.ir_model.declared.module.Function.{Function}
use Rattle.pass_proofs.specs.ir_model.declared.module.Module.{Module}
use Rattle.pass_proofs.specs.ir_model.declared.operand.Arg.{Arg}
use Rattle.pass_proofs.specs.ir_model.declared.operand.Callee.{Callee}
use Rattle.pass_proofs.specs.ir_parts.Contents.{part_labels, part_operands, part_types}
use Rattle.pass_proofs.specs.ir_parts.Parts.{OfInstr, Part}
use Rattle.pass_split_proof.proofs.ready.Rules.{at_instr}
use Rattle.pass_split_proof.specs.code.Positions.{moved}
use Rattle.pass_split_proof.specs.first_exits.Parted.{parted_module}
use Rattle.pass_split_proof.specs.ready.Names.{HasMovedNames}
use Rattle.pass_proofs.specs.rule_laws.rules.function_rules.Kept.{KeepsFunctionRulesAt}
use Rattle.pass_proofs.specs.rule_locals.Addresses.{is_no_function, points_to_functions}
use Rattle.pass_proofs.specs.rule_locals.Transfers.{breaks_transfers}
use Rattle.pass_proofs.specs.rule_locals.Instrs.{on_instr}
use Rattle.pass_proofs.specs.rule_names.Known.{is_label, is_value, knows_called, knows_name, knows_operand, knows_type, names_unknown}
use Rattle.pass_proofs.specs.rule_names.declared.stage.Stage.{Stage}
use Rattle.pass_proofs.specs.run_step.Step.{AtInstr, fetch}
use Rattle.pass_proofs.specs.rule_types.Signatures.{calls_otherwise, fits_callee}

module _ (ls : Layouts) (m : Module) (names : HasMovedNames ls m) (functions : ℕ → ℕ)
    (moves : (k : ℕ) → functions k ≡ moved ls.coroutines m m.functions k) where
  function_alike : (n : Name) (o : Option ℕ) → function_named m n ≡ o → knows_name m n ≡ true
      → function_named (parted_module ls m) n ≡ option_map functions o
  function_alike n (Some k) e known = names.functions n k e ∙ ap Some (sym (moves k))
  function_alike n None e known = names.others n e
      (ap (λ (o : Option ℕ). is_some o || (is_some (declaration_named m n) || is_some (global_named m n))) (sym e)
      ∙ known)

  same_option : (o : Option ℕ) → o ≡ option_map (λ n. n) o
  same_option None = refl
  same_option (Some n) = refl

  pub named_alike : (n : Name) → knows_name m n ≡ true
      → (function_named (parted_module ls m) n ≡ option_map functions (function_named m n))
      × (declaration_named (parted_module ls m) n ≡ option_map (λ k. k) (declaration_named m n))
  named_alike n known = (function_alike n (function_named m n) refl known, same_option (declaration_named m n))

-- ---- what rules say of calls

module _ (m : Module) (k : ℕ) (f : Function) (rules : KeepsFunctionRulesAt Stage.Plain m k f) (block at : ℕ)
    (result : Option ℕ) (must_tail : Bool) (ty : Option Ty) (args : List Arg) where
  -- what is called by its name is known (N2)
  pub callee_known : (n : Name) → fetch f block at ≡ AtInstr (Instr.Call result must_tail ty (Callee.Named n) args)
      → knows_name m n ≡ true
  callee_known n here =
      let i : Instr = Instr.Call result must_tail ty (Callee.Named n) args in
      let x : Part = OfInstr i in
      let all = holds (list_all (knows_type m) (part_types x) && (list_all (knows_operand m (is_value k f))
      (part_operands x) && (list_all (is_label k f) (part_labels x) && knows_called m x)))
      (at_instr k f (names_unknown m (is_value k f) (is_label k f)) rules.known block at i here) in
      and_second (list_all (is_label k f) (part_labels x)) (knows_called m x)
      (and_second (list_all (knows_operand m (is_value k f)) (part_operands x)) _
      (and_second (list_all (knows_type m) (part_types x)) _ all))

  -- it is of the types of its callee (Y2)
  pub call_fits : (callee : Callee) → fetch f block at ≡ AtInstr (Instr.Call result must_tail ty callee args)
      → fits_callee m ty args callee ≡ true
  call_fits callee here = holds (fits_callee m ty args callee) (at_instr k f (calls_otherwise m) rules.calls block at
      (Instr.Call result must_tail ty callee args) here)

  -- no local is called (P1)
  pub called_directly : (v : ℕ) → fetch f block at ≡ AtInstr (Instr.Call result must_tail ty (Callee.Local v) args) → ⊥
  called_directly v here =
      let i : Instr = Instr.Call result must_tail ty (Callee.Local v) args in
      no (list_all (is_no_function m) (part_operands (OfInstr i)))
      (at_instr k f (points_to_functions m) rules.local.function_pointers block at i here)
    where
      no : (b : Bool) → (not b || true) ≡ false → ⊥
      no true e = absurd (cc)
      no false e = absurd (cc)

  -- no call is a musttail call (Y5)
  pub not_tail : (callee : Callee) → fetch f block at ≡ AtInstr (Instr.Call result must_tail ty callee args)
      → must_tail ≡ false
  not_tail callee here = no must_tail (at_instr k f (on_instr (breaks_transfers Stage.Source f))
      rules.local.transfers block
      at (Instr.Call result must_tail ty callee args) here)
    where
      no : (b : Bool) → (b && true) ≡ false → b ≡ false
      no true e = absurd (cc)
      no false e = refl
