-- What the rules on types say of a call.
use Rattle.std.proofs.Common.{◌≡◌, ℕ, Bool, true, List, Option, Some, None, sym, ap, ◌∙◌, refl, ◌&&◌}
use Rattle.std.specs.List.{list_all}
use Rattle.run_hooks.specs.ir_model.Names.{function_at}
use Rattle.run_hooks.specs.ir_model.Ty.{Ty}
use Rattle.run_hooks.specs.ir_model.declared.instr.Instr.{Instr}
use Rattle.run_hooks.specs.ir_model.declared.module.Function.{Function}
use Rattle.run_hooks.specs.ir_model.declared.module.Module.{Module}
use Rattle.run_hooks.specs.ir_model.declared.operand.Arg.{Arg}
use Rattle.run_hooks.specs.ir_model.declared.operand.Callee.{Callee}
use Rattle.rule_types.specs.Signatures.{same_result as same_types_of}
use Rattle.rule_values.specs.Instrs.{fits_called, fits_result, passes}
use Rattle.rule_values.specs.Kinds.{call_kind, kind_of, result_kind, value_kind}
use Rattle.rule_values.specs.declared.kinds.Kind.{Kind}
use Rattle.run_hooks.specs.run_memory.declared.pointer.Value.{Value}
use Rattle.run_hooks.specs.run_step.Step.{AtInstr, fetch, same_result}
use Rattle.run_types.proofs.Fit.{both_true, fits_as, kind_self, same_back}
use Rattle.run_types.specs.Fitting.{FitsKind, FitsResult}
use Rattle.run_types.specs.Rules.{KeepsTypes}
use Rattle.run_types.specs.States.{GoesTo}

-- a result of one type fits a name of the other
pub goes : (k : Option Kind) (callee : Callee) (ty given : Option Ty) (v : Value) → same_types_of ty given ≡ true
    → ((t : Ty) → ty ≡ Some t → k ≡ Some (kind_of t)) → (ty ≡ None → ⊥) → FitsResult given v → FitsKind k v
goes k callee None given v e own some h = absurd (some refl)
goes k callee (Some t) None v e own some h = absurd (cc)
goes k callee (Some t) (Some u) v e own some h =
    fits_as (Some (kind_of t)) k v (own t refl) (same_back t u v e h)

pub steps_same : (a b : Option Ty) → same_result a b ≡ true → same_types_of a b ≡ true
steps_same None None e = refl
steps_same None (Some u) e = absurd (cc)
steps_same (Some t) None e = absurd (cc)
steps_same (Some t) (Some u) e = e

-- ---- a call

module _ (m : Module) (f : Function) (rules : KeepsTypes m f) (block at : ℕ) (result : Option ℕ) (must_tail : Bool)
    (ty : Option Ty) (callee : Callee) (args : List Arg)
    (stands : fetch f block at ≡ AtInstr (Instr.Call result must_tail ty callee args)) where
  fit_parts : (fits_result callee ty result ≡ true)
      × ((fits_called (value_kind f) callee args && list_all (passes (value_kind f) callee) args) ≡ true)
  fit_parts = both_true (fits_result callee ty result)
      (fits_called (value_kind f) callee args && list_all (passes (value_kind f) callee) args)
      (rules.instrs block at (Instr.Call result must_tail ty callee args) stands)

  pub arguments_pass : list_all (passes (value_kind f) callee) args ≡ true
  arguments_pass = (both_true (fits_called (value_kind f) callee args) (list_all (passes (value_kind f) callee) args)
      fit_parts.1).1

  -- a call without a type has no name
  no_name : ty ≡ None → (r : ℕ) → result ≡ Some r → ⊥
  no_name et r er =
      let no : fits_result callee None (Some r) ≡ true = (λ j. fits_result callee (sym et j) (sym er j))
      ∙ fit_parts.0 in
      absurd (cc)

  -- the kind of its name
  pub call_kind_is : (r : ℕ) → result ≡ Some r → value_kind f r ≡ Some (result_kind callee ty)
  call_kind_is r er = rules.given block at r (Instr.Call result must_tail ty callee args) (result_kind callee ty) stands
      (ap (λ (o : Option ℕ). call_kind o (result_kind callee ty) r) er ∙ kind_self r (result_kind callee ty))

  -- what a callee gives back
  pub gives_back : ((t : Ty) → result_kind callee (Some t) ≡ kind_of t) → (func : ℕ)
      → same_types_of ty (function_at m func).result ≡ true → GoesTo m func result f
  gives_back plain func same r er v fit = goes (value_kind f r) callee ty (function_at m func).result v same
      (λ t et. call_kind_is r er ∙ ap (λ (o : Option Ty). Some (result_kind callee o)) et ∙ ap Some (plain t))
      (λ et. no_name et r er) fit
