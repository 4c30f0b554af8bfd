-- A branch goes to the same label in both runs.
use Rattle.std.proofs.Common.{◌≡◌, ℕ, List, [], ◌∷◌, Some, None, refl, sym, ap, ◌∙◌, subst}
use Rattle.std.specs.Prelude.{ℤ}
use Rattle.pass_kept_proof.specs.ir_model.Names.{function_at}
use Rattle.pass_kept_proof.specs.ir_model.Ty.{int}
use Rattle.pass_kept_proof.specs.ir_model.declared.instr.Case.{Case}
use Rattle.pass_kept_proof.specs.ir_model.declared.instr.Terminator.{Terminator}
use Rattle.pass_kept_proof.specs.ir_model.declared.module.Module.{Module}
use Rattle.pass_kept_proof.specs.ir_model.declared.operand.Arg.{Arg}
use Rattle.pass_kept_proof.specs.run_memory.Memory.{owner_rights}
use Rattle.pass_kept_proof.specs.run_memory.declared.pointer.Value.{Value}
use Rattle.pass_kept_proof.specs.run_source.State.{work_of}
use Rattle.pass_kept_proof.specs.run_source.declared.state.Activation.{Activation}
use Rattle.pass_kept_proof.specs.run_source.declared.state.State.{State}
use Rattle.pass_kept_proof.specs.run_step.Step.{AtTerm, Context, GoTo, action_of, branch, switch}
use Rattle.pass_kept_proof.specs.run_step.Values.{arg_value}
use Rattle.pass_renewed_proof.proofs.Giving.{same_nth}
use Rattle.pass_renewed_proof.specs.Beside.{IsBeside}
use Rattle.pass_renewed_proof.specs.Renewed.{Flags, Roots}

module _ (m : Module) (flags : Flags) (roots : Roots) (s t : State) (beside : IsBeside m flags roots s t) (answers :
    List
    ℤ) (label : ℕ) where
  abbrev c : Context
  c = record { code = m; answers = answers; rights = owner_rights; function = function_at m s.top.func }

  by_word : (a : Arg) (to to' : ℕ) → branch (arg_value m s.top.values a) to to' ≡ GoTo label
      → branch (arg_value m beside.top.values a) to to' ≡ GoTo label
  by_word a to to' = on (arg_value m s.top.values a) refl
    where
      on : (v : Value) → arg_value m s.top.values a ≡ v → branch v to to' ≡ GoTo label
          → branch (arg_value m beside.top.values a) to to' ≡ GoTo label
      on (Value.Int n) is e = ap (λ v. branch v to to') (same_nth beside.ledger.homes (roots s.top.func) m s.top.values
          beside.top.values beside.top.envs (a ∷ []) 0 n is) ∙ e
      on Value.Poison is e = absurd (cc)
      on (Value.Ptr p) is e = absurd (cc)

  by_case : (a : Arg) (default : ℕ) (cases : List Case) → switch m (arg_value m s.top.values a) default cases ≡ GoTo
      label → switch m (arg_value m beside.top.values a) default cases ≡ GoTo label
  by_case a default cases = on (arg_value m s.top.values a) refl
    where
      on : (v : Value) → arg_value m s.top.values a ≡ v → switch m v default cases ≡ GoTo label
          → switch m (arg_value m beside.top.values a) default cases ≡ GoTo label
      on (Value.Int n) is e = ap (λ v. switch m v default cases) (same_nth beside.ledger.homes (roots s.top.func) m
          s.top.values beside.top.values beside.top.envs (a ∷ []) 0 n is) ∙ e
      on Value.Poison is e = absurd (cc)
      on (Value.Ptr p) is e = absurd (cc)

  by_term : (term : Terminator) → action_of c (work_of s) (AtTerm term) ≡ GoTo label
      → action_of c (record { world = t.world; values = beside.top.values }) (AtTerm term) ≡ GoTo label
  by_term (Terminator.Jump to) e = e
  by_term (Terminator.Branch x to to') e = by_word (record { ty = int 1; value = x }) to to' e
  by_term (Terminator.Switch a default cases) e = by_case a default cases e
  by_term (Terminator.Ret None) e = absurd (cc)
  by_term (Terminator.Ret (Some a)) e = absurd (cc)
  by_term Terminator.Unreachable e = absurd (cc)

  pub same_label : (term : Terminator) → action_of (record {
    code = m;
    answers = answers;
    rights = owner_rights;
    function = function_at m s.top.func;
  }) (work_of s) (AtTerm term) ≡ GoTo label → action_of (record {
    code = m;
    answers = answers;
    rights = owner_rights;
    function = function_at m s.top.func;
  }) (work_of t) (AtTerm term) ≡ GoTo label
  same_label term e = subst (λ (a : Activation). action_of c (record { world = t.world; values = a.values }) (AtTerm
      term) ≡ GoTo label) (sym beside.top.is) (by_term term e)
