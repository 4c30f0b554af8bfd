-- Lemmas on saves, that speak of no pass.
use Rattle.std.proofs.Common.{◌≡◌, ℕ, Bool, true, false, List, [], ◌∷◌, length, sym, ap, ◌∙◌}
use Rattle.std.specs.Prelude.{Some, Option, if◌then◌else◌, ◌&&◌}
use Rattle.std.specs.List.{list_all}
use Rattle.rule_laws.proofs.rules.counted.PartFacts.{block_passes}
use Rattle.ir_laws.proofs.facts.Members.{at_each}
use Rattle.ir_laws.proofs.facts.Truth.{and_first, and_second, holds}
use Rattle.ir_laws.specs.flow_solver.Paths.{IsListed}
use Rattle.rule_laws.specs.rules.function_rules.Kept.{KeepsFunctionRules}
use Rattle.pass_intrinsics.specs.Shapes.{token_of}
use Rattle.ir_laws.specs.ir_model.Names.{same_intrinsic}
use Rattle.ir_laws.specs.ir_model.Ty.{Ty}
use Rattle.ir_laws.specs.ir_model.declared.instr.Instr.{Instr}
use Rattle.ir_laws.specs.ir_model.declared.module.Block.{Block}
use Rattle.ir_laws.specs.ir_model.declared.module.Function.{Function}
use Rattle.ir_laws.specs.ir_model.declared.module.Module.{Module}
use Rattle.ir_laws.specs.ir_model.declared.operand.Arg.{Arg}
use Rattle.ir_laws.specs.ir_model.declared.operand.Callee.{Callee}
use Rattle.ir_laws.specs.ir_model.declared.operand.Intrinsic.{Intrinsic}
use Rattle.ir_laws.specs.ir_model.declared.operand.Operand.{Operand}
use Rattle.ir_laws.specs.run_laws.changed.Changed.{Each}
use Rattle.rule_values.specs.Instrs.{fits_instr, fits_result, is_save_or_none, passes, suspends_on}
use Rattle.rule_values.specs.Kinds.{value_kind}
use Rattle.rule_values.specs.Values.{breaks_values}
use Rattle.ir_laws.proofs.paths.woven_rules.Unbroken.{of_listed}
use Rattle.rule_laws.proofs.rules.woven_shape.Gathered.{gathered, of_rows}
use Rattle.rule_laws.specs.rules.woven_shape.Calls.{ShapingCall, call_at, first_named, is_shaping, is_suspend_call, shaping_call, shaping_calls}
use Rattle.rule_laws.proofs.rules.shape.Saves.{IsSave, first_saved, saved_by, saved_kind}

module _ (m : Module) (k : ℕ) (f : Function) (rules : KeepsFunctionRules m k f) where
  abbrev TakesSave : ShapingCall → Type 0
  TakesSave c = is_suspend_call c ≡ true → is_save_or_none (value_kind f) c.first ≡ true

  suspend_takes : (x : Intrinsic) (r : Option ℕ) (must_tail : Bool) (ty : Option Ty) (args : List Arg) → fits_instr m (value_kind f) (Instr.Call r must_tail ty (Callee.Intrinsic x) args) ≡ true → same_intrinsic Intrinsic.CoroSuspend x ≡ true → is_save_or_none (value_kind f) (first_named x args) ≡ true
  suspend_takes Intrinsic.CoroSuspend r must_tail ty args fit e =
      first_saved (value_kind f) args
      (and_first (suspends_on (value_kind f) args) (list_all (passes (value_kind f) (Callee.Intrinsic Intrinsic.CoroSuspend)) args)
      (and_second (fits_result (Callee.Intrinsic Intrinsic.CoroSuspend) ty r) (suspends_on (value_kind f) args && list_all (passes (value_kind f) (Callee.Intrinsic Intrinsic.CoroSuspend)) args) fit))
  suspend_takes _ r must_tail ty args fit e = absurd (cc)

  call_takes : (b : Block) (at : ℕ) (i : Instr) → fits_instr m (value_kind f) i ≡ true → Each TakesSave (call_at b at i)
  call_takes b at (Instr.Call r must_tail ty (Callee.Intrinsic x) args) fit = on (is_shaping x)
    where
      on : (t : Bool) → Each TakesSave (if t then shaping_call b at x r args ∷ [] else [])
      on true = (suspend_takes x r must_tail ty args fit, tt)
      on false = tt
  call_takes b at _ fit = tt

  all_take : Each TakesSave (shaping_calls f)
  all_take =
      of_rows TakesSave f.blocks
      (λ q b got.
      gathered TakesSave b (λ at i. fits_instr m (value_kind f) i ≡ true) (call_takes b) (length b.phis) b.instrs
      (λ j i e. let x = at_each _ b.instrs j i (block_passes (breaks_values m (value_kind f) f.result) k f rules.local.values q b got).instrs e in holds (fits_instr m (value_kind f) i) x.2))

  token_saved : (x : Operand) (v : ℕ) → is_save_or_none (value_kind f) x ≡ true → token_of x ≡ Some v → IsSave f v
  token_saved (Operand.Local n) v e d = let same : n ≡ v = cc in saved_by f v (ap (value_kind f) (sym same) ∙ saved_kind (value_kind f n) e)
  token_saved _ v e d = absurd (cc)

  pub taken_saved : (c : ShapingCall) → IsListed c (shaping_calls f) → is_suspend_call c ≡ true → (v : ℕ) → token_of c.first ≡ Some v → IsSave f v
  taken_saved c l s v e = token_saved c.first v (of_listed TakesSave (shaping_calls f) all_take c l s) e
