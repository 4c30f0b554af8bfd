-- What stands neither in a window nor behind the end (rules K5 and K6).
use Rattle.std.proofs.Common.{◌≡◌, inl, ℕ, Bool, true, false, Option, Some, None, refl, ap, ◌∙◌, subst, ◌||◌}
use Rattle.ir_model.specs.declared.instr.Instr.{Instr}
use Rattle.ir_model.specs.declared.instr.Terminator.{Terminator}
use Rattle.ir_model.specs.declared.module.Function.{Function}
use Rattle.ir_model.specs.declared.module.Module.{Module}
use Rattle.ir_model.specs.declared.operand.Arg.{Arg}
use Rattle.ir_model.specs.declared.operand.Intrinsic.{Intrinsic}
use Rattle.pass_early_proof.specs.ir_paths.Windows.{IsInWindow, is_call_of, suspend_of}
use Rattle.pass_early_proof.specs.ir_paths.declared.point.Point.{Point}
use Rattle.pass_kept_proof.specs.SuspendRules.{IsCallAt}
use Rattle.pass_edges_proof.proofs.kept.sources.Windows.{not_wrong}
use Rattle.pass_early_proof.proofs.rule_laws.rules.path_rules.Outside.{NothingOutside, of_outside}
use Rattle.pass_early_proof.proofs.rule_laws.rules.sources.Places.{instr_there, term_there}
use Rattle.pass_early_proof.specs.rule_laws.rules.function_rules.Kept.{KeepsFunctionRules}
use Rattle.pass_early_proof.specs.rule_laws.rules.path_rules.Paths.{KeepsPaths}
use Rattle.pass_early_proof.specs.rule_laws.rules.path_rules.Shape.{KeepsShape}
use Rattle.pass_early_proof.specs.rule_windows.Outside.{IsFirstOutside, ends_with_it, is_return}
use Rattle.pass_early_proof.specs.rule_windows.Sets.{IsAfterEnd, RunsOut}
use Rattle.pass_early_proof.specs.rule_windows.Windows.{Call, ends_window, passes}
use Rattle.pass_early_proof.specs.run_step.Step.{AtTerm, fetch}

-- ---- calls

first_of : (a b : Bool) → a ≡ true → (a || b) ≡ true
first_of a b e = ap (λ (t : Bool). t || b) e

later_of : (a b : Bool) → b ≡ true → (a || b) ≡ true
later_of true b e = refl
later_of false b e = e

pub save_shuts : (i : Instr) → is_call_of Intrinsic.CoroSave i ≡ true → ends_window i ≡ true
save_shuts i e = first_of (is_call_of Intrinsic.CoroSave i) _ e

pub suspend_shuts : (i : Instr) → is_call_of Intrinsic.CoroSuspend i ≡ true → ends_window i ≡ true
suspend_shuts i e = later_of (is_call_of Intrinsic.CoroSave i) _ (first_of (is_call_of Intrinsic.CoroSuspend i) _ e)

pub save_ends : (i : Instr) → is_call_of Intrinsic.CoroSave i ≡ true → ends_with_it i ≡ true
save_ends i e = later_of (is_call_of Intrinsic.CoroBegin i) _ (first_of (is_call_of Intrinsic.CoroSave i) _ e)

pub suspend_ends : (i : Instr) → is_call_of Intrinsic.CoroSuspend i ≡ true → ends_with_it i ≡ true
suspend_ends i e = later_of (is_call_of Intrinsic.CoroBegin i) _
    (later_of (is_call_of Intrinsic.CoroSave i) _ (first_of (is_call_of Intrinsic.CoroSuspend i) _ e))

-- ---- behind the end

module _ (k : ℕ) (f : Function) (coroutine : f.coroutine ≡ true) (outside : IsFirstOutside k f None) where
  nothing : NothingOutside f
  nothing = of_outside k f coroutine outside

  pub not_behind_end : (x : Intrinsic) → ((i : Instr) → is_call_of x i ≡ true → ends_with_it i ≡ true) → (p : Point)
      → IsAfterEnd f p → IsCallAt x f p → ⊥
  not_behind_end x ends p a c =
      nothing.instrs p c.instr (instr_there f p.block p.at c.instr c.stands) (inl (ends c.instr c.is, a))

  pub no_return : (p : Point) (arg : Option Arg) → fetch f p.block p.at ≡ AtTerm (Terminator.Ret arg) → RunsOut f p → ⊥
  no_return p arg e r =
      let x = term_there f p.block p.at (Terminator.Ret arg) e in
      nothing.returns p.block x.own x.got (ap is_return x.is)
      (subst (RunsOut f) (λ j. record { block = p.block; at = x.last j }) r)

-- ---- in a window

pub not_inside : (m : Module) (k : ℕ) (f : Function) → f.coroutine ≡ true → KeepsFunctionRules m k f → KeepsShape k f
    → KeepsPaths k f → (x : Intrinsic) → ((i : Instr) → is_call_of x i ≡ true → ends_window i ≡ true)
    → (save s p : Point) → IsCallAt Intrinsic.CoroSave f save → suspend_of f save ≡ Some s → IsInWindow f save s p
    → IsCallAt x f p → ⊥
not_inside m k f coroutine rules shape paths x ends save s p c pair inside e =
    not_wrong k f coroutine rules.definitions shape.calls shape.switches paths.window paths.kept_value save s c pair
    (Call (record {
      point = p;
      is_inside = inside;
      ends = ap (passes ends_window) (instr_there f p.block p.at e.instr e.stands) ∙ ends e.instr e.is;
    }))
