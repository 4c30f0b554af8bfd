-- Modules keep what invariants of runs ask, where their functions do.
use Rattle.std.proofs.Common.{◌≡◌, ℕ, ℤ, Bool, true, false, List, [], Option, Some, None, refl, sym, subst}
use Rattle.std.proofs.lemmas.List.Elements.{All-nil}
use Rattle.std.proofs.lemmas.Option.{slice_get-map}
use Rattle.std.specs.Prelude.{All, map, option_map, slice_get, unwrap_or}
use Rattle.pass_proofs.specs.ir_model.Names.{function_at, no_function}
use Rattle.pass_proofs.specs.ir_model.declared.module.Frame.{Frame}
use Rattle.pass_proofs.specs.ir_model.declared.module.Function.{Function}
use Rattle.pass_proofs.specs.ir_model.declared.module.Module.{Module}
use Rattle.pass_proofs.specs.ir_model.declared.operand.Intrinsic.{Intrinsic}
use Rattle.pass_proofs.proofs.ir_paths.Right.{facts_of_right}
use Rattle.pass_proofs.specs.ir_paths.Facts.{IsWindow, facts_of}
use Rattle.pass_proofs.specs.ir_paths.Windows.{saves_of}
use Rattle.pass_proofs.specs.ir_paths.declared.point.Facts.{Facts}
use Rattle.pass_proofs.specs.ir_paths.declared.point.Point.{Point}
use Rattle.pass_proofs.specs.pass_kept_proof.SuspendRules.{AllKeepSuspendRules, IsCallAt}
use Rattle.pass_proofs.proofs.kept.sources.Modules.{all_keep, at_function}
use Rattle.pass_proofs.proofs.kept.sources.Windows.{coroutine_keeps}
use Rattle.pass_proofs.specs.rule_laws.rules.counted.Widths.{first_other_width}
use Rattle.pass_proofs.specs.rule_laws.rules.function_rules.Kept.{AllKeepFunctionRules}
use Rattle.pass_proofs.specs.rule_laws.rules.path_rules.Paths.{KeepsPaths}
use Rattle.pass_proofs.specs.rule_laws.rules.path_rules.Shape.{KeepsShape}
use Rattle.run_accepted.proofs.Alive as alive
use Rattle.run_accepted.proofs.Places.{places_kept, plain_places_kept}
use Rattle.run_accepted.proofs.Types.{types_kept}
use Rattle.pass_renewed_meaning.specs.run_hooks.Away.{KeepsAllPlaceRules, KeepsPlaceRules}
use Rattle.pass_renewed_meaning.specs.run_hooks.Reached.{AllHaveSwitches}
use Rattle.pass_renewed_meaning.specs.run_hooks.alive.Alive.{KeepsAliveRules, KeepsAllAliveRules}
use Rattle.pass_proofs.specs.run_source.Source.{given}
use Rattle.pass_proofs.specs.run_source_tables.Given.{facts_at}
use Rattle.pass_proofs.specs.run_step.Step.{AtInstr, Nowhere}
use Rattle.pass_renewed_meaning.specs.run_types.Rules.{KeepsAllTypes, KeepsTypes}

-- ---- where there is no function

no_call : (j : Intrinsic) (p : Point) → IsCallAt j no_function p → ⊥
no_call j p c = let t : Nowhere ≡ AtInstr c.instr = c.stands in absurd (cc)

empty_places : (m : Module) → KeepsPlaceRules m no_function
empty_places m = record {
  stops = λ s c. absurd (no_call Intrinsic.CoroSuspend s c);
  no_suspend = λ p a c. no_call Intrinsic.CoroSuspend p c;
  once = λ save j s p q. absurd (no_call Intrinsic.CoroSave save p.is_save);
  leads = λ save s p. absurd (no_call Intrinsic.CoroSave save p.is_save);
  entry = λ save s p w. no_call Intrinsic.CoroSave save p.is_save;
  back = λ save s p w. no_call Intrinsic.CoroSave save p.is_save;
  no_save = λ save s p pair inside c. no_call Intrinsic.CoroSave save pair.is_save;
  no_suspend_in = λ save s p pair inside c. no_call Intrinsic.CoroSave save pair.is_save;
  no_end = λ save s p pair inside c. no_call Intrinsic.CoroSave save pair.is_save;
}

empty_types : (m : Module) → KeepsTypes m no_function
empty_types m = record {
  instrs = λ block at i e. absurd (cc);
  ends = λ block at t e. absurd (cc);
  given = λ block at n i kind e own. absurd (cc);
  phis = λ block. tt;
  params = tt;
  calls = λ block at result must_tail ty callee args e. absurd (cc);
  loads = λ block at name ty p align e. absurd (cc);
}

empty_alive : (ramp_slots : List ℕ) → KeepsAliveRules no_function ramp_slots
empty_alive ramp_slots = record {
  made = λ a ty align block at e. absurd (cc);
  marked = λ marker is p i e call. absurd (cc);
  closed = λ marker is a p x shut made no_ramp. let e = made.stands in absurd (cc);
  first = λ p i e same. absurd (cc);
  entry = λ block at label h same. h;
  returns = λ p arg e r. absurd (cc);
  no_save = λ p a c. no_call Intrinsic.CoroSave p c;
  ramp = λ a made is. let e = made.stands in absurd (cc);
}

-- ---- tables of facts

-- what holds of a function and its facts holds of each position
module _ (P : Function → Facts → Type 0) (m : Module) where
  facts_there : P no_function (record { windows = []; ramp_slots = [] })
      → ((k : ℕ) (f : Function) → slice_get m.functions k ≡ Some f → P f (facts_of f))
      → (func : ℕ) → P (function_at m func) (facts_at (map facts_of m.functions) func)
  facts_there none each func =
      subst (λ (o : Option Facts). P (function_at m func) (unwrap_or o (record { windows = []; ramp_slots = [] })))
      (sym (slice_get-map facts_of m.functions func)) (on (slice_get m.functions func) refl)
    where
      on : (o : Option Function) → slice_get m.functions func ≡ o
          → P (unwrap_or o no_function) (unwrap_or (option_map facts_of o) (record { windows = []; ramp_slots = [] }))
      on None e = none
      on (Some f) e = each func f e

-- ---- a module whose functions keep what is asked

module _ (m : Module) (each : (k : ℕ) (f : Function) → slice_get m.functions k ≡ Some f → KeepsPlaceRules m f)
    (sizes : List Frame) (answers : List ℤ) where
  pub all_places : KeepsAllPlaceRules (given m sizes answers)
  all_places = record {
    each = at_function (KeepsPlaceRules m) m (empty_places m) each;
    saves = facts_there (λ f facts. map (λ w. (w.save, w.suspend)) facts.windows ≡ saves_of f) m refl
        (λ k f e. (facts_of_right f).saves);
    windows = facts_there (λ f facts. All (IsWindow f) facts.windows) m (All-nil (IsWindow no_function))
        (λ k f e. (facts_of_right f).windows);
  }

module _ (m : Module)
    (each : (k : ℕ) (f : Function) → slice_get m.functions k ≡ Some f → KeepsAliveRules f (facts_of f).ramp_slots)
    (sizes : List Frame) (answers : List ℤ) where
  pub all_alive : KeepsAllAliveRules (given m sizes answers)
  all_alive = facts_there (λ f facts. KeepsAliveRules f facts.ramp_slots) m (empty_alive []) each

pub all_types : (m : Module) → AllKeepFunctionRules m
    → ((k : ℕ) (f : Function) → slice_get m.functions k ≡ Some f → first_other_width k f ≡ None) → KeepsAllTypes m
all_types m rules widths = at_function (KeepsTypes m) m (empty_types m) (λ k f e. types_kept m k f (rules k f e)
    (widths k f e))

pub all_switches : (m : Module) → AllKeepSuspendRules m → AllHaveSwitches m
all_switches m rules func = record { switched = (rules func).switched; leads = (rules func).leads }

-- ---- a module whose functions break none of the rules

module _ (m : Module) (rules : AllKeepFunctionRules m)
    (shape : (k : ℕ) (f : Function) → slice_get m.functions k ≡ Some f → KeepsShape k f)
    (paths : (k : ℕ) (f : Function) → slice_get m.functions k ≡ Some f → KeepsPaths k f) where
  pub keeps_suspends : AllKeepSuspendRules m
  keeps_suspends = all_keep m rules (λ k f e c. coroutine_keeps m k f c (rules k f e) (shape k f e) (paths k f e))

  pub keeps_places : (k : ℕ) (f : Function) → slice_get m.functions k ≡ Some f → KeepsPlaceRules m f
  keeps_places k f e = on f.coroutine refl
    where
      on : (b : Bool) → f.coroutine ≡ b → KeepsPlaceRules m f
      on true c = places_kept m k f c (rules k f e) (shape k f e) (paths k f e)
      on false c = plain_places_kept m k f (rules k f e) c

  pub keeps_alive : (k : ℕ) (f : Function) → slice_get m.functions k ≡ Some f
      → KeepsAliveRules f (facts_of f).ramp_slots
  keeps_alive k f e = on f.coroutine refl
    where
      on : (b : Bool) → f.coroutine ≡ b → KeepsAliveRules f (facts_of f).ramp_slots
      on true c = alive.coroutine_keeps m k f (rules k f e) c (shape k f e) (paths k f e)
      on false c = alive.plain_keeps m k f (rules k f e) c
