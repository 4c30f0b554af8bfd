-- Functions that are no coroutines have no windows.
use Rattle.std.proofs.Common.{◌≡◌, ℕ, false, List, [], ◌∷◌, Option, Some, None, refl, ap}
use Rattle.std.specs.Prelude.{filter_map, map, option_map, slice_get, unwrap_or}
use Rattle.pass_frames_proof.proofs.ir_laws.paths.alike_functions.Lists.{each_where}
use Rattle.pass_frames_proof.specs.ir_model.Names.{function_at, no_function}
use Rattle.pass_frames_proof.specs.ir_model.declared.module.Function.{Function}
use Rattle.pass_frames_proof.specs.ir_model.declared.module.Module.{Module}
use Rattle.pass_frames_proof.specs.ir_model.declared.operand.Intrinsic.{Intrinsic}
use Rattle.pass_frames_proof.specs.ir_paths.Windows.{is_call_of, points_where, saves_of, suspend_of, window_of, windows_of}
use Rattle.pass_frames_proof.specs.ir_paths.declared.point.Point.{Point}
use Rattle.pass_frames_proof.proofs.pass_proofs.kept.sources.Names.{none_outside, save_inside}
use Rattle.pass_frames_proof.proofs.pass_proofs.early.save_simulation.Suspending.{fetch_at}
use Rattle.pass_frames_proof.specs.rule_laws.rules.function_rules.Kept.{AllKeepFunctionRules, KeepsFunctionRules}
use Rattle.pass_frames_proof.specs.run_laws.changed.Changed.{Each}

none_listed : (ps : List Point) → Each (λ (p : Point). ⊥) ps → ps ≡ []
none_listed [] h = refl
none_listed (p ∷ ps) h = absurd h.0

no_saves : (m : Module) (k : ℕ) (f : Function) → KeepsFunctionRules m k f → f.coroutine ≡ false
    → points_where (is_call_of Intrinsic.CoroSave) f ≡ []
no_saves m k f rules outside = none_listed (points_where (is_call_of Intrinsic.CoroSave) f)
    (each_where (λ (p : Point). ⊥) (is_call_of Intrinsic.CoroSave) f (λ p i e is.
    none_outside m k f rules outside p.block p.at i Intrinsic.CoroSave save_inside (fetch_at f p i e) is))

without_pairs : (f : Function) → points_where (is_call_of Intrinsic.CoroSave) f ≡ [] → saves_of f ≡ []
without_pairs f e = ap (λ (ps : List Point). filter_map
    (λ (save : Point). option_map {U = Point × Point} (λ (suspend : Point). (save, suspend)) (suspend_of f save)) ps) e

without_windows : (f : Function) → points_where (is_call_of Intrinsic.CoroSave) f ≡ [] → windows_of f ≡ []
without_windows f e =
    ap (λ (ss : List (Point × Point)). map (λ (save, suspend). window_of f save suspend) ss) (without_pairs f e)

-- K1
pub no_windows : (m : Module) → AllKeepFunctionRules m → (func : ℕ) → (function_at m func).coroutine ≡ false
    → windows_of (function_at m func) ≡ []
no_windows m rules func outside = on (slice_get m.functions func) refl outside
  where
    on : (o : Option Function) → slice_get m.functions func ≡ o → (unwrap_or o no_function).coroutine ≡ false
        → windows_of (unwrap_or o no_function) ≡ []
    on None e h = refl
    on (Some f) e h = without_windows f (no_saves m func f (rules func f e) h)
