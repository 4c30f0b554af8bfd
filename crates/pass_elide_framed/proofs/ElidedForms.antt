-- Records of framed forms of accepted sources, where each shape is that of a form.
use Rattle.std.proofs.Common.{◌≡◌, ℕ, false, sym, ap, ◌∙◌, subst}
use Rattle.compiler_theorem.specs.compiler.ir_model.Names.{function_at}
use Rattle.compiler_theorem.specs.compiler.ir_model.declared.module.Module.{Module}
use Rattle.compiler_theorem.specs.theorem.Lowered.{Lowered}
use Rattle.pass_elide_ready.specs.elide_sites.Destroyed.{FreesWhenDestroyed}
use Rattle.pass_elide_framed.proofs.Freed.{framed_freed}
use Rattle.pass_elide_framed.proofs.Layouts.{frames_nest_none, frames_small}
use Rattle.pass_elide_framed.proofs.Plain.{plain_stays}
use Rattle.pass_elide_framed.proofs.Returned.{framed_returns}
use Rattle.pass_elide_framed.proofs.Ruled.{ruled}
use Rattle.pass_elide_framed.specs.Elided.{IsElidedForm}
use Rattle.pass_elide_ready.specs.pass_elide_kept.Modules.{KeepsHandlesAndEnds}
use Rattle.pass_elide_ready.specs.pass_elide_known.Keeping.{KeepsMore}
use Rattle.pass_elide_ready.specs.pass_elide_proof.CallersStack.{ReturnsFrame}
use Rattle.pass_elide_ready.specs.pass_elide_proof.Elision.{Elision, framed, function_in}
use Rattle.pass_elide_ready.specs.pass_elide_proof.Placing.{HasShape}
use Rattle.pass_elide_ready.specs.pass_elide_proof.Releasing.{HoldsOfRooms}
use Rattle.pass_elide_ready.proofs.Keepers.{keeps_handles_and_ends, keeps_more, keeps_runs}
use Rattle.pass_elide_ready.specs.Form.{IsFormed}
use Rattle.pass_elide_ready.specs.Ruled.{IsRuled}
use Rattle.pass_elide_ready.specs.pass_elide_runs.Ends.{EndsOnce}
use Rattle.pass_elide_ready.specs.pass_elide_runs.Keeps.{KeepsRuns}
use Rattle.pass_elide_ready.specs.run_hooks.Away.{KeepsAllPlaceRules}

module _ (l : Lowered) (e : Elision) (x : IsElidedForm l e) where
  rules : IsRuled e.code
  rules = subst IsRuled (sym x.code) (ruled l x.lowered x.few)

  here : (func : ℕ) → function_in e func ≡ function_at l.framed func
  here func = ap (λ (m : Module). function_at m func) x.code

  same : (func : ℕ) → (function_at l.source func).coroutine ≡ false → function_in e func ≡ function_at l.source func
  same func plain = here func ∙ plain_stays l x.lowered func plain

  returns : (func : ℕ) → HasShape e func → ReturnsFrame (function_in e func)
  returns func k =
      let y = x.elidable func k in
      subst ReturnsFrame (sym (here func)) (framed_returns l x.lowered func y.coroutine y.returned)

  freed : (func : ℕ) → HasShape e func → FreesWhenDestroyed (function_in e func)
  freed func k =
      let y = x.elidable func k in
      subst FreesWhenDestroyed (sym (here func)) (framed_freed l x.lowered func y.coroutine y.destroyed)

  pub handles_kept : KeepsHandlesAndEnds e
  handles_kept = keeps_handles_and_ends e rules x.formed l.source x.sites same returns (λ func k. (freed func k).still)

  pub more_kept : HoldsOfRooms (IsFormed e) e → KeepsMore e
  more_kept rooms = keeps_more e rules x.formed rooms (frames_nest_none l x.lowered e x.layouts)

  pub runs_kept : KeepsAllPlaceRules (framed e).given → ((func : ℕ) → EndsOnce (function_in e func)) → KeepsRuns e
  runs_kept places ends = keeps_runs e rules x.formed places ends (frames_small l x.lowered e x.layouts)
