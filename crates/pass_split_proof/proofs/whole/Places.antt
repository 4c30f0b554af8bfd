-- Wherever the part is for the place of the framed run, the step is followed.
use Rattle.std.proofs.Common.{◌≡◌, ℕ, ◌+◌, ◌<◌, ◌≤◌, ⊎_elim, true, length, None, refl, sym, ap, ◌∙◌, subst, arith}
use Rattle.std.proofs.lemmas.Bool.{cases_lt}
use Rattle.pass_proofs.specs.ir_base.declared.outcome.Outcome.{Outcome}
use Rattle.pass_proofs.specs.ir_model.Names.{function_at}
use Rattle.pass_proofs.specs.ir_model.declared.module.Function.{Function}
use Rattle.pass_proofs.specs.pass_front.Front.{allocas_of}
use Rattle.pass_proofs.specs.pass_intrinsics.declared.shape.Shape.{Shape}
use Rattle.pass_split_proof.proofs.branching.Stopped.{stop_followed}
use Rattle.pass_split_proof.proofs.entering.Again.{again_followed}
use Rattle.pass_split_proof.proofs.entering.Last.{last_followed}
use Rattle.pass_split_proof.proofs.transfers.Passing.{passing_followed}
use Rattle.pass_split_proof.proofs.whole.Here.{IsGivingState, here_followed}
use Rattle.pass_split_proof.proofs.begins.SaveCode.{shape_is}
use Rattle.pass_split_proof.specs.own_blocks.Own.{FitsMode}
use Rattle.pass_split_proof.specs.simulation.Followed.{IsFollowed}
use Rattle.pass_split_proof.specs.simulation.Premises.{ArePremisesMet}
use Rattle.pass_split_proof.specs.states.Activations.{Inside, IsBehindTransfer, IsLeaving, IsPlaced, Making, Passed, Stopping, is_entering}
use Rattle.pass_split_proof.specs.states.Related.{AreRelated}
use Rattle.pass_split_proof.specs.transfers.Passing.{HasSuspendsBeforeEnd}
use Rattle.pass_proofs.specs.run_agreement.Machines.{IsFine}
use Rattle.pass_proofs.specs.run_framed.Framed.{FramedGiven, framed_step}
use Rattle.run_access_worked.specs.run_plain.Plain.{PlainGiven}
use Rattle.run_access_worked.specs.run_plain.declared.state.PlainState.{PlainState}
use Rattle.pass_proofs.specs.run_source.State.{function_of}
use Rattle.pass_proofs.specs.run_source.declared.state.Mode.{Mode}
use Rattle.pass_proofs.specs.run_source.declared.state.State.{State}

module _ (g : FramedGiven) (h : PlainGiven) (met : ArePremisesMet g h) (s : State) (t : PlainState)
    (r : AreRelated g h s t) (k : IsGivingState g h s t r) (runs : s.outcome ≡ Outcome.Running)
    (fine : IsFine (framed_step g s).outcome) where
  abbrev f : Function
  f = function_of g.given s

  abbrev q : Function
  q = function_at h.code t.top.func

  -- an activation that makes its allocas again
  makes : (from label : ℕ) → s.top.mode ≡ Mode.Entering from label → s.top.block ≡ 0 → t.top.block ≡ 0
      → t.top.at ≡ s.top.at → s.top.at < length (allocas_of f.blocks) → IsFollowed g h s t
  makes from label e block piece at among = ⊎_elim
      (λ lt. again_followed g h s t r runs fine from label ((met.places s t r).making from label e block piece at among)
      lt)
      (λ le. last_followed g h s t r runs fine from label ((met.places s t r).making from label e block piece at among)
      ((met.places s t r).behind from label e) (last s.top.at (length (allocas_of f.blocks)) among le))
      (cases_lt (s.top.at + 1) (length (allocas_of f.blocks)))
    where
      last : (a n : ℕ) → a < n → n ≤ a + 1 → a + 1 ≡ n
      last a n lt le = omega arith

  -- one that comes from behind a transfer to the end
  passes : s.top.mode ≡ Mode.Resumed
      → IsBehindTransfer r.top.shape f q s.top.block s.top.at t.top.block t.top.at
      → IsLeaving f r.top.shape.end s.top → IsFollowed g h s t
  passes e waits leaving = passing_followed g h s t r (record {
    running = runs;
    mode = e;
    waits = waits;
    leaving = leaving;
    suspends = subst (λ (z : Shape). HasSuspendsBeforeEnd f z.end)
        (sym (shape_is g s.top.func f r.top.shape r.top.shaped coroutine))
        (met.functions.coroutines s.top.func coroutine).suspends;
  }) fine
    where
      coroutine : (function_of g.given s).coroutine ≡ true
      coroutine = (subst (FitsMode g.given.code (function_of g.given s).coroutine s.top.instance) e
          k.held.own.top.mode).0

  by_place : (mode : Mode) → s.top.mode ≡ mode → IsPlaced r.top.shape r.top.part f q s.top t.top mode
      → IsFollowed g h s t
  by_place _ e (Inside mode settled place) = here_followed g h met s t r k fine (record {
    running = runs;
    settled = ap is_entering e ∙ settled;
    place = place;
  })
  by_place _ e (Stopping mode m arg cases settled behind there both value jump enters) =
      stop_followed g h s t r m arg cases there both value runs fine (ap is_entering e ∙ settled) jump enters
  by_place _ e (Making from label block piece at among) = makes from label e block piece at among
  by_place _ e (Passed waits leaving) = passes e waits leaving

  pub step_followed : IsFollowed g h s t
  step_followed = by_place s.top.mode refl r.top.place
