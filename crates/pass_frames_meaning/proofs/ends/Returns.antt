-- A return of a coroutine is followed.
use Rattle.std.proofs.Common.{◌≡◌, true, false, List, ◌∷◌, Option, subst}
use Rattle.pass_frames_proof.specs.ir_base.declared.outcome.Outcome.{Outcome}
use Rattle.pass_frames_proof.specs.ir_model.declared.instr.Terminator.{Terminator}
use Rattle.pass_frames_proof.specs.ir_model.declared.operand.Arg.{Arg}
use Rattle.pass_frames_meaning.proofs.ends.Jumps.{A, L, at_term, ends_may, may_go}
use Rattle.pass_frames_meaning.proofs.others.Behind.{behind_call, waits}
use Rattle.pass_frames_meaning.proofs.slotted.Facts.{own_slots, slot_kinds, slots_listed}
use Rattle.pass_frames_meaning.specs.Called.{AreBehindCalls}
use Rattle.pass_frames_meaning.specs.Coroutines.{MayFollow}
use Rattle.pass_frames_meaning.specs.Ends.{KeepsEnds, MayGoOn}
use Rattle.pass_frames_meaning.specs.Setting.{AreOfRuns, KeepsAll, Setting}
use Rattle.pass_frames_proof.proofs.returning.Owned.{slots_owned}
use Rattle.pass_frames_proof.proofs.returning.Ramps.{ramp_return_followed}
use Rattle.pass_frames_proof.specs.Followed.{IsFollowed}
use Rattle.pass_frames_proof.specs.Places.{is_return}
use Rattle.pass_frames_proof.specs.Related.{AreBuiltOf, is_coroutine}
use Rattle.pass_frames_proof.specs.Stepping.{IsNotEntering}
use Rattle.pass_frames_proof.specs.pass_renewed_proof.Renewed.{renewed_step}
use Rattle.pass_frames_proof.specs.run_agreement.Machines.{IsFine}
use Rattle.pass_frames_proof.specs.run_source.State.{function_of}
use Rattle.pass_frames_proof.specs.run_source.declared.state.Activation.{Activation}
use Rattle.pass_frames_proof.specs.run_source.declared.state.State.{State}
use Rattle.pass_frames_proof.specs.run_states.sound_states.Sound.{AreSoundBelow}
use Rattle.pass_frames_proof.specs.run_step.Step.{AtTerm, fetch}

module _ (c : Setting) (all : KeepsAll c) (keeps : KeepsEnds c) (s t : State) (r : AreBuiltOf c.b s t)
    (k : AreOfRuns c s t r) (runs : s.outcome ≡ Outcome.Running) (fine : IsFine (renewed_step c.g s).outcome)
    (coroutine : is_coroutine c.b s.top.func ≡ true) (mode : IsNotEntering s.top.mode) (o : MayFollow c s)
    (m : MayGoOn c s) (arg : Option Arg)
    (there : fetch (function_of c.g.given s) s.top.block s.top.at ≡ AtTerm (Terminator.Ret arg))
    (unreturned : is_return (c.b.framing s.top.func) s.top.block ≡ false) (a : Activation) (more : List Activation)
    (below : s.below ≡ a ∷ more) where
  pub return_followed : IsFollowed c.b c.g s t
  return_followed =
      let calm = (subst (λ (rest : List Activation). AreBehindCalls c.g.given.code s.top.result rest) below
      k.called.below).0 in
      let room = (subst (λ (rest : List Activation). AreSoundBelow c.g.given.code s.instances s.top.result rest) below
      k.sound.below).1.values in
      let at = at_term c all keeps s t r k runs fine coroutine mode o m (Terminator.Ret arg) there unreturned in
      ramp_return_followed c.b c.g all.given s t r arg a more (record {
        runs = runs;
        mode = mode;
        there = there;
        below = below;
        goes = record {
          mode = waits a.mode calm.calm;
          call = λ is. (behind_call c all a s.top.result is room calm, k.may.stored a more arg below there is);
        };
      }) (record {
        coroutine = coroutine;
        at = at.at_end;
        block = at.here;
        unreturned = unreturned;
        given = L c all keeps s t r k runs fine coroutine mode o m (Terminator.Ret arg) there unreturned;
        reached = A c all keeps s t r k runs fine coroutine mode o m (Terminator.Ret arg) there unreturned;
        ends = ends_may c all keeps s t r k runs fine coroutine mode o m (Terminator.Ret arg) there unreturned;
        go = may_go c all keeps s t r k runs fine coroutine mode o m (Terminator.Ret arg) there unreturned;
      }) (slots_owned c.b s t r (slots_listed s k.slots) (slot_kinds s k.slots) (own_slots t k.other_slots))
