-- What laws of steps ask of states of both runs.
use Rattle.std.proofs.Common.{◌≡◌, ◌+◌, ℕ, List, refl, subst, sym}
use Rattle.std.specs.Prelude.{Some, slice_get, true}
use Rattle.pass_elide_apart.proofs.OneEnd.{end_in_block}
use Rattle.pass_elide_apart.proofs.Rets.{no_ret, unended_in_runs}
use Rattle.pass_elide_apart.proofs.Runs.{each_in_runs, giving_counts, giving_enters, giving_sleeps, sleeps_in_runs}
use Rattle.pass_elide_apart.proofs.pass_elide_proof.Allocas.{knows_allocas}
use Rattle.pass_elide_apart.proofs.pass_elide_proof.DestroyingRuns.{destroys_in_runs}
use Rattle.pass_elide_apart.proofs.pass_elide_proof.ElidedFound.{fetched}
use Rattle.pass_elide_apart.proofs.pass_elide_proof.OwnSlots.{counted_own}
use Rattle.pass_elide_apart.proofs.pass_elide_proof.ReleasedKept.{released_runs, slotted_runs}
use Rattle.pass_elide_apart.proofs.pass_elide_proof.SoundSteps.{states_sound}
use Rattle.pass_elide_apart.specs.pass_elide_proof.Assembling.{elided_after, framed_after}
use Rattle.pass_elide_apart.specs.pass_elide_proof.Destroying.{DestroysAreToFree}
use Rattle.pass_elide_apart.specs.pass_elide_proof.Elision.{Elision, elided, framed, function_in}
use Rattle.pass_elide_apart.specs.pass_elide_proof.Placing.{HasShape}
use Rattle.pass_elide_apart.specs.pass_elide_proof.Releasing.{FreesAtOnce, HaveReleased}
use Rattle.pass_elide_apart.specs.pass_elide_proof.Sound.{IsSoundState}
use Rattle.pass_elide_apart.specs.pass_elide_proof.Statement.{IsEntryCall}
use Rattle.elide_sites.specs.Destroyed.{FreesWhenDestroyed}
use Rattle.pass_elide_kept.specs.Runs.{EndsDestroyed, EndsInBlock, IsAtAnAlloca, IsKeptFramed, IsKeptGiving}
use Rattle.pass_elide_apart.proofs.pass_elide_runs.DestroyEdges.{giving_wakes}
use Rattle.pass_elide_apart.proofs.pass_elide_runs.KnownRuns.{knows_framed}
use Rattle.pass_elide_apart.proofs.pass_elide_runs.Shaped.{shaped_runs, shapes_of}
use Rattle.pass_elide_apart.specs.pass_elide_runs.Keeps.{KnowsFramed}
use Rattle.pass_elide_theorem.specs.Ready.{IsElisionReady}
use Rattle.pass_elide_apart.proofs.pass_proofs.run_agreement.Runs.{iterate-add}
use Rattle.pass_elide_apart.specs.pass_proofs.ir_base.declared.outcome.Outcome.{Outcome}
use Rattle.pass_elide_apart.specs.pass_proofs.ir_base.declared.outcome.Word.{Word}
use Rattle.pass_elide_apart.specs.pass_proofs.ir_model.declared.instr.Instr.{Instr}
use Rattle.pass_elide_apart.specs.pass_proofs.ir_model.declared.operand.Callee.{Callee}
use Rattle.pass_elide_apart.specs.pass_proofs.ir_model.declared.operand.Intrinsic.{Intrinsic}
use Rattle.pass_elide_apart.specs.pass_proofs.ir_model.declared.module.Module.{Module}
use Rattle.pass_elide_apart.specs.pass_proofs.run_agreement.Machines.{IsFine, iterate}
use Rattle.pass_elide_apart.specs.pass_proofs.run_framed.Framed.{framed_step}
use Rattle.pass_elide_apart.specs.pass_proofs.run_source.declared.state.Instance.{Instance}
use Rattle.pass_elide_apart.specs.pass_proofs.run_source.declared.state.Mode.{Mode}
use Rattle.pass_elide_apart.specs.pass_proofs.run_source.declared.state.State.{State}

pub running_fine : (s : State) → s.outcome ≡ Outcome.Running → IsFine s.outcome
running_fine s runs = subst IsFine (sym runs) tt

-- the law of which `IsKeptFramed` takes what it says of destroyed instances
abbrev pub DestroyedAreFreed : Elision → State → Type 0
DestroyedAreFreed e s =
    IsSoundState (framed e) s → HaveReleased e s → DestroysAreToFree e.code s → EndsInBlock e s.top.func
    → (HasShape e s.top.func → FreesAtOnce (function_in e s.top.func) (e.shape s.top.func))
    → (HasShape e s.top.func → FreesWhenDestroyed (function_in e s.top.func)) → HasShape e s.top.func
    → EndsDestroyed e s → (number : ℕ) (x : Instance) → s.top.instance ≡ Some number
    → slice_get s.instances number ≡ Some x → x.freed ≡ true

module _ (e : Elision) (source : Module) (most : ℕ) (ready : IsElisionReady e source most) (entry : ℕ)
    (args : List Word) (call : IsEntryCall e entry args) where
  -- ---- the framed run

  module _ (n : ℕ) (runs : (framed_after e entry args n).outcome ≡ Outcome.Running) where
    abbrev s : State
    s = framed_after e entry args n

    knows : KnowsFramed e s
    knows = knows_framed e ready.places ready.runs entry args n call.plain (running_fine s runs)

    at_alloca : (from label : ℕ) → s.top.mode ≡ Mode.Entering from label → IsAtAnAlloca e s
    at_alloca from label mode =
        let x = knows.modes.0.entering from label mode in
        record {
          name = x.name;
          ty = x.ty;
          align = x.align;
          there = fetched (function_in e s.top.func) s.top.block s.top.at (Instr.Alloca x.name x.ty x.align) x.alloca;
        }

    in_end_block : HasShape e s.top.func → EndsInBlock e s.top.func
    in_end_block shape block at result must_tail ty args there =
        end_in_block (function_in e s.top.func) (ready.frees s.top.func shape).ends block at
        (Instr.Call result must_tail ty (Callee.Intrinsic Intrinsic.CoroEnd) args) there refl

    pub kept_framed : DestroyedAreFreed e (framed_after e entry args n) → IsKeptFramed e (framed_after e entry args n)
    kept_framed freed = record {
      known = knows.known;
      allocas = at_alloca;
      destroyed = λ shape ends number x own there.
          freed
          (states_sound (framed e) (knows_allocas e.code e.layouts.coroutines e.answers) ready.more.nests entry args n)
          (released_runs e entry args (knows_allocas e.code e.layouts.coroutines e.answers) ready.more.nests
          (slotted_runs (framed e) entry args ready.places.ungiven) n)
          (destroys_in_runs (framed e) entry args ready.runs.switches ready.runs.switched n)
          (in_end_block shape) (λ k. (ready.frees s.top.func k).at_once)
          (λ k. (ready.frees s.top.func k).destroyed) shape ends number x own there;
      rets = no_ret (framed e) s
          (unended_in_runs (framed e) ready.returns entry args (λ k. (
            sleeps_in_runs (framed e) ready.runs.switches ready.runs.switched ready.runs.known ready.more.nests entry
                args k,
            (each_in_runs (framed e) ready.runs.switches ready.runs.switched ready.runs.known ready.more.nests entry
                args k).1,
          )) n (running_fine s runs)) (ready.returns s.top.func);
    }

  -- ---- the run that gives frames

  kept_giving_at : (m : ℕ) → IsKeptGiving e (elided_after e entry args m)
  kept_giving_at m = record {
    own = counted_own (elided_after e entry args m)
        (giving_counts e ready.places ready.runs ready.more.nests entry args m);
    shapes = shapes_of e (elided_after e entry args m) (shaped_runs e ready.places entry args m);
    wakes = giving_wakes e ready.places ready.runs.switches ready.runs.switched entry args m;
    sleepers = giving_sleeps e ready.places ready.runs ready.more.nests entry args m ready.handles;
    entering = giving_enters e ready.places ready.runs ready.more.nests entry args m ready.handles;
  }

  pub kept_giving : (m j : ℕ) → IsKeptGiving e (iterate (framed_step (elided e)) j (elided_after e entry args m))
  kept_giving m j =
      subst (IsKeptGiving e) (iterate-add (framed_step (elided e)) m j (elided_after e entry args 0))
      (kept_giving_at (m + j))
