-- What is asked of the framed run's states, so that what is related stays related, is had in each of them.
use Rattle.std.proofs.Common.{◌≡◌, ℕ, List, Some, subst, sym, true}
use Rattle.std.specs.Prelude.{slice_get}
use Rattle.pass_elide_kept.specs.Runs.{EndsDestroyed, IsAtAnAlloca, IsKeptFramed}
use Rattle.pass_elide_meaning.specs.pass_elide_known.Keeping.{KeepsMore}
use Rattle.pass_elide_lacks.proofs.OneEnd.{ends_in_block}
use Rattle.pass_elide_lacks.proofs.RunOut.{no_ret, out_in_runs}
use Rattle.pass_elide_lacks.specs.Ends.{KeepsEndings}
use Rattle.pass_elide_meaning.proofs.pass_elide_runs.KnownRuns.{knows_framed}
use Rattle.pass_elide_meaning.specs.pass_elide_runs.Keeps.{KeepsRuns, KnowsFramed}
use Rattle.pass_elide_meaning.proofs.pass_elide_edges.pass_elide_proof.Allocas.{knows_allocas}
use Rattle.pass_elide_meaning.proofs.pass_elide_edges.pass_elide_proof.DestroyingEnds.{ended_freed}
use Rattle.pass_elide_meaning.proofs.pass_elide_edges.pass_elide_proof.DestroyingRuns.{destroys_in_runs}
use Rattle.pass_elide_meaning.proofs.pass_elide_edges.pass_elide_proof.ElidedFound.{fetched}
use Rattle.pass_elide_meaning.proofs.pass_elide_edges.pass_elide_proof.ReleasedKept.{released_runs, slotted_runs}
use Rattle.pass_elide_meaning.proofs.pass_elide_edges.pass_elide_proof.SoundSteps.{states_sound}
use Rattle.pass_elide_meaning.specs.pass_elide_edges.pass_elide_proof.Assembling.{framed_after}
use Rattle.pass_elide_meaning.specs.pass_elide_edges.pass_elide_proof.Elision.{Elision, framed, function_in}
use Rattle.pass_elide_meaning.specs.pass_elide_edges.pass_elide_proof.Placing.{HasShape, KeepsPlaces}
use Rattle.pass_elide_meaning.specs.pass_elide_edges.pass_elide_proof.Sound.{KnowsAllocas}
use Rattle.pass_elide_meaning.specs.pass_elide_edges.pass_elide_proof.Statement.{IsEntryCall}
use Rattle.pass_elide_meaning.specs.pass_elide_edges.pass_elide_proof.pass_proofs.ir_base.declared.outcome.Outcome.{Outcome}
use Rattle.pass_elide_meaning.specs.pass_elide_edges.pass_elide_proof.pass_proofs.ir_base.declared.outcome.Word.{Word}
use Rattle.pass_elide_meaning.specs.pass_elide_edges.pass_elide_proof.pass_proofs.ir_model.declared.instr.Instr.{Instr}
use Rattle.pass_elide_meaning.specs.pass_elide_edges.pass_elide_proof.pass_proofs.run_agreement.Machines.{IsFine}
use Rattle.pass_elide_meaning.specs.pass_elide_edges.pass_elide_proof.pass_proofs.run_source.declared.state.Instance.{Instance}
use Rattle.pass_elide_meaning.specs.pass_elide_edges.pass_elide_proof.pass_proofs.run_source.declared.state.Mode.{Mode}
use Rattle.pass_elide_meaning.specs.pass_elide_edges.pass_elide_proof.pass_proofs.run_source.declared.state.State.{State}

module _ (e : Elision) (keeps : KeepsPlaces e) (more : KeepsMore e) (k : KeepsRuns e) (endings : KeepsEndings e)
    (entry : ℕ) (args : List Word) (call : IsEntryCall e entry args) (n : ℕ)
    (runs : (framed_after e entry args n).outcome ≡ Outcome.Running) where
  abbrev s : State
  s = framed_after e entry args n

  fine : IsFine s.outcome
  fine = subst IsFine (sym runs) tt

  knows : KnowsFramed e s
  knows = knows_framed e keeps k entry args n call.plain fine

  known_allocas : KnowsAllocas (framed e)
  known_allocas = knows_allocas e.code e.layouts.coroutines e.answers

  allocas : (from label : ℕ) → s.top.mode ≡ Mode.Entering from label → IsAtAnAlloca e s
  allocas from label mode =
      let x = knows.modes.0.entering from label mode in
      record {
        name = x.name;
        ty = x.ty;
        align = x.align;
        there = fetched (function_in e s.top.func) s.top.block s.top.at (Instr.Alloca x.name x.ty x.align) x.alloca;
      }

  destroyed : HasShape e s.top.func → EndsDestroyed e s → (number : ℕ) (x : Instance)
      → s.top.instance ≡ Some number → slice_get s.instances number ≡ Some x → x.freed ≡ true
  destroyed shape h =
      ended_freed e s (states_sound (framed e) known_allocas more.nests entry args n)
      (released_runs e entry args known_allocas more.nests (slotted_runs (framed e) entry args keeps.ungiven) n)
      (destroys_in_runs (framed e) entry args k.switches k.switched n) (endings.at_once s.top.func shape)
      (endings.freed s.top.func shape) (record {
        caller = h.caller;
        callers = h.callers;
        below = h.below;
        behind = h.behind;
        resumed = h.resumed;
        result = h.result;
        must_tail = h.must_tail;
        ty = h.ty;
        args = h.args;
        there = h.there;
        block = ends_in_block e s.top.func (endings.one s.top.func) s.top.block s.top.at h.result h.must_tail h.ty
            h.args h.there;
      })

  pub framed_kept : IsKeptFramed e s
  framed_kept = record {
    known = knows.known;
    allocas = allocas;
    destroyed = destroyed;
    rets = λ value mode there.
        no_ret (framed e) endings.returns k.switches s
        (out_in_runs (framed e) endings.returns k.switches entry args n fine) value mode there;
  }
