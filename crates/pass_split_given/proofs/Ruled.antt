-- Premises where calls give frames are met by the rules of a module that has the ramps that are called.
use Rattle.std.proofs.Common.{List}
use Rattle.std.specs.Prelude.{ℤ}
use Rattle.pass_split_proof.specs.pass_proofs.frame_layout.declared.layout.Layouts.{Layouts}
use Rattle.pass_split_proof.specs.pass_proofs.ir_model.declared.module.Module.{Module}
use Rattle.pass_split_proof.specs.pass_proofs.rule_names.declared.stage.Stage.{Stage}
use Rattle.pass_split_proof.specs.pass_proofs.run_framed.Framed.{framed_given}
use Rattle.pass_split_given.proofs.Agreeing.{given_calls_kept}
use Rattle.pass_split_given.specs.Premises.{AreGivenPremisesMet, ReleasesWhenDestroyed}
use Rattle.pass_split_given.specs.Whole.{PartsKeepGivenCalls}
use Rattle.pass_split_proof.proofs.ready.Coroutine.{given_begin_ready}
use Rattle.pass_split_proof.proofs.ready.GivenCalls.{given_call_ready}
use Rattle.pass_split_proof.proofs.ready.Steps.{premises_met}
use Rattle.pass_split_proof.proofs.simulation.Starts.{parts_start}
use Rattle.pass_split_proof.specs.given_begins.Runs.{NestsNoFrames}
use Rattle.pass_split_proof.specs.given_calls.Ramps.{HasCalledRamps}
use Rattle.pass_split_proof.specs.ready.Module.{IsFollowableIn}
use Rattle.pass_split_proof.specs.simulation.Statement.{parts_given}

module _ {stage : Stage} {ruler : Module} (ls : Layouts) (m : Module) (w : IsFollowableIn stage ruler ls m)
    (ramps : HasCalledRamps ruler m)
    (nests : (answers : List ℤ) → NestsNoFrames (framed_given m ls.coroutines answers))
    (releases : (answers : List ℤ) → ReleasesWhenDestroyed (framed_given m ls.coroutines answers)
    (parts_given ls m answers)) where
  given_met : (answers : List ℤ)
      → AreGivenPremisesMet (framed_given m ls.coroutines answers) (parts_given ls m answers)
  given_met answers = record {
    nests = nests answers;
    places = λ s t r. record {
      called = given_call_ready ls m w ramps answers s t r;
      begin = given_begin_ready ls m w answers s t r;
      frees = releases answers s t r;
    };
  }

  pub ruled_calls_kept : PartsKeepGivenCalls ls m
  ruled_calls_kept = given_calls_kept ls m
      (λ entry other args answers e. parts_start ls m w.partable entry other args answers e)
      (λ answers. premises_met ls m w answers) given_met
