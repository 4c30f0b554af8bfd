-- All that steps ask is met by a module whose runs may be followed in its parts.
use Rattle.std.proofs.Common.{List}
use Rattle.std.specs.Prelude.{ℤ}
use Rattle.pass_proofs.specs.frame_layout.declared.layout.Layouts.{Layouts}
use Rattle.pass_proofs.specs.ir_model.declared.module.Module.{Module}
use Rattle.pass_split_proof.proofs.ready.Blocks.{alloca_ready, marker_ready}
use Rattle.pass_split_proof.proofs.ready.Calls.{allocator_ready, call_ready, deallocator_ready}
use Rattle.pass_split_proof.proofs.ready.Coroutine.{begin_ready, save_ready, suspend_ready}
use Rattle.pass_split_proof.proofs.ready.Entering.{behind_ready, making_ready}
use Rattle.pass_split_proof.proofs.ready.Functions.{functions_met, types_met}
use Rattle.pass_split_proof.proofs.ready.Intrinsics.{asking_ready, intrinsic_ready, sized_ready}
use Rattle.pass_split_proof.proofs.ready.Ordinary.{ordinary_ready}
use Rattle.pass_split_proof.proofs.ready.Terms.{terms_ready}
use Rattle.pass_split_proof.proofs.whole.Runs.{calls_kept}
use Rattle.pass_split_proof.specs.ready.Module.{IsFollowable, IsFollowableIn}
use Rattle.pass_split_proof.specs.simulation.Given.{GivesNoFrame}
use Rattle.pass_split_proof.specs.simulation.Premises.{ArePlacesMet, ArePremisesMet}
use Rattle.pass_split_proof.specs.simulation.Statement.{parts_given}
use Rattle.pass_split_proof.specs.states.Related.{AreRelated}
use Rattle.pass_split_proof.specs.whole.Whole.{PartsKeepCalls}
use Rattle.pass_proofs.specs.run_framed.Framed.{framed_given}
use Rattle.run_access_worked.specs.run_plain.declared.state.PlainState.{PlainState}
use Rattle.pass_proofs.specs.run_source.declared.state.State.{State}
use Rattle.pass_proofs.specs.rule_names.declared.stage.Stage.{Stage}

module _ {stage : Stage} {ruler : Module} (ls : Layouts) (m : Module) (w : IsFollowableIn stage ruler ls m)
    (answers : List ℤ) where
  pub places_met : (s : State) (t : PlainState)
      (r : AreRelated (framed_given m ls.coroutines answers) (parts_given ls m answers) s t)
      → ArePlacesMet (framed_given m ls.coroutines answers) (parts_given ls m answers) s t r
  places_met s t r = record {
    term = terms_ready ls m w answers s t r;
    ordinary = ordinary_ready ls m w answers s t r;
    called = call_ready ls m w answers s t r;
    alloca = alloca_ready ls m w answers s t r;
    allocator = allocator_ready ls m w answers s t r;
    deallocator = deallocator_ready ls m w answers s t r;
    marker = λ result must_tail ty x args here p lifetime block offset marks. marker_ready ls m w answers s t r result
        must_tail ty x args here p block offset marks;
    intrinsic = intrinsic_ready ls m w answers s t r;
    sized = sized_ready ls m w answers s t r;
    asking = asking_ready ls m w answers s t r;
    begin = begin_ready ls m w answers s t r;
    save = save_ready ls m w answers s t r;
    suspend = suspend_ready ls m w answers s t r;
    making = λ from label mode block piece at among. making_ready ls m w answers s t r from label mode block piece at
        among;
    behind = λ from label mode. behind_ready ls m w answers s t r from label mode;
  }

  pub premises_met : ArePremisesMet (framed_given m ls.coroutines answers) (parts_given ls m answers)
  premises_met = record { functions = functions_met ls m w answers; places = places_met }

pub calls_followable : (ls : Layouts) (m : Module) → IsFollowable ls m → GivesNoFrame m → PartsKeepCalls ls m
calls_followable ls m w gives = calls_kept ls m w.partable gives (types_met ls m w)
    (λ answers. premises_met ls m w answers)
