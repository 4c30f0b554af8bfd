-- What is asked of a resume and of a destroy: the instance that it wakes can go on in the part that its header names.
use Rattle.std.specs.Prelude.{◌≡◌, true, false}
use Rattle.pass_proofs.specs.ir_model.Names.{function_at}
use Rattle.pass_proofs.specs.ir_paths.Windows.{destroy_label, resume_label}
use Rattle.pass_proofs.specs.pass_intrinsics.declared.shape.Part.{Part}
use Rattle.pass_split_proof.specs.states.Instances.{StandsThere, is_destroyer, is_held}
use Rattle.pass_split_proof.specs.steps.Resuming.{CanWake}
use Rattle.pass_split_proof.specs.steps.Woken.{IsWoken}
use Rattle.pass_proofs.specs.run_framed.Framed.{FramedGiven}
use Rattle.pass_proofs.specs.run_memory.declared.pointer.Value.{Value}
use Rattle.run_access_worked.specs.run_plain.Plain.{PlainGiven}
use Rattle.run_access_worked.specs.run_plain.declared.state.PlainState.{PlainState}
use Rattle.pass_proofs.specs.run_source.declared.state.State.{State}
use Rattle.pass_proofs.specs.run_source_tables.Given.{is_final}

-- a Suspended instance with this address goes on behind its suspend, unless that is final
abbrev pub CanBeResumed : FramedGiven → PlainGiven → State → PlainState → Value → Type 0
CanBeResumed g h s t p =
    (w : IsWoken s p) → is_final (function_at g.given.code w.instance.coroutine) w.suspend ≡ false
    → CanWake g h s t p w Part.Resume
    (resume_label (function_at g.given.code w.instance.coroutine) w.suspend)

-- it has its frame, and goes on in each part that destroys and stands there
pub record CanEnd (g : FramedGiven) (h : PlainGiven) (s : State) (t : PlainState) (p : Value) (w : IsWoken s p)
    : Type 0 where
  pub held : is_held s.world.memory w.instance ≡ true
  pub wakes : (part : Part) → is_destroyer part ≡ true → StandsThere g w.instance.coroutine part
      → CanWake g h s t p w part (destroy_label (function_at g.given.code w.instance.coroutine) w.suspend)

abbrev pub CanBeDestroyed : FramedGiven → PlainGiven → State → PlainState → Value → Type 0
CanBeDestroyed g h s t p = (w : IsWoken s p) → CanEnd g h s t p w
