-- What ordinary instructions of coroutines ask besides rules and what is known of both runs.
use Rattle.std.specs.Prelude.{◌≡◌, ℕ, None, Some}
use Rattle.pass_frames_proof.specs.ir_model.declared.instr.Instr.{Instr}
use Rattle.pass_frames_proof.specs.ir_parts.Contents.{result_of}
use Rattle.pass_frames_proof.specs.pass_cells.Kept.{entry}
use Rattle.pass_frames_proof.specs.pass_cells.declared.plan.KeptValue.{KeptValue}
use Rattle.pass_frames_meaning.specs.Setting.{Setting}
use Rattle.pass_frames_meaning.specs.Standing.{MayStand}
use Rattle.pass_frames_proof.specs.Lines.{IsStorable}
use Rattle.pass_frames_proof.specs.Places.{plan}
use Rattle.pass_frames_proof.specs.Related.{IsKeptValue}
use Rattle.pass_frames_proof.specs.run_source.declared.state.State.{State}
use Rattle.pass_frames_proof.specs.run_step.Step.{Work}
use Rattle.pass_frames_proof.specs.run_step.Values.{value_in}

pub record MayBeOrdinary (c : Setting) (s : State) (i : Instr) (v : Work) : Type 0 where
  pub stand : MayStand c s i
  -- a getelementptr whose distance is told is another case
  pub undistanced : (r : ℕ) → result_of i ≡ Some r → entry (plan (c.b.framing s.top.func)).cells r ≡ None
  -- a name of a pointer's type has a pointer or poison
  pub storable : (r : ℕ) (k : KeptValue) → result_of i ≡ Some r → IsKeptValue (c.b.framing s.top.func) r k
      → IsStorable k.ty (value_in v.values r)
