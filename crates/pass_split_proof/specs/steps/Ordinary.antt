-- Instructions that parts have as they are, and a step in which both runs do one.
use Rattle.std.specs.Prelude.{◌≡◌, ℕ, Bool, true, false, Some}
use Rattle.pass_proofs.specs.ir_base.declared.outcome.Outcome.{Outcome}
use Rattle.pass_proofs.specs.ir_model.Names.{function_at}
use Rattle.pass_proofs.specs.ir_model.declared.instr.Instr.{Instr}
use Rattle.pass_cleanup.specs.Cleanup.{is_kept_callee}
use Rattle.pass_split_proof.specs.places.Places.{IsPlace}
use Rattle.pass_split_proof.specs.states.Activations.{is_entering}
use Rattle.pass_split_proof.specs.states.Related.{AreRelated}
use Rattle.pass_split_proof.specs.steps.Ready.{IsReadyInPart}
use Rattle.pass_proofs.specs.run_framed.Framed.{FramedGiven, framed_context}
use Rattle.run_access_worked.specs.run_plain.Plain.{PlainGiven, plain_context, plain_step}
use Rattle.run_access_worked.specs.run_plain.declared.state.PlainState.{PlainState}
use Rattle.pass_proofs.specs.run_source.State.{function_of, settled}
use Rattle.pass_proofs.specs.run_source.declared.state.State.{State}
use Rattle.pass_proofs.specs.run_step.Reads.{given_by}
use Rattle.pass_proofs.specs.run_step.Step.{AtInstr, Work, fetch}

-- no call of a coro intrinsic
abbrev pub is_ordinary : Instr → Bool
is_ordinary (Instr.Call r must_tail ty callee args) = is_kept_callee callee
is_ordinary i = true

-- The framed run is at an ordinary instruction, and the part is at the same place. It may read the operands, and the
-- name
-- of the frame isn't set.
pub record IsAtOrdinary (functions : ℕ → ℕ) (g : FramedGiven) (h : PlainGiven) (s : State) (t : PlainState)
    (r : AreRelated g h s t) (i : Instr) : Type 0 where
  pub running : t.outcome ≡ Outcome.Running
  pub answers : h.answers ≡ g.given.answers
  pub settled : is_entering s.top.mode ≡ false
  pub place : IsPlace r.top.shape r.top.part (function_of g.given s) (function_at h.code t.top.func) s.top.block
      s.top.at t.top.block t.top.at
  pub there : fetch (function_of g.given s) s.top.block s.top.at ≡ AtInstr i
  pub ordinary : is_ordinary i ≡ true
  pub ready : IsReadyInPart functions (function_of g.given s) (framed_context g s) (plain_context h t) s.top.values
      t.top.values i
  pub others : given_by i ≡ Some r.top.shape.begin → ⊥

-- a step of the parts' run leads beside the framed run that has done the instruction
abbrev pub StepsBeside : FramedGiven → PlainGiven → State → PlainState → Work → Type 0
StepsBeside g h s t v = AreRelated g h (settled s v) (plain_step h t)
