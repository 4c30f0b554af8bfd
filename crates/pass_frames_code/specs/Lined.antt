-- The framed run on a straight line of its code.
use Rattle.std.specs.Prelude.{◌≡◌, ℕ, Bool, false, is_some, ◌+◌}
use Rattle.pass_proofs.specs.ir_model.declared.instr.Instr.{Instr}
use Rattle.pass_proofs.specs.ir_model.declared.module.Module.{Module}
use Rattle.pass_proofs.specs.ir_model.declared.operand.Callee.{Callee}
use Rattle.pass_proofs.specs.run_framed.Framed.{given_ramp}
use Rattle.pass_proofs.specs.run_source.declared.state.State.{State}
use Rattle.pass_proofs.specs.run_step.Step.{Work}

-- so many instructions further on, with a work
abbrev pub lined : State → ℕ → Work → State
lined t k w = record t { world = w.world; top = record t.top { at = t.top.at + k; values = w.values } }

-- the instruction calls a ramp which is given its frame
abbrev pub gives_frame : Module → Instr → Bool
gives_frame m (Instr.Call r must_tail ty (Callee.Named n) args) = is_some (given_ramp m n)
gives_frame m i = false

abbrev pub GivesNone : Module → Instr → Type 0
GivesNone m i = gives_frame m i ≡ false
