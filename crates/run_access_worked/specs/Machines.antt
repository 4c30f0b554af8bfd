-- The states of the machines that are further on in a straight line.
use Rattle.std.specs.Prelude.{ℕ, Bool, true, is_none, ◌+◌}
use Rattle.run_laws_worked.specs.run_source.declared.state.State.{State}
use Rattle.run_laws_worked.specs.run_framed.Framed.{given_ramp}
use Rattle.run_laws_worked.specs.ir_model.declared.instr.Instr.{Instr}
use Rattle.run_laws_worked.specs.ir_model.declared.module.Module.{Module}
use Rattle.run_laws_worked.specs.ir_model.declared.operand.Callee.{Callee}
use Rattle.run_laws_worked.specs.run_step.Step.{Work}
use Rattle.run_plain.specs.declared.state.PlainState.{PlainState}

-- so many instructions further on, with another work
abbrev pub plain_ahead : PlainState → ℕ → Work → PlainState
plain_ahead s n w = record s { world = w.world; top = record s.top { at = s.top.at + n; values = w.values } }

abbrev pub ahead : State → ℕ → Work → State
ahead s n w = record s { world = w.world; top = record s.top { at = s.top.at + n; values = w.values } }

-- in a framed run no call that gives a ramp its frame
abbrev pub gives_no_frame : Module → Instr → Bool
gives_no_frame m (Instr.Call result must_tail ty (Callee.Named n) args) = is_none (given_ramp m n)
gives_no_frame m _ = true
