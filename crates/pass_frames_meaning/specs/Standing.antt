-- What instructions of coroutines ask besides rules and what is known of both runs.
use Rattle.std.specs.Prelude.{ℕ}
use Rattle.pass_frames_proof.specs.ir_model.declared.instr.Instr.{Instr}
use Rattle.pass_frames_proof.specs.ir_model.declared.operand.Callee.{Callee}
use Rattle.pass_frames_proof.specs.ir_model.declared.operand.Intrinsic.{Intrinsic}
use Rattle.pass_frames_proof.specs.ir_parts.Contents.{instr_operands}
use Rattle.pass_frames_meaning.specs.Setting.{Setting}
use Rattle.pass_frames_proof.specs.Stepping.{IsPlacedOperand, IsUnlocated, state_in}
use Rattle.pass_frames_proof.specs.rule_laws.rules.function_rules.Kept.{KeepsFunctionRules}
use Rattle.pass_frames_proof.specs.run_laws.changed.Changed.{Each}
use Rattle.pass_frames_proof.specs.run_source.declared.state.State.{State}

-- it is no marker, and names no promise
abbrev pub IsStaying : Instr → Type 0
IsStaying (Instr.Call r must_tail ty (Callee.Intrinsic Intrinsic.LifetimeStart) args) = ⊥
IsStaying (Instr.Call r must_tail ty (Callee.Intrinsic Intrinsic.LifetimeEnd) args) = ⊥
IsStaying (Instr.Call r must_tail ty (Callee.Intrinsic Intrinsic.CoroId) args) = ⊥
IsStaying _ = Unit {0}

pub record MayStand (c : Setting) (s : State) (i : Instr) : Type 0 where
  -- without blocks on edges the coroutine breaks no rule either
  pub position : ℕ
  pub rules : KeepsFunctionRules (c.b.framing s.top.func).code position (c.b.framing s.top.func).function
  -- it accesses no slot that is used before begin
  pub unlocated : IsUnlocated (c.b.framing s.top.func) (state_in (c.b.framing s.top.func) s.top.block s.top.at) i
  -- the name of a slot has its address, or poison, and begin's value is the instance's frame
  pub operands : Each (IsPlacedOperand (c.b.framing s.top.func) s) (instr_operands i)
