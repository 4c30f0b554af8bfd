-- Accesses at places ahead of begin, which go by the addresses in cells of slots that are used there.
use Rattle.std.specs.List.{Contains}
use Rattle.std.specs.Prelude.{◌≡◌, None}
use Rattle.pass_frames_proof.specs.ir_model.declared.instr.Instr.{Instr}
use Rattle.pass_frames_proof.specs.ir_parts.Contents.{instr_operands}
use Rattle.pass_frames_proof.specs.pass_copies.declared.slot.EarlySlot.{EarlySlot}
use Rattle.pass_frames_meaning.specs.Setting.{Setting}
use Rattle.pass_frames_proof.specs.Located.{IsLocatedOperand, StoresNone}
use Rattle.pass_frames_proof.specs.Places.{copies}
use Rattle.pass_frames_proof.specs.run_laws.changed.Changed.{Each}
use Rattle.pass_frames_proof.specs.run_source.declared.state.Mode.{Mode}
use Rattle.pass_frames_proof.specs.run_source.declared.state.State.{State}

-- What is asked of such an access of a coroutine.
pub record MayAccess (c : Setting) (s : State) (i : Instr) : Type 0 where
  -- an invariant of the run: an activation without an instance is a ramp's
  pub ramp : s.top.instance ≡ None → s.top.mode ≡ Mode.Ramp
  -- an invariant of the run: the name of a slot has its address, or poison
  pub operands : Each (IsLocatedOperand (c.b.framing s.top.func) s) (instr_operands i)
  -- K9: no address of a slot is stored before begin
  pub stored : StoresNone (c.b.framing s.top.func) i
  -- N1: of two slots that are used before begin each has a name of its own
  pub once : (e z : EarlySlot) → Contains (copies (c.b.framing s.top.func)).slots e
      → Contains (copies (c.b.framing s.top.func)).slots z → e.slot ≡ z.slot → e ≡ z
