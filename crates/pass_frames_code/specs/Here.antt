-- The next step is an instruction of a coroutine on a line of its own: its operands are fetched in front of it, and its
-- result is stored behind it, whatever it does.
use Rattle.std.specs.Prelude.{◌≡◌, ◌<◌, Some, false, length, slice_get, true, ℕ}
use Rattle.pass_proofs.specs.ir_base.declared.outcome.Outcome.{Outcome}
use Rattle.pass_proofs.specs.ir_model.Ty.{Ty}
use Rattle.pass_proofs.specs.ir_model.declared.instr.Instr.{Instr}
use Rattle.pass_proofs.specs.ir_model.declared.operand.Callee.{Callee}
use Rattle.pass_proofs.specs.ir_model.declared.operand.Intrinsic.{Intrinsic}
use Rattle.pass_proofs.specs.ir_parts.Contents.{instr_operands, result_of}
use Rattle.pass_frames_code.specs.Distances.{IsBelow}
use Rattle.pass_frames_code.specs.Ordinary.{IsPlainName}
use Rattle.pass_frames_code.specs.Places.{edged, instrs_at, is_return}
use Rattle.pass_frames_code.specs.Related.{Building, is_coroutine}
use Rattle.pass_frames_code.specs.Stepping.{AreNamesInOrder, AreOffsetsPlaced, IsBeginPlain, IsNotEntering, IsPlacedOperand, IsUnlocated, state_in}
use Rattle.pass_proofs.specs.run_laws.changed.Changed.{Each}
use Rattle.pass_proofs.specs.run_source.declared.state.Activation.{Activation}
use Rattle.pass_proofs.specs.run_source.declared.state.State.{State}

-- intrinsics around which nothing else is put in: neither begin, a save, a marker nor coro.id
abbrev pub IsLinedIntrinsic : Intrinsic → Type 0
IsLinedIntrinsic Intrinsic.CoroId = ⊥
IsLinedIntrinsic Intrinsic.CoroBegin = ⊥
IsLinedIntrinsic Intrinsic.CoroSave = ⊥
IsLinedIntrinsic Intrinsic.LifetimeStart = ⊥
IsLinedIntrinsic Intrinsic.LifetimeEnd = ⊥
IsLinedIntrinsic _ = Unit {0}

abbrev pub IsLined : Instr → Type 0
IsLined (Instr.Alloca r ty align) = ⊥
IsLined (Instr.Call r must_tail ty (Callee.Intrinsic i) args) = IsLinedIntrinsic i
IsLined i = Unit {0}

-- An activation of a coroutine is at an instruction. Names are of the coroutine's table, and the result has a name of
-- its own. The rules of names, and of what is in no block on a resume or destroy edge, give this.
pub record IsOnLine (b : Building) (a : Activation) (i : Instr) : Type 0 where
  pub coroutine : is_coroutine b a.func ≡ true
  pub mode : IsNotEntering a.mode
  pub there : slice_get (instrs_at (b.framing a.func) a.block) a.at ≡ Some i
  pub unreturned : is_return (b.framing a.func) a.block ≡ false
  pub unmeasured : (r : ℕ) → result_of i ≡ Some r → IsPlainName (b.framing a.func) r
  pub order : AreNamesInOrder (b.framing a.func) (state_in (b.framing a.func) a.block a.at) i
  pub room : length a.values ≡ length (edged (b.framing a.func)).names
  pub allocas : (at u align : ℕ) (ty : Ty)
      → slice_get (instrs_at (b.framing a.func) 0) at ≡ Some (Instr.Alloca u ty align)
      → (u < length (edged (b.framing a.func)).names) × (result_of i ≡ Some u → ⊥)

-- The next step is that instruction. Slots are used behind begin, and no access goes by the address of one before it.
pub record IsHere (b : Building) (s : State) (i : Instr) : Type 0 where
  pub runs : s.outcome ≡ Outcome.Running
  pub on : IsOnLine b s.top i
  pub lined : IsLined i
  pub unlocated : IsUnlocated (b.framing s.top.func) (state_in (b.framing s.top.func) s.top.block s.top.at) i
  pub below : Each (IsBelow (length (edged (b.framing s.top.func)).names)) (instr_operands i)
  pub begin : IsBeginPlain (b.framing s.top.func)
  pub offsets : AreOffsetsPlaced (b.framing s.top.func)
  pub operands : Each (IsPlacedOperand (b.framing s.top.func) s) (instr_operands i)
