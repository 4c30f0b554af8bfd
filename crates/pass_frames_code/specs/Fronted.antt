-- An instruction of a coroutine with a line in front of it that loads and makes addresses, whichever these are.
use Rattle.std.specs.List.{Contains}
use Rattle.std.specs.Prelude.{◌≡◌, ◌<◌, List, Some, false, length, slice_get, true, ℕ}
use Rattle.pass_proofs.specs.ir_model.Ty.{Ty}
use Rattle.pass_proofs.specs.ir_model.declared.instr.Instr.{Instr}
use Rattle.pass_proofs.specs.ir_parts.Contents.{result_of}
use Rattle.pass_proofs.specs.pass_copies.declared.slot.EarlySlot.{EarlySlot}
use Rattle.pass_frames_code.specs.Led.{IsNotSet, IsStill}
use Rattle.pass_frames_code.specs.Ordinary.{IsPlainName}
use Rattle.pass_frames_code.specs.Places.{copies, edged, instrs_at, is_return, named}
use Rattle.pass_frames_code.specs.Related.{Building, is_coroutine}
use Rattle.pass_frames_code.specs.Stepping.{IsNotEntering}
use Rattle.pass_proofs.specs.run_laws.changed.Changed.{Each}
use Rattle.pass_proofs.specs.run_source.declared.state.Activation.{Activation}

-- An activation of a coroutine that makes no allocas, in no block on a resume or destroy edge.
pub record IsGoing (b : Building) (a : Activation) : Type 0 where
  pub coroutine : is_coroutine b a.func ≡ true
  pub mode : IsNotEntering a.mode
  pub unreturned : is_return (b.framing a.func) a.block ≡ false

-- It is at an instruction whose result has a name of its own. The line in front sets no name of the coroutine or of a
-- cell, and none of a temporary.
pub record IsFronted (b : Building) (a : Activation) (i : Instr) (front : List Instr) : Type 0 where
  pub going : IsGoing b a
  pub unmeasured : (r : ℕ) → result_of i ≡ Some r → IsPlainName (b.framing a.func) r
  pub room : length a.values ≡ length (edged (b.framing a.func)).names
  pub allocas : (at u align : ℕ) (ty : Ty)
      → slice_get (instrs_at (b.framing a.func) 0) at ≡ Some (Instr.Alloca u ty align)
      → (u < length (edged (b.framing a.func)).names) × (result_of i ≡ Some u → ⊥)
  pub still : Each IsStill front
  pub low : (u : ℕ) → u < length (named (b.framing a.func)).names → Each (IsNotSet u) front
  pub cells : (e : EarlySlot) → Contains (copies (b.framing a.func)).slots e → Each (IsNotSet e.cell) front
  pub temporaries : (e : EarlySlot) → Contains (copies (b.framing a.func)).slots e
      → Each (IsNotSet e.temporary) front
