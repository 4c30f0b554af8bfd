-- What is asked of markers of coroutines: of the code, and of states what isn't known yet.
use Rattle.std.specs.List.{Contains}
use Rattle.std.specs.Prelude.{◌≡◌, ◌<◌, ℕ, Bool, true, false, length, slice_get, None, Option, Some}
use Rattle.pass_frames_proof.specs.ir_model.Names.{function_at}
use Rattle.pass_frames_proof.specs.ir_model.Ty.{Ty}
use Rattle.pass_frames_proof.specs.ir_model.declared.instr.Instr.{Instr}
use Rattle.pass_frames_proof.specs.ir_model.declared.operand.Arg.{Arg}
use Rattle.pass_frames_proof.specs.pass_addresses.Placing.{stays}
use Rattle.pass_frames_proof.specs.pass_cells.Kept.{entry}
use Rattle.pass_frames_proof.specs.pass_copies.declared.slot.EarlySlot.{EarlySlot}
use Rattle.pass_frames_meaning.specs.Executed.{IsFirstMode}
use Rattle.pass_frames_meaning.specs.Setting.{Setting}
use Rattle.pass_frames_proof.specs.Marking.{IsTemporaryThere, marking}
use Rattle.pass_frames_proof.specs.Places.{copies, edged, instrs_at, marked, offsets, plan}
use Rattle.pass_frames_proof.specs.Related.{AreBuiltOf, is_coroutine}
use Rattle.pass_frames_proof.specs.Slotted.{IsSlotInFrame}
use Rattle.pass_frames_proof.specs.pass_proofs.addresses.rules.Addresses.{lies_in_frame}
use Rattle.pass_frames_proof.specs.pass_renewed_proof.SlotRules.{IsMadeOnce}
use Rattle.pass_frames_proof.specs.run_source.State.{function_of}
use Rattle.pass_frames_proof.specs.run_source.declared.state.Instance.{Instance}
use Rattle.pass_frames_proof.specs.run_source.declared.state.State.{State}
use Rattle.pass_frames_proof.specs.run_step.Step.{AtInstr, fetch}
use Rattle.pass_frames_proof.specs.run_step.declared.world.Slot.{Slot}

-- By the class of its slot the framed form keeps a marker, or not.
pub data IsMarkedClass (c : Setting) (counts own : ℕ → ℕ → Bool) (func name : ℕ) (i : Instr) : Type 0 where
  OfLocal : c.g.flags func name ≡ true → stays (marked (c.b.framing func)) i ≡ false
      → IsMarkedClass c counts own func name i
  OfFrame : c.g.flags func name ≡ false → stays (marked (c.b.framing func)) i ≡ false → counts func name ≡ true
      → lies_in_frame (offsets (c.b.framing func)) name ≡ true → IsMarkedClass c counts own func name i
  OfRamp : c.g.flags func name ≡ false → stays (marked (c.b.framing func)) i ≡ true → own func name ≡ true
      → lies_in_frame (offsets (c.b.framing func)) name ≡ false → IsMarkedClass c counts own func name i

-- of a marker of a coroutine
pub record IsMarkerRight (c : Setting) (counts own : ℕ → ℕ → Bool) (func block at name : ℕ) (i : Instr) : Type 0 where
  pub kind : IsMarkedClass c counts own func name i
  -- no alloca crosses a suspend
  pub unkept : entry (plan (c.b.framing func)).places name ≡ None
  pub low : name < length (edged (c.b.framing func)).names
  -- N1, F3 and F2
  pub made : IsMadeOnce (function_at c.g.given.code func) name
  pub behind : block ≡ 0 → made.at < at

pub record KeepsMarkers (c : Setting) (counts own : ℕ → ℕ → Bool) : Type 0 where
  pub markers : (func block at : ℕ) (starts must_tail : Bool) (ty : Option Ty) (size : Arg) (u : Ty) (name : ℕ)
      → is_coroutine c.b func ≡ true
      → fetch (function_at c.g.given.code func) block at ≡ AtInstr (marking starts must_tail ty size u name)
      → IsMarkerRight c counts own func block at name (marking starts must_tail ty size u name)
  pub names : (func at u align : ℕ) (ty : Ty) → is_coroutine c.b func ≡ true
      → slice_get (instrs_at (c.b.framing func) 0) at ≡ Some (Instr.Alloca u ty align)
      → u < length (edged (c.b.framing func)).names
  -- no two slots that are used before begin have one temporary
  pub alone : (func : ℕ) → is_coroutine c.b func ≡ true → (e f : EarlySlot)
      → Contains (copies (c.b.framing func)).slots e
      → Contains (copies (c.b.framing func)).slots f → e.temporary ≡ f.temporary → e.slot ≡ f.slot

-- What isn't known yet of a state where a marker of a name stands at the place.
pub record AreMarkedSlotsThere (c : Setting) (own : ℕ → ℕ → Bool) (s t : State) (r : AreBuiltOf c.b s t) (name : ℕ)
    (starts : Bool) : Type 0 where
  -- the slot's field in the frame of its instance, which lies apart from those of live slots where it starts to live
  pub frames : (number : ℕ) (x : Instance) (slot : Slot) → s.top.instance ≡ Some number
      → slice_get s.instances number ≡ Some x → Contains x.slots slot → slot.alloca ≡ name
      → IsSlotInFrame c.b s number x slot starts
  -- before begin the temporary of a slot that is used there
  pub temporaries : (slot : Slot) → s.top.instance ≡ None → Contains s.top.slots slot → slot.alloca ≡ name → (q : ℕ)
      (e : EarlySlot) → Contains (copies (c.b.framing s.top.func)).slots e → e.slot ≡ name
      → Contains t.top.slots (record { alloca = e.temporary; block = q }) → IsTemporaryThere c.b s t r slot.block q
  -- a resumed activation meets no marker of a ramp slot
  pub first : c.g.flags s.top.func name ≡ false → own s.top.func name ≡ true → IsFirstMode s.top.mode
