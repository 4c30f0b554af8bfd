-- What is asked where coroutines are entered: of the code of both modules, of what a resume hands on, and of states.
use Rattle.std.specs.List.{Contains}
use Rattle.std.specs.Prelude.{◌≡◌, ◌⊎◌, ◌<◌, ◌∷◌, ℕ, Bool, true, false, List, None, Ok, Option, Some, length, slice_get}
use Rattle.pass_frames_proof.specs.flow_solver.Paths.{IsListed}
use Rattle.pass_frames_proof.specs.ir_model.Ty.{Ty}
use Rattle.pass_frames_proof.specs.ir_model.declared.instr.Instr.{Instr}
use Rattle.pass_frames_proof.specs.ir_paths.Slots.{allocas_in, allocas_of}
use Rattle.pass_frames_proof.specs.ir_paths.Windows.{destroy_label, resume_label}
use Rattle.pass_frames_proof.specs.ir_paths.declared.point.Point.{Point}
use Rattle.pass_frames_proof.specs.pass_cells.declared.plan.KeptValue.{KeptValue}
use Rattle.pass_frames_proof.specs.pass_copies.Uses.{flag_at}
use Rattle.pass_frames_proof.specs.pass_frames.Framed.{begin_of}
use Rattle.pass_frames_meaning.specs.Called.{IsCalm}
use Rattle.pass_renewed_meaning.specs.run_hooks.Left.{waiting}
use Rattle.pass_frames_proof.specs.run_laws.changed.Changed.{Each}
use Rattle.pass_frames_proof.specs.run_source.declared.state.Activation.{Activation}
use Rattle.pass_frames_proof.specs.run_step.Values.{Env}
use Rattle.pass_frames_meaning.specs.Led.{IsLed}
use Rattle.pass_frames_meaning.specs.Setting.{Setting}
use Rattle.pass_frames_proof.specs.Anew.{HasCellsMade}
use Rattle.pass_frames_proof.specs.Entering.{front_allocas}
use Rattle.pass_frames_proof.specs.Places.{Framing, edged, framed, instrs_at, marked, offsets}
use Rattle.pass_frames_proof.specs.Ramps.{HasEntryAllocas, IsPlainEntry}
use Rattle.pass_frames_proof.specs.Related.{IsKeptValue, IsSuspendNumber, is_coroutine}
use Rattle.pass_frames_proof.specs.Stepping.{IsNotEntering}
use Rattle.pass_frames_proof.specs.pass_intrinsics.Shapes.{suspends_of}
use Rattle.pass_frames_proof.specs.pass_intrinsics.declared.shape.SuspendPoint.{SuspendPoint}
use Rattle.pass_frames_proof.specs.pass_proofs.addresses.rules.Addresses.{lies_in_frame}
use Rattle.pass_frames_proof.specs.pass_renewed_proof.SlotRules.{KeepsAllSlots}
use Rattle.pass_frames_proof.specs.run_framed.Framed.{begin_name}
use Rattle.pass_renewed_meaning.specs.run_hooks.Hooks.{Hooks}
use Rattle.pass_frames_proof.specs.run_memory.declared.pointer.Value.{Value}
use Rattle.pass_frames_proof.specs.run_source.State.{function_of, is_suspended}
use Rattle.pass_frames_proof.specs.run_source.declared.state.Instance.{Instance}
use Rattle.pass_frames_proof.specs.run_source.declared.state.Mode.{Mode}
use Rattle.pass_frames_proof.specs.run_source.declared.state.State.{State}
use Rattle.pass_frames_proof.specs.run_step.Step.{AtInstr, fetch}
use Rattle.pass_frames_proof.specs.run_step.Values.{pointer_to, value_in}
use Rattle.pass_frames_proof.specs.run_step.declared.world.Slot.{Slot}

-- ---- code

-- a suspend by its number leads to the labels that the passes list
pub record IsListedSuspend (x : Framing) (j : ℕ) (p : Point) : Type 0 where
  pub suspend : SuspendPoint
  pub there : slice_get (suspends_of (edged x)) j ≡ Some suspend
  pub resume : resume_label (edged x) p ≡ suspend.resume
  pub destroy : destroy_label (edged x) p ≡ suspend.destroy

-- a slot that is made anew or lies in the frame
abbrev pub IsMemorySlot : Setting → (func : ℕ) → Framing → (v : ℕ) → Type 0
IsMemorySlot c func x v =
    IsListed v (allocas_of (edged x)) × ((c.g.flags func v ≡ true) ⊎ (lies_in_frame (offsets x) v ≡ true))

-- what a resume may hand on behind the suspend of a number: what crosses it, begin's value, and addresses of such
-- slots
abbrev pub IsHandedOn : Setting → (func : ℕ) → Framing → (j v : ℕ) → Type 0
IsHandedOn c func x j v =
    (Contains x.contents.crossing (v, j) × (k : KeptValue) × IsKeptValue x v k)
    ⊎ ((v ≡ begin_of x.function) ⊎ IsMemorySlot c func x v)

-- of a coroutine by its framing
pub record IsWakeable (c : Setting) (func : ℕ) (x : Framing) : Type 0 where
  -- the framed form breaks no rule of functions
  pub rules : HasEntryAllocas c.b.framed_code func x
  -- F1
  pub entry : IsPlainEntry x
  -- begin is one, in both forms
  pub begins : begin_name (edged x) ≡ Some (begin_of x.function)
  pub framed_begins : begin_name (framed x) ≡ Some (begin_of x.function)
  -- local slots, which are made anew, lie in no frame, and have no markers left
  pub outside : (v : ℕ) → c.g.flags func v ≡ true → lies_in_frame (offsets x) v ≡ false
  pub unmarked : (v : ℕ) → c.g.flags func v ≡ true → flag_at (marked x) v ≡ false
  -- what crosses a suspend is handed on
  pub handed : (j : ℕ) (p : Point) (v : ℕ) → IsSuspendNumber x j p → Contains x.contents.crossing (v, j)
      → c.g.keep func p v ≡ true
  -- and not much more
  pub alone : (j : ℕ) (p : Point) (v : ℕ) → IsSuspendNumber x j p → c.g.keep func p v ≡ true → IsHandedOn c func x j v
  -- allocas in front of the framed form's entry are those of the entry's that lie in no frame, or have new names
  pub fronts : (v : ℕ) → IsListed v (allocas_in (front_allocas x)) → v < length (edged x).names
      → (at : ℕ) × (align : ℕ) × (ty : Ty) × (slice_get (instrs_at x 0) at ≡ Some (Instr.Alloca v ty align))
      × (lies_in_frame (offsets x) v ≡ false)
  -- the table tells addresses of kept values of which distances are kept
  pub roots : (v : ℕ) (k : KeptValue) → IsKeptValue x v k → c.g.roots func v ≡ k.slot

pub record KeepsWaking (c : Setting) : Type 0 where
  pub slots : KeepsAllSlots c.g.given.code c.g.keep c.g.flags c.g.roots
  pub coroutines : (func : ℕ) → is_coroutine c.b func ≡ true → IsWakeable c func (c.b.framing func)

-- ---- states

-- no name of an alloca counts: what is known is begin's value alone
abbrev pub none_counts : ℕ → ℕ → Bool
none_counts func v = false

-- A state in which instances may be woken: begin's value is the frame's address, and one that is suspended isn't
-- freed.
pub record MayWake (c : Setting) (s : State) : Type 0 where
  pub led : IsLed c.g.given.code none_counts s
  pub unfreed : (i : ℕ) (x : Instance) → slice_get s.instances i ≡ Some x → is_suspended x.status ≡ true
      → x.freed ≡ false

-- An activation that makes slots anew stands at the alloca of one, on its way to a label behind a suspend. Of names
-- that are neither handed on nor made anew there is nothing, and slots that were made have addresses.
pub record IsOnWay (c : Setting) (s : State) (label : ℕ) : Type 0 where
  pub order : ℕ
  pub suspend : Point
  pub number : IsSuspendNumber (c.b.framing s.top.func) order suspend
  pub leads : (label ≡ resume_label (edged (c.b.framing s.top.func)) suspend)
      ⊎ (label ≡ destroy_label (edged (c.b.framing s.top.func)) suspend)
  pub entry_block : s.top.block ≡ 0
  pub name : ℕ
  pub ty : Ty
  pub align : ℕ
  pub there : fetch (function_of c.g.given s) 0 s.top.at ≡ AtInstr (Instr.Alloca name ty align)
  pub flagged : c.g.flags s.top.func name ≡ true
  pub unhanded : (v : ℕ) → c.g.keep s.top.func suspend v ≡ false → c.g.flags s.top.func v ≡ false
      → value_in s.top.values v ≡ Value.Poison
  pub made : (at v align : ℕ) (ty : Ty) → fetch (function_of c.g.given s) 0 at ≡ AtInstr (Instr.Alloca v ty align)
      → at < s.top.at → c.g.flags s.top.func v ≡ true → (n : ℕ) × (value_in s.top.values v ≡ pointer_to n)

-- A state of the framed run: instances are of coroutines, and no ramp was given its frame.
pub record IsFramedFit (c : Setting) (t : State) : Type 0 where
  pub instances : (i : ℕ) (x : Instance) → slice_get t.instances i ≡ Some x → is_coroutine c.b x.coroutine ≡ true
  pub ungiven : (frame : Value) → t.top.mode ≡ Mode.GivenRamp frame → ⊥

-- A state in which the next slot may be made anew: cells of allocas that were made are there in the framed run.
pub record MayEnter (c : Setting) (s t : State) : Type 0 where
  pub way : (from label : ℕ) → s.top.mode ≡ Mode.Entering from label → IsOnWay c s label
  pub cells : HasCellsMade c.b t

-- ---- what is asked of hooks

-- none of these activations makes slots anew
abbrev pub AreStill : List Activation → Type 0
AreStill below = Each (λ (a : Activation). IsNotEntering a.mode) below

-- no slot and no begin makes an activation make slots anew, and none changes those below, and coro.end leaves
-- activations
pub record KeepsModes (h : Hooks) : Type 0 where
  pub place : (s : State) (slot : Slot) → IsNotEntering s.top.mode
      → IsNotEntering (h.place s slot).top.mode × ((h.place s slot).below ≡ s.below)
  pub start : (s : State) (result : Option ℕ) (memory : Value) (t : State) → IsCalm s.top.mode
      → h.start s result memory ≡ Ok t → (t.top.mode ≡ s.top.mode) × (t.below ≡ s.below)
  pub closed : (s : State) → ((h.close s).top ≡ s.top) × ((h.close s).below ≡ s.below)
  -- a coroutine that goes on is pushed
  pub go_on : (s : State) (i : ℕ) (x : Instance) (suspend : Point) (values : Env) (label : ℕ)
      → (h.go_on s i x suspend values label).below ≡ waiting s ∷ s.below
  -- no call gives a frame
  pub ungiven : (s : State) (block at : ℕ) → h.given_call s (fetch (function_of h.given s) block at) ≡ None
