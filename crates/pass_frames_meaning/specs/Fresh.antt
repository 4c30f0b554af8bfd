-- An activation in a block on a resume or destroy edge was woken, and its instance goes on.
use Rattle.std.specs.Prelude.{◌≡◌, ◌⊎◌, ℕ, Bool, true, false, List, [], ◌∷◌, None, Some, Ok, Option, Result, Err, slice_get, slice_set}
use Rattle.pass_frames_proof.specs.ir_base.declared.cause.Cause.{Cause}
use Rattle.pass_frames_proof.specs.ir_model.Names.{function_at, position_of}
use Rattle.pass_frames_proof.specs.ir_model.declared.instr.Instr.{Instr}
use Rattle.pass_frames_proof.specs.ir_model.declared.instr.Terminator.{Terminator}
use Rattle.pass_frames_proof.specs.ir_model.declared.module.Module.{Module}
use Rattle.pass_frames_proof.specs.ir_paths.declared.point.Point.{Point}
use Rattle.pass_frames_proof.specs.Related.{is_first}
use Rattle.pass_renewed_meaning.specs.run_hooks.Hooks.{Hooks, hooked_context}
use Rattle.pass_renewed_meaning.specs.run_hooks.Reached.{IsAnInstr}
use Rattle.pass_frames_proof.specs.run_memory.declared.pointer.Value.{Value}
use Rattle.pass_frames_proof.specs.run_source.State.{function_of, is_suspended, work_of}
use Rattle.pass_frames_proof.specs.run_source.declared.state.Activation.{Activation}
use Rattle.pass_frames_proof.specs.run_source.declared.state.Instance.{Instance}
use Rattle.pass_frames_proof.specs.run_source.declared.state.Mode.{Mode}
use Rattle.pass_frames_proof.specs.run_source.declared.state.State.{State}
use Rattle.pass_frames_proof.specs.run_source.declared.state.Status.{Status}
use Rattle.pass_frames_proof.specs.run_step.Step.{AtInstr, AtTerm, Fetched, GoTo, fetch, term_action}
use Rattle.pass_frames_proof.specs.run_step.Values.{Env}
use Rattle.pass_frames_proof.specs.run_step.declared.world.Slot.{Slot}

abbrev pub is_entering : Mode → Bool
is_entering (Mode.Entering from label) = true
is_entering _ = false

-- The activation on top was woken, and its instance goes on.
pub record IsWoken (s : State) : Type 0 where
  pub not_first : is_first s.top.mode ≡ false
  pub number : ℕ
  pub instance : Instance
  pub own : s.top.instance ≡ Some number
  pub there : slice_get s.instances number ≡ Some instance
  pub running : instance.status ≡ Status.Running
  pub unfreed : instance.freed ≡ false

-- it makes allocas again, or stands in one of these blocks
abbrev pub IsFresh : (ℕ → ℕ → Bool) → Activation → Type 0
IsFresh edges a = (edges a.func a.block ≡ true) ⊎ (is_entering a.mode ≡ true)

-- an instance that is suspended isn't freed
abbrev pub AreUnfreed : List Instance → Type 0
AreUnfreed [] = Unit {0}
AreUnfreed (x ∷ xs) = (is_suspended x.status ≡ true → x.freed ≡ false) × AreUnfreed xs

pub record IsFreshState (edges : ℕ → ℕ → Bool) (s : State) : Type 0 where
  pub asleep : AreUnfreed s.instances
  pub fresh : IsFresh edges s.top → IsWoken s

-- what a part of a step gives, if it gives a state
abbrev pub StaysFresh : (ℕ → ℕ → Bool) → Result State Cause → Type 0
StaysFresh edges (Err cause) = Unit {0}
StaysFresh edges (Ok s) = IsFreshState edges s

-- ---- what it asks

-- of blocks: none is an entry, and an instruction stands in none
pub record AreBareBlocks (m : Module) (edges : ℕ → ℕ → Bool) : Type 0 where
  pub later : (func : ℕ) → edges func 0 ≡ false
  pub bare : (func block at : ℕ) (i : Instr) → fetch (function_at m func) block at ≡ AtInstr i → edges func block ≡ false

-- of a state: its terminator leads to none
abbrev pub LeadsToNone : Hooks → (ℕ → ℕ → Bool) → State → Type 0
LeadsToNone h edges s =
    (t : Terminator) (label : ℕ) → fetch (function_of h.given s) s.top.block s.top.at ≡ AtTerm t
    → term_action (hooked_context h s) (work_of s) t ≡ GoTo label
    → edges s.top.func (position_of (function_of h.given s) label) ≡ false

-- the same activation but for its values and slots
pub record IsSameTop (s t : State) : Type 0 where
  pub func : t.top.func ≡ s.top.func
  pub block : t.top.block ≡ s.top.block
  pub mode : t.top.mode ≡ s.top.mode

-- behind an alloca
pub record IsPlacedSlot (s t : State) : Type 0 where
  pub asleep : AreUnfreed s.instances → AreUnfreed t.instances
  pub calm : is_entering s.top.mode ≡ false → IsSameTop s t
  -- what makes allocas again goes on with its instance
  pub goes : is_entering s.top.mode ≡ true → (t.instances ≡ s.instances) × (t.top.instance ≡ s.top.instance)
      × (is_first t.top.mode ≡ false)

-- a suspended instance goes on
pub record IsWaking (s : State) (i : ℕ) (x : Instance) (t : State) : Type 0 where
  pub instances : t.instances ≡ slice_set s.instances i (record x { status = Status.Running })
  pub own : t.top.instance ≡ Some i
  pub not_first : is_first t.top.mode ≡ false

pub record KeepsFresh (h : Hooks) : Type 0 where
  pub go_on : (s : State) (i : ℕ) (x : Instance) (suspend : Point) (values : Env) (label : ℕ)
      → IsWaking s i x (h.go_on s i x suspend values label)
  pub place : (s : State) (slot : Slot) → IsPlacedSlot s (h.place s slot)
  pub start : (s : State) (result : Option ℕ) (memory : Value) (t : State) → h.start s result memory ≡ Ok t
      → (AreUnfreed s.instances → AreUnfreed t.instances) × IsSameTop s t
  pub close : (s : State) → (AreUnfreed s.instances → AreUnfreed (h.close s).instances) × ((h.close s).top ≡ s.top)
      × ((h.close s).below ≡ s.below)
  -- no call gives a frame
  pub ungiven : (s : State) (block at : ℕ) → h.given_call s (fetch (function_of h.given s) block at) ≡ None
  -- what does nothing is an instruction, and no alloca
  pub idle : (s : State) (x : Fetched) → h.is_idle s x ≡ true → IsAnInstr x
