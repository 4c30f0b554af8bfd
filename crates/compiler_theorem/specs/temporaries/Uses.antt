-- What blocks are to slots of a run by hooks: no marker names the alloca of one that stays alive.
use Rattle.std.specs.Prelude.{◌≡◌, ℕ, Bool, List, [], ◌∷◌, length, slice_get, Some, None, Option, Result, Ok, Err}
use Rattle.std.specs.Prelude.{true, false}
use Rattle.compiler.specs.ir_base.declared.cause.Cause.{Cause}
use Rattle.compiler.specs.ir_model.Layout.{size_of}
use Rattle.compiler.specs.ir_model.Names.{function_at}
use Rattle.compiler.specs.ir_model.Ty.{Ty}
use Rattle.compiler.specs.ir_model.declared.instr.Instr.{Instr}
use Rattle.compiler.specs.ir_model.declared.module.Function.{Function}
use Rattle.compiler.specs.ir_model.declared.module.Module.{Module}
use Rattle.compiler.specs.ir_model.declared.operand.Arg.{Arg}
use Rattle.compiler.specs.ir_model.declared.operand.Callee.{Callee}
use Rattle.compiler.specs.ir_model.declared.operand.Intrinsic.{Intrinsic}
use Rattle.compiler.specs.ir_paths.declared.point.Point.{Point}
use Rattle.pass_frames_meaning.specs.Sized.{IsSlotwise}
use Rattle.pass_frames_meaning.specs.pass_renewed_proof.SlotRules.{IsMadeOnce}
use Rattle.pass_frames_meaning.specs.run_hooks.Hooks.{Hooks}
use Rattle.pass_frames_meaning.specs.run_hooks.Left.{KeepsLast}
use Rattle.pass_frames_meaning.specs.run_hooks.Reached.{KeepsReached}
use Rattle.compiler.specs.run_memory.Memory.{is_live}
use Rattle.compiler.specs.run_memory.declared.block.Kind.{Kind}
use Rattle.compiler.specs.run_memory.declared.block.Life.{Life}
use Rattle.compiler.specs.run_memory.declared.block.MemoryBlock.{MemoryBlock}
use Rattle.compiler.specs.run_memory.declared.pointer.Value.{Value}
use Rattle.compiler.specs.run_source.State.{function_of}
use Rattle.compiler.specs.run_source.declared.state.Activation.{Activation}
use Rattle.compiler.specs.run_source.declared.state.Instance.{Instance}
use Rattle.compiler.specs.run_source.declared.state.State.{State}
use Rattle.compiler.specs.run_step.Step.{AtInstr, Context, Fetched, Work, alloca_kind, block_of, fetch, has_markers}
use Rattle.compiler.specs.run_step.Values.{Env, arg_values, nth, value_in}
use Rattle.compiler.specs.run_step.declared.world.Slot.{Slot}

-- what the alloca of a slot says of its block
pub record Tag : Type 0 where
  pub kind : Kind
  pub size : ℕ
  pub align : ℕ

-- The block is that of a slot whose alloca has markers, or of one whose alloca has none. Of others nothing is said.
pub data Use : Type 0 where
  Other : Use
  Marked : Use
  Unmarked : Tag → Use

-- ---- blocks

-- where the block lives it has all its bytes
pub record HasItsBytes (x : MemoryBlock) : Type 0 where
  pub full : is_live x.life ≡ true → length x.bytes ≡ x.size

-- the block is as its alloca says, and no marker has ended it
pub record IsTagged (t : Tag) (x : MemoryBlock) : Type 0 where
  pub kind : x.kind ≡ t.kind
  pub size : x.size ≡ t.size
  pub align : x.align ≡ t.align
  pub unended : x.life ≡ Life.Ended → ⊥

abbrev pub IsUsed : Use → MemoryBlock → Type 0
IsUsed Other x = Unit {0}
IsUsed Marked x = Unit {0}
IsUsed (Unmarked t) x = IsTagged t x

-- a block of a slot is there
abbrev pub IsAbsent : Use → Type 0
IsAbsent Other = Unit {0}
IsAbsent Marked = ⊥
IsAbsent (Unmarked t) = ⊥

abbrev pub HoldsUse : Use → Option MemoryBlock → Type 0
HoldsUse u None = IsAbsent u
HoldsUse u (Some x) = HasItsBytes x × IsUsed u x

abbrev pub IsUsedAt : Use → List MemoryBlock → ℕ → Type 0
IsUsedAt u memory n = HoldsUse u (slice_get memory n)

-- what a part of a step gives, if it gives a state
abbrev pub StaysUsed : Use → ℕ → Result State Cause → Type 0
StaysUsed u n (Err cause) = Unit {0}
StaysUsed u n (Ok s) = IsUsedAt u s.world.memory n

-- what it asks of hooks: they end no block
pub record KeepsUses (h : Hooks) : Type 0 where
  pub go_on : (u : Use) (n : ℕ) (s : State) (i : ℕ) (x : Instance) (suspend : Point) (values : Env) (label : ℕ)
      → IsUsedAt u s.world.memory n → IsUsedAt u (h.go_on s i x suspend values label).world.memory n
  pub place : (u : Use) (n : ℕ) (s : State) (slot : Slot) → IsUsedAt u s.world.memory n
      → IsUsedAt u (h.place s slot).world.memory n
  pub start : (u : Use) (n : ℕ) (s : State) (result : Option ℕ) (memory : Value) → IsUsedAt u s.world.memory n
      → StaysUsed u n (h.start s result memory)
  pub close : (u : Use) (n : ℕ) (s : State) → IsUsedAt u s.world.memory n → IsUsedAt u (h.close s).world.memory n
  -- no call gives a frame
  pub ungiven : (s : State) (block at : ℕ) → h.given_call s (fetch (function_of h.given s) block at) ≡ None

-- an end that stands at the place doesn't lead into a block whose slot has no markers
abbrev pub IsSparedBy : Use → ℕ → Context → Work → Fetched → Type 0
IsSparedBy u n c w x =
    (t : Tag) → u ≡ Unmarked t → (result : Option ℕ) (must_tail : Bool) (ty : Option Ty) (args : List Arg)
    → x ≡ AtInstr (Instr.Call result must_tail ty (Callee.Intrinsic Intrinsic.LifetimeEnd) args)
    → block_of (nth (arg_values c.code w.values args) 1) ≡ Some n → ⊥

-- ---- names and slots

-- the name of an alloca with markers leads only to blocks of such
abbrev pub AreMarkersNamed : Module → (ℕ → Use) → Activation → Type 0
AreMarkersNamed m uses a =
    (v b : ℕ) → IsMadeOnce (function_at m a.func) v → has_markers (function_at m a.func) v ≡ true
    → block_of (value_in a.values v) ≡ Some b → uses b ≡ Marked

abbrev pub AreMarkersNamedOn : Module → (ℕ → Use) → List Activation → Type 0
AreMarkersNamedOn m uses [] = Unit {0}
AreMarkersNamedOn m uses (a ∷ below) = AreMarkersNamed m uses a × AreMarkersNamedOn m uses below

-- ---- what it asks of hooks

-- what a part of a step gives, if it gives a state
abbrev pub StaysNamed : Module → (ℕ → Use) → Result State Cause → Type 0
StaysNamed m uses (Err cause) = Unit {0}
StaysNamed m uses (Ok s) = AreMarkersNamedOn m uses (s.top ∷ s.below)

-- a result is given to no name of an alloca
abbrev pub IsGivenApart : Function → Option ℕ → Type 0
IsGivenApart f result = (v : ℕ) → IsMadeOnce f v → result ≡ Some v → ⊥

pub record KeepsNamed (h : Hooks) : Type 0 where
  pub last : KeepsLast h
  pub reached : KeepsReached h
  -- an activation that goes on knows no address of an alloca
  pub go_on : (s : State) (i : ℕ) (x : Instance) (suspend : Point) (values : Env) (label v b : ℕ)
      → IsMadeOnce (function_of h.given (h.go_on s i x suspend values label)) v
      → block_of (value_in (h.go_on s i x suspend values label).top.values v) ≡ Some b → ⊥
  pub func : (s : State) (slot : Slot) → (h.place s slot).top.func ≡ s.top.func
  pub values : (s : State) (slot : Slot) (v : ℕ) → IsMadeOnce (function_of h.given s) v
      → value_in (h.place s slot).top.values v ≡ value_in s.top.values v
  pub start : (uses : ℕ → Use) (s : State) (result : Option ℕ) (memory : Value)
      → IsGivenApart (function_of h.given s) result → AreMarkersNamedOn h.given.code uses (s.top ∷ s.below)
      → StaysNamed h.given.code uses (h.start s result memory)
  -- no call gives a frame
  pub ungiven : (s : State) (block at : ℕ) → h.given_call s (fetch (function_of h.given s) block at) ≡ None

-- ---- slots

-- what the alloca of a slot says
pub record IsUnmarkedSlot (m : Module) (uses : ℕ → Use) (f : Function) (slot : Slot) : Type 0 where
  pub block : ℕ
  pub at : ℕ
  pub ty : Ty
  pub align : ℕ
  pub stands : fetch f block at ≡ AtInstr (Instr.Alloca slot.alloca ty align)
  pub used : uses slot.block ≡ Unmarked (record { kind = alloca_kind f; size = size_of m ty; align = align })

-- of a slot whose alloca has no markers
abbrev pub IsUsedSlot : Module → (ℕ → Use) → Function → Slot → Type 0
IsUsedSlot m uses f slot = has_markers f slot.alloca ≡ false → IsUnmarkedSlot m uses f slot

-- ---- states

pub record AreUsed (m : Module) (uses : ℕ → Use) (s : State) : Type 0 where
  pub memory : (n : ℕ) → IsUsedAt (uses n) s.world.memory n
  pub names : AreMarkersNamedOn m uses (s.top ∷ s.below)
  pub slots : IsSlotwise (IsUsedSlot m uses) m s

-- each block has such a use
pub record HasUses (m : Module) (s : State) : Type 0 where
  pub uses : ℕ → Use
  pub are : AreUsed m uses s
