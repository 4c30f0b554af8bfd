-- Instructions that make or mark blocks, and those that give a value alone.
use Rattle.std.specs.Prelude.{◌≡◌, ◌<◌, ℕ, Bool, true, false, List, [], ◌∷◌, ◌++◌, length, Option, Some, IsTrue}
use Rattle.std.specs.Prelude.{if◌then◌else◌, slice_get}
use Rattle.pass_kept_proof.specs.ir_model.Names.{function_at}
use Rattle.pass_kept_proof.specs.ir_model.Ty.{Ty}
use Rattle.pass_kept_proof.specs.ir_model.declared.instr.Instr.{Instr}
use Rattle.pass_kept_proof.specs.ir_model.declared.module.Module.{Module}
use Rattle.pass_kept_proof.specs.ir_model.declared.operand.Allocator.{Allocator}
use Rattle.pass_kept_proof.specs.ir_model.declared.operand.Arg.{Arg}
use Rattle.pass_kept_proof.specs.ir_model.declared.operand.Callee.{Callee}
use Rattle.pass_kept_proof.specs.ir_model.declared.operand.Intrinsic.{Intrinsic}
use Rattle.pass_kept_proof.specs.ir_model.declared.operand.Operand.{Operand}
use Rattle.pass_kept_proof.specs.ir_paths.Windows.{is_call_of, operand_at, suspend_of}
use Rattle.pass_kept_proof.specs.ir_paths.declared.point.Point.{Point}
use Rattle.pass_kept_proof.specs.ir_model.Layout.{size_of}
use Rattle.run_laws.specs.memory.Standing.{blank_block}
use Rattle.pass_kept_proof.specs.run_memory.declared.block.Life.{Life}
use Rattle.pass_kept_proof.specs.run_memory.declared.block.MemoryBlock.{MemoryBlock}
use Rattle.pass_kept_proof.specs.run_source.State.{settled}
use Rattle.pass_kept_proof.specs.run_source.declared.state.Activation.{Activation}
use Rattle.pass_kept_proof.specs.run_source.declared.state.Instance.{Instance}
use Rattle.pass_kept_proof.specs.run_source.declared.state.Mode.{Mode}
use Rattle.pass_kept_proof.specs.run_source.declared.state.State.{State}
use Rattle.pass_kept_proof.specs.run_step.Step.{AtInstr, alloca_kind, fetch}
use Rattle.pass_kept_proof.specs.run_step.Values.{pointer_to, with_value}
use Rattle.pass_renewed_proof.specs.Beside.{IsOther, place_in}
use Rattle.pass_renewed_proof.specs.Ordinary.{IsCalm, IsOrdinary}
use Rattle.pass_renewed_proof.specs.Renewed.{Flags, Roots}
use Rattle.pass_renewed_proof.specs.SlotRules.{IsMadeOnce}

-- ---- instructions that give a value

-- an instruction that is no marker stands at the activation's place; the name isn't one of an address in a slot, nor
-- that of an alloca
pub record IsGiving (m : Module) (roots : Roots) (a : Activation) (i : Instr) (result : Option ℕ) : Type 0 where
  pub place : IsCalm (function_at m a.func) (place_in a)
  pub here : fetch (function_at m a.func) a.block a.at ≡ AtInstr i
  pub no_start : is_call_of Intrinsic.LifetimeStart i ≡ false
  pub no_end : is_call_of Intrinsic.LifetimeEnd i ≡ false
  pub no_part : (v slot : ℕ) → roots a.func v ≡ Some slot → result ≡ Some v → ⊥
  pub no_alloca : (v : ℕ) → IsMadeOnce (function_at m a.func) v → result ≡ Some v → ⊥

-- ---- allocators

abbrev pub allocates : Allocator → Bool
allocates Allocator.Malloc = true
allocates Allocator.Znwm = true
allocates _ = false

-- a call of malloc or of operator new stands at the activation's place
pub record IsAllocating (m : Module) (roots : Roots) (a : Activation) (allocator : Allocator) (result : Option ℕ)
    (must_tail : Bool) (ty : Option Ty) (args : List Arg) : Type 0 where
  pub giving : IsGiving m roots a (Instr.Call result must_tail ty (Callee.Allocator allocator) args) result
  pub is : IsTrue (allocates allocator)

-- ---- markers of slots that may be made anew

-- a marker of such a slot stands at the activation's place
pub record IsMarkingSlot (m : Module) (flags : Flags) (a : Activation) (marker : Intrinsic) (slot : ℕ) (result :
    Option ℕ) (must_tail : Bool) (ty : Option Ty) (args : List Arg) : Type 0 where
  pub place : IsOrdinary (function_at m a.func) (place_in a)
  pub here : fetch (function_at m a.func) a.block a.at ≡ AtInstr (Instr.Call result must_tail ty (Callee.Intrinsic
      marker) args)
  pub takes : operand_at args 1 ≡ Operand.Local slot
  pub flagged : IsTrue (flags a.func slot)

-- ---- markers of other slots

-- a marker of an alloca that isn't made anew stands at the activation's place
pub record IsMarkingOther (m : Module) (flags : Flags) (roots : Roots) (a : Activation) (marker : Intrinsic) (slot : ℕ)
    (result : Option ℕ) (must_tail : Bool) (ty : Option Ty) (args : List Arg) : Type 0 where
  pub place : IsOrdinary (function_at m a.func) (place_in a)
  pub here : fetch (function_at m a.func) a.block a.at ≡ AtInstr (Instr.Call result must_tail ty (Callee.Intrinsic
      marker) args)
  pub takes : operand_at args 1 ≡ Operand.Local slot
  pub other : IsOther (function_at m a.func) (flags a.func) (roots a.func) slot

-- ---- allocas

-- an alloca of a slot that may be made anew stands at the activation's place, and gives a name that the activation has
-- a value of
pub record IsAllocaOfSlot (m : Module) (flags : Flags) (a : Activation) (name : ℕ) (ty : Ty) (align : ℕ) : Type 0 where
  pub place : IsOrdinary (function_at m a.func) (place_in a)
  pub here : fetch (function_at m a.func) a.block a.at ≡ AtInstr (Instr.Alloca name ty align)
  pub flagged : IsTrue (flags a.func name)
  pub named : name < length a.values

-- an alloca of any other slot, which gives a name that the activation has a value of, and no address in such a slot
pub record IsAllocaOfOther (m : Module) (flags : Flags) (roots : Roots) (a : Activation) (name : ℕ) (ty : Ty) (align :
    ℕ) : Type 0 where
  pub place : IsCalm (function_at m a.func) (place_in a)
  pub here : fetch (function_at m a.func) a.block a.at ≡ AtInstr (Instr.Alloca name ty align)
  pub no_part : (v slot : ℕ) → roots a.func v ≡ Some slot → name ≡ v → ⊥
  pub named : name < length a.values
  pub off : flags a.func name ≡ false

-- the block of an alloca, which is dead at first if it has markers
abbrev pub slot_block : Module → State → Ty → (align : ℕ) → (marked : Bool) → MemoryBlock
slot_block m s ty align marked =
    record (blank_block (size_of m ty) align (alloca_kind (function_at m s.top.func))) {
      life = if marked then Life.Ended else Life.Live;
    }

-- there is a block more, whose address the alloca gives
abbrev pub with_slot_of : State → MemoryBlock → ℕ → State
with_slot_of s x name = settled s (record {
  world = record s.world { memory = s.world.memory ++ x ∷ [] };
  values = with_value s.top.values name (pointer_to (length s.world.memory));
})

-- ---- saves

-- a save, which has a suspend, stands at the place of an activation that hasn't left
pub record IsSaveOf (m : Module) (a : Activation) (i : Instr) (suspend : Point) : Type 0 where
  pub place : IsOrdinary (function_at m a.func) (place_in a)
  pub here : fetch (function_at m a.func) a.block a.at ≡ AtInstr i
  pub is : is_call_of Intrinsic.CoroSave i ≡ true
  pub takes : suspend_of (function_at m a.func) (place_in a) ≡ Some suspend
  pub stays : a.has_left ≡ false

-- a suspend without a token stands at the place of an activation that hasn't left
pub record IsSuspendOf (m : Module) (roots : Roots) (a : Activation) (i : Instr) (result : Option ℕ) : Type 0 where
  pub giving : IsGiving m roots a i result
  pub is : is_call_of Intrinsic.CoroSuspend i ≡ true
  pub stays : a.has_left ≡ false

-- ---- the end

-- an end stands at the place of an activation that wasn't resumed; its name isn't one of an address in a slot, nor that
-- of an alloca
pub record IsEndOf (m : Module) (roots : Roots) (a : Activation) (i : Instr) (result : Option ℕ) : Type 0 where
  pub here : fetch (function_at m a.func) a.block a.at ≡ AtInstr i
  pub is : is_call_of Intrinsic.CoroEnd i ≡ true
  pub first : a.mode ≡ Mode.Resumed → ⊥
  pub no_part : (v slot : ℕ) → roots a.func v ≡ Some slot → result ≡ Some v → ⊥
  pub no_alloca : (v : ℕ) → IsMadeOnce (function_at m a.func) v → result ≡ Some v → ⊥

-- an activation's instance is there
abbrev pub HasInstance : List Instance → Activation → Type 0
HasInstance xs a = (n : ℕ) → a.instance ≡ Some n → (x : Instance) × (slice_get xs n ≡ Some x)
