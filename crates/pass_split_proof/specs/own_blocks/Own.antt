-- States of a framed run: frames begin blocks of allocators, or were given by a call. Allocas that are behind an
-- activation have given it blocks of their own.
use Rattle.std.specs.Prelude.{◌≡◌, ℕ, ◌<◌, ◌⊎◌, Bool, true, false, not, List, [], ◌∷◌, length, slice_get, Some, Option, is_none, ◌||◌, ◌==◌}
use Rattle.pass_proofs.specs.ir_base.declared.name.Name.{Name}
use Rattle.pass_proofs.specs.ir_model.Names.{function_at}
use Rattle.pass_proofs.specs.ir_model.Ty.{Ty}
use Rattle.pass_proofs.specs.ir_model.declared.instr.Instr.{Instr}
use Rattle.pass_proofs.specs.ir_model.declared.module.Function.{Function}
use Rattle.pass_proofs.specs.ir_model.declared.module.Module.{Module}
use Rattle.pass_proofs.specs.ir_model.declared.operand.Arg.{Arg}
use Rattle.pass_proofs.specs.ir_model.declared.operand.Callee.{Callee}
use Rattle.pass_proofs.specs.ir_model.declared.operand.Intrinsic.{Intrinsic}
use Rattle.pass_split_proof.specs.held.Kept.{IsNoHeap, is_heap_in, is_stack_in}
use Rattle.pass_split_proof.specs.simulation.Premises.{AreAllocasAlone, IsEntryAlloca, is_of_coroutines}
use Rattle.pass_proofs.specs.run_framed.Framed.{given_ramp}
use Rattle.pass_proofs.specs.run_memory.declared.block.MemoryBlock.{MemoryBlock}
use Rattle.pass_proofs.specs.run_memory.declared.pointer.Offset.{Offset}
use Rattle.pass_proofs.specs.run_memory.declared.pointer.Pointer.{Pointer}
use Rattle.pass_proofs.specs.run_memory.declared.pointer.Value.{Value}
use Rattle.pass_proofs.specs.run_source.declared.state.Activation.{Activation}
use Rattle.pass_proofs.specs.run_source.declared.state.Instance.{Instance}
use Rattle.pass_proofs.specs.run_source.declared.state.Mode.{Mode}
use Rattle.pass_proofs.specs.run_source.declared.state.State.{State}
use Rattle.pass_proofs.specs.run_step.Step.{AtInstr, fetch}
use Rattle.pass_proofs.specs.run_step.Values.{Env, value_in}

-- ---- what is asked of the module

pub record HasOwnBlocks (m : Module) : Type 0 where
  -- F2, F3, N1 and K13
  pub allocas : (func : ℕ) → AreAllocasAlone (function_at m func)
  -- K1
  pub intrinsics : (func block at : ℕ) (result : Option ℕ) (must_tail : Bool) (ty : Option Ty) (x : Intrinsic)
      (args : List Arg) → fetch (function_at m func) block at ≡ AtInstr (Instr.Call result must_tail ty
      (Callee.Intrinsic x) args) → is_of_coroutines x ≡ true → (function_at m func).coroutine ≡ true

-- a call of the module gives a frame
pub record GivesFrames (m : Module) : Type 0 where
  pub func : ℕ
  pub block : ℕ
  pub at : ℕ
  pub result : Option ℕ
  pub must_tail : Bool
  pub ty : Option Ty
  pub name : Name
  pub args : List Arg
  pub there : fetch (function_at m func) block at ≡ AtInstr (Instr.Call result must_tail ty (Callee.Named name) args)
  pub ramp : ℕ
  pub gives : given_ramp m name ≡ Some ramp

-- ---- activations

-- a name has the address of a block that is no allocator's
pub record IsMade (m : List MemoryBlock) (env : Env) (name : ℕ) : Type 0 where
  pub block : ℕ
  pub offset : Offset
  pub is : value_in env name ≡ Value.Ptr (Pointer.At block offset)
  pub none : IsNoHeap m block

-- so has the name of each alloca of the entry block that is behind a place
abbrev pub AreMade : Function → List MemoryBlock → Env → (block at : ℕ) → Type 0
AreMade f m env block at = (k name : ℕ) → IsEntryAlloca f k name → (block ≡ 0 → k < at) → IsMade m env name

-- A function that is no coroutine runs Plain, and a coroutine doesn't. A ramp is given its frame where calls give
-- frames, and what goes on has an instance.
abbrev pub FitsMode : Module → Bool → Option ℕ → Mode → Type 0
FitsMode c coroutine instance Mode.Plain = coroutine ≡ false
FitsMode c coroutine instance Mode.Ramp = coroutine ≡ true
FitsMode c coroutine instance Mode.Resumed = (coroutine ≡ true) × (is_none instance ≡ false)
FitsMode c coroutine instance (Mode.GivenRamp frame) = (coroutine ≡ true) × GivesFrames c
FitsMode c coroutine instance (Mode.Entering from label) = (coroutine ≡ true) × (is_none instance ≡ false)

pub record IsOwnActivation (c : Module) (m : List MemoryBlock) (a : Activation) : Type 0 where
  pub mode : FitsMode c (function_at c a.func).coroutine a.instance a.mode
  pub whole : length a.values ≡ length (function_at c a.func).names
  pub made : AreMade (function_at c a.func) m a.values a.block a.at

-- the name that a call sets is no alloca's
abbrev pub SetsNoAlloca : Function → Option ℕ → Type 0
SetsNoAlloca f result = (k name : ℕ) → IsEntryAlloca f k name → result ≡ Some name → ⊥

-- the activations below one that gives its result to the first
abbrev pub AreOwnBelow : Module → List MemoryBlock → Option ℕ → List Activation → Type 0
AreOwnBelow c m result [] = Unit {0}
AreOwnBelow c m result (a ∷ below) =
    IsOwnActivation c m a × SetsNoAlloca (function_at c a.func) result × AreOwnBelow c m a.result below

-- ---- states

-- where a frame lies: it begins an allocator's block, or was given by a call
abbrev pub BeginsWell : Module → List MemoryBlock → (block start : ℕ) → Type 0
BeginsWell c m block start = ((start ≡ 0) × (is_heap_in (slice_get m block) ≡ true))
    ⊎ (GivesFrames c × ((is_stack_in (slice_get m block) || not (start == 0)) ≡ true))

-- so it is with the frame of an instance, which is one of a coroutine
pub record IsOwnInstance (c : Module) (m : List MemoryBlock) (x : Instance) : Type 0 where
  pub known : x.block < length m
  pub begins : BeginsWell c m x.block x.start
  pub coroutine : (function_at c x.coroutine).coroutine ≡ true

abbrev pub AreOwn : Module → List MemoryBlock → List Instance → Type 0
AreOwn c m xs = (i : ℕ) (x : Instance) → slice_get xs i ≡ Some x → IsOwnInstance c m x

pub record IsOwnState (c : Module) (s : State) : Type 0 where
  pub instances : AreOwn c s.world.memory s.instances
  pub top : IsOwnActivation c s.world.memory s.top
  pub below : AreOwnBelow c s.world.memory s.top.result s.below
