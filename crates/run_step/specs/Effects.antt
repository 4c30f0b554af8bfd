-- What the code of a step tells of an action.
use Rattle.std.specs.Prelude.{ℕ, Bool, true, false, List, [], length, ℤ, slice_set, Some, None, Option, ◌≡◌, ◌∷◌, if◌then◌else◌}
use Rattle.run_memory.specs.Memory.{Rights, end, fresh}
use Rattle.run_memory.specs.declared.block.Byte.{Byte}
use Rattle.run_memory.specs.declared.block.Kind.{Kind}
use Rattle.run_memory.specs.declared.block.Life.{Life}
use Rattle.run_memory.specs.declared.block.MemoryBlock.{MemoryBlock}
use Rattle.run_memory.specs.declared.pointer.Value.{Value}
use Rattle.ir_paths.specs.ir_base.declared.cause.Cause.{Cause}
use Rattle.ir_paths.specs.ir_base.declared.outcome.Word.{Word}
use Rattle.ir_paths.specs.ir_model.Layout.{Extent as LayoutExtent}
use Rattle.run_step.specs.declared.extent.Extent.{Extent as CodeExtent}
use Rattle.ir_paths.specs.ir_model.declared.instr.Instr.{Instr}
use Rattle.ir_paths.specs.ir_model.declared.instr.Phi.{Phi}
use Rattle.ir_paths.specs.ir_model.declared.module.Function.{Function}
use Rattle.ir_paths.specs.ir_model.declared.module.Module.{Module}
use Rattle.run_step.specs.Step.{Action, Context, Coro, Deallocate, Done, Enter, GoTo, NewSlot, Return, Stuck, Work, alloca_kind, has_markers}
use Rattle.run_step.specs.Values.{Env, capped}
use Rattle.run_step.specs.declared.effect.Effect.{Effect}
use Rattle.run_step.specs.declared.world.Slot.{Slot}
use Rattle.run_step.specs.declared.world.World.{World}

-- an action without the work that it leaves
abbrev pub effect_of : Action → Effect
effect_of (Done w) = Effect.Done
effect_of (NewSlot w slot) = Effect.NewSlot slot
effect_of (Enter func args result must_tail) = Effect.Enter func args result must_tail
effect_of (Coro i args result) = Effect.Coro i
effect_of (Deallocate p) = Effect.Deallocate p
effect_of (GoTo label) = Effect.GoTo label
effect_of (Return v) = Effect.Return v
effect_of (Stuck cause) = Effect.Stuck cause

-- the work that an action leaves; only one that is done changes it
abbrev pub work_after : Work → Action → Work
work_after w (Done w') = w'
work_after w (NewSlot w' slot) = w'
work_after w _ = w

abbrev pub context : Module → List ℤ → Rights → Function → Context
context m answers rights f = record { code = m; answers = answers; rights = rights; function = f }

abbrev pub work : World → Env → Work
work world values = record { world = world; values = values }

-- the effect and the new work are those of the action
pub record IsEffect (e : Effect) (old new : Work) (a : Action) : Type 0 where
  pub effect : e ≡ effect_of a
  pub work : new ≡ work_after old a

-- the values of phis set one after another
abbrev pub with_taken : Env → List Phi → List (Option Value) → Env
with_taken env [] vs = env
with_taken env (p ∷ phis) [] = env
with_taken env (p ∷ phis) (v ∷ vs) = with_taken (slice_set env p.result v) phis vs

-- what an alloca gives
abbrev pub slot_action : Option Slot → Work → Action
slot_action None w = Stuck Cause.Align
slot_action (Some slot) w = NewSlot w slot

abbrev pub is_alloca : Instr → Bool
is_alloca (Instr.Alloca name ty align) = true
is_alloca _ = false

abbrev pub is_new_slot : Effect → Bool
is_new_slot (Effect.NewSlot slot) = true
is_new_slot _ = false

-- a value as a word
abbrev pub word_of : Value → Option Word
word_of (Value.Int x) = Some x
word_of _ = None

-- an extent as the code has it, its size 2^64 - 1 where it is more
abbrev pub capped_extent : LayoutExtent → CodeExtent
capped_extent e = record { size = capped e.size; align = e.align }

-- the memory with the block of an alloca
abbrev pub slot_memory : Function → List MemoryBlock → (name size align : ℕ) → List MemoryBlock
slot_memory f memory name size align =
    let made = fresh memory size align (alloca_kind f) in if has_markers f name then end made (length memory) else made

-- a live block that nobody owns
abbrev pub made_block : ℕ → ℕ → Kind → List Byte → MemoryBlock
made_block size align kind bytes = record { size = size; align = align; kind = kind; life = Life.Live; owned = None; bytes = bytes }
