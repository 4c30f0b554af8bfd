-- Memories in which some blocks count as dead: those that are no longer used.
use Rattle.std.specs.Prelude.{ℕ, suc, Bool, true, false, List, [], ◌∷◌, ◌≡◌}
use Rattle.run_memory.specs.declared.block.Life.{Life}
use Rattle.run_memory.specs.declared.block.MemoryBlock.{MemoryBlock}
use Rattle.run_memory.specs.declared.pointer.Pointer.{Pointer}
use Rattle.run_memory.specs.declared.pointer.Value.{Value}
use Rattle.ir_model.specs.Ty.{Ty}
use Rattle.ir_model.specs.declared.operand.Operand.{Operand}
use Rattle.run_step.specs.Step.{Action, Context, Coro, Deallocate, Done, Enter, GoTo, NewSlot, Return, Stuck, Work, set_memory, value_at}

-- a block that has ended if the test says so
abbrev pub ended_if : Bool → MemoryBlock → MemoryBlock
ended_if true x = record x { life = Life.Ended }
ended_if false x = x

-- the blocks of these numbers have ended
abbrev pub muted : (ℕ → Bool) → List MemoryBlock → List MemoryBlock
muted hides [] = []
muted hides (x ∷ m) = ended_if (hides 0) x ∷ muted (λ b. hides (suc b)) m

abbrev pub muted_work : (ℕ → Bool) → Work → Work
muted_work hides w = set_memory w (muted hides w.world.memory)

abbrev pub muted_action : (ℕ → Bool) → Action → Action
muted_action hides (Done w) = Done (muted_work hides w)
muted_action hides (NewSlot w slot) = NewSlot (muted_work hides w) slot
muted_action hides (Enter func args result must_tail) = Enter func args result must_tail
muted_action hides (Coro i args result) = Coro i args result
muted_action hides (Deallocate p) = Deallocate p
muted_action hides (GoTo label) = GoTo label
muted_action hides (Return v) = Return v
muted_action hides (Stuck cause) = Stuck cause

-- the value leads into none of these blocks
abbrev pub IsShown : (ℕ → Bool) → Value → Type 0
IsShown hides (Value.Ptr (Pointer.At b o)) = hides b ≡ false
IsShown hides _ = Unit {0}

abbrev pub IsShownOperand : (ℕ → Bool) → Context → Work → Operand → Type 0
IsShownOperand hides c w x = (ty : Ty) → IsShown hides (value_at c w ty x)
