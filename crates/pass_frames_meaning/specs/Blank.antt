-- In the run that makes slots anew slots that lie in the frame hold nothing before begin, where no access uses them
-- there.
use Rattle.std.specs.List.{Contains}
use Rattle.std.specs.Prelude.{◌≡◌, ◌≢◌, ◌⊎◌, ℕ, true, List, [], ◌∷◌, slice_get, Some, None, Option, Result, Ok, Err}
use Rattle.pass_frames_proof.specs.flow_solver.Paths.{IsListed}
use Rattle.pass_frames_proof.specs.ir_base.declared.cause.Cause.{Cause}
use Rattle.pass_frames_proof.specs.ir_model.Names.{function_at}
use Rattle.pass_frames_proof.specs.ir_model.Ty.{Ty}
use Rattle.pass_frames_proof.specs.ir_model.declared.instr.Instr.{Instr}
use Rattle.pass_frames_proof.specs.ir_model.declared.operand.Operand.{Operand}
use Rattle.pass_frames_proof.specs.ir_parts.Contents.{instr_operands}
use Rattle.pass_frames_proof.specs.ir_paths.declared.point.Point.{Point}
use Rattle.pass_frames_proof.specs.pass_cells.Kept.{entry}
use Rattle.pass_frames_proof.specs.pass_copies.Uses.{is_access}
use Rattle.pass_frames_proof.specs.pass_copies.declared.slot.EarlySlot.{EarlySlot}
use Rattle.pass_frames_meaning.specs.Setting.{Setting}
use Rattle.pass_frames_meaning.specs.Unbegun.{IsBefore}
use Rattle.pass_frames_proof.specs.Places.{Framing, copies, offsets}
use Rattle.pass_frames_proof.specs.Related.{is_coroutine}
use Rattle.pass_frames_proof.specs.pass_proofs.addresses.rules.Addresses.{lies_in_frame}
use Rattle.pass_renewed_meaning.specs.run_hooks.Hooks.{Hooks}
use Rattle.pass_renewed_meaning.specs.run_hooks.Left.{KeepsLast}
use Rattle.pass_renewed_meaning.specs.run_hooks.Reached.{KeepsReached}
use Rattle.pass_frames_proof.specs.run_laws.transfer.Places.{IsBlank}
use Rattle.pass_frames_proof.specs.run_memory.Memory.{is_live}
use Rattle.pass_frames_proof.specs.run_memory.declared.block.MemoryBlock.{MemoryBlock}
use Rattle.pass_frames_proof.specs.run_memory.declared.pointer.Value.{Value}
use Rattle.pass_frames_proof.specs.run_source.State.{function_of}
use Rattle.pass_frames_proof.specs.run_source.declared.state.Activation.{Activation}
use Rattle.pass_frames_proof.specs.run_source.declared.state.Instance.{Instance}
use Rattle.pass_frames_proof.specs.run_source.declared.state.State.{State}
use Rattle.pass_frames_proof.specs.run_step.Step.{AtInstr, Context, Fetched, Work, block_of, fetch}
use Rattle.pass_frames_proof.specs.run_step.Values.{Env, operand_value}
use Rattle.pass_frames_proof.specs.run_step.declared.world.Slot.{Slot}

-- ---- blocks

-- where the block lives its bytes are undefined
abbrev pub HoldsNothing : Option MemoryBlock → Type 0
HoldsNothing None = Unit {0}
HoldsNothing (Some x) = is_live x.life ≡ true → IsBlank x

abbrev pub IsBlankAt : List MemoryBlock → ℕ → Type 0
IsBlankAt memory n = HoldsNothing (slice_get memory n)

-- what a part of a step gives, if it gives a state
abbrev pub StaysBlank : ℕ → Result State Cause → Type 0
StaysBlank n (Err cause) = Unit {0}
StaysBlank n (Ok s) = IsBlankAt s.world.memory n

-- what it asks of hooks: they write no bytes
pub record KeepsBlank (h : Hooks) : Type 0 where
  pub go_on : (n : ℕ) (s : State) (i : ℕ) (x : Instance) (suspend : Point) (values : Env) (label : ℕ)
      → IsBlankAt s.world.memory n → IsBlankAt (h.go_on s i x suspend values label).world.memory n
  pub place : (n : ℕ) (s : State) (slot : Slot) → IsBlankAt s.world.memory n
      → IsBlankAt (h.place s slot).world.memory n
  pub start : (n : ℕ) (s : State) (result : Option ℕ) (memory : Value) → IsBlankAt s.world.memory n
      → StaysBlank n (h.start s result memory)
  pub close : (n : ℕ) (s : State) → IsBlankAt s.world.memory n → IsBlankAt (h.close s).world.memory n
  -- no call gives a frame
  pub ungiven : (s : State) (block at : ℕ) → h.given_call s (fetch (function_of h.given s) block at) ≡ None

-- no operand of an access at the place leads into the block
abbrev pub IsAwayFrom : ℕ → Context → Work → Fetched → Type 0
IsAwayFrom n c w x =
    (i : Instr) → x ≡ AtInstr i → is_access i ≡ true → (o : Operand) → IsListed o (instr_operands i) → (ty : Ty)
    → block_of (operand_value c.code w.values ty o) ≡ Some n → ⊥

-- ---- slots

-- what holds of each slot of an activation that has begun no instance, by its function
abbrev pub AreEarly : (ℕ → Slot → Type 0) → Activation → Type 0
AreEarly W a = a.instance ≡ None → (slot : Slot) → IsListed slot a.slots → W a.func slot

abbrev pub AreEarlyOn : (ℕ → Slot → Type 0) → List Activation → Type 0
AreEarlyOn W [] = Unit {0}
AreEarlyOn W (a ∷ below) = AreEarly W a × AreEarlyOn W below

pub record IsEarlywise (W : ℕ → Slot → Type 0) (s : State) : Type 0 where
  pub stack : AreEarlyOn W (s.top ∷ s.below)

-- what a part of a step gives, if it gives a state
abbrev pub StaysEarlywise : (ℕ → Slot → Type 0) → Result State Cause → Type 0
StaysEarlywise W (Err cause) = Unit {0}
StaysEarlywise W (Ok s) = IsEarlywise W s

-- the topmost activation is of the same function, and has at most this slot more
pub record HasSlotMore (s t : State) (slot : Slot) : Type 0 where
  pub func : t.top.func ≡ s.top.func
  pub slots : (z : Slot) → IsListed z t.top.slots → (z ≡ slot) ⊎ IsListed z s.top.slots

-- what it asks of hooks
pub record KeepsEarlywise (h : Hooks) : Type 0 where
  pub last : KeepsLast h
  pub reached : KeepsReached h
  pub place : (s : State) (slot : Slot) → HasSlotMore s (h.place s slot) slot
  -- no call gives a frame
  pub ungiven : (s : State) (block at : ℕ) → h.given_call s (fetch (function_of h.given s) block at) ≡ None

-- ---- of coroutines

-- no access uses the slot before begin
abbrev pub IsUnusedEarly : Framing → ℕ → Type 0
IsUnusedEarly x v = (e : EarlySlot) → Contains (copies x).slots e → e.slot ≢ v

-- before begin a slot in the frame holds nothing, if no access uses it there
abbrev pub IsBlankSlot : Setting → List MemoryBlock → ℕ → Slot → Type 0
IsBlankSlot c memory func slot =
    is_coroutine c.b func ≡ true → lies_in_frame (offsets (c.b.framing func)) slot.alloca ≡ true
    → IsUnusedEarly (c.b.framing func) slot.alloca → IsBlankAt memory slot.block

abbrev pub IsBlankState : Setting → State → Type 0
IsBlankState c s = IsEarlywise (IsBlankSlot c s.world.memory) s

-- K9: an access before begin that uses a slot in the frame makes it one that is used there
abbrev pub AreUsesEarly : Setting → Type 0
AreUsesEarly c =
    (func block at : ℕ) (i : Instr) → is_coroutine c.b func ≡ true
    → fetch (function_at c.g.given.code func) block at ≡ AtInstr i → is_access i ≡ true → (v d : ℕ)
    → IsListed (Operand.Local v) (instr_operands i) → entry (offsets (c.b.framing func)) v ≡ Some d
    → IsUnusedEarly (c.b.framing func) v → IsBefore (function_at c.g.given.code func) block at → ⊥
