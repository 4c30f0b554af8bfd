-- Allocations and deallocations: a block of an allocator is made in both runs, or dies in both, and with its frame an
-- instance is let go.
use Rattle.std.specs.List.{Contains}
use Rattle.std.specs.Prelude.{◌≡◌, ◌≢◌, ◌<◌, ◌^◌, ◌∷◌, [], if◌then◌else◌, Bool, List, None, Ok, Option, Some, false, length, slice_get, true, ℕ}
use Rattle.pass_proofs.specs.flow_solver.Paths.{IsListed}
use Rattle.pass_proofs.specs.ir_base.declared.outcome.Outcome.{Outcome}
use Rattle.pass_proofs.specs.ir_base.declared.outcome.Word.{Word}
use Rattle.pass_proofs.specs.ir_model.Ty.{Ty}
use Rattle.pass_proofs.specs.ir_model.declared.instr.Instr.{Instr}
use Rattle.pass_proofs.specs.ir_model.declared.operand.Allocator.{Allocator}
use Rattle.pass_proofs.specs.ir_model.declared.operand.Arg.{Arg}
use Rattle.pass_proofs.specs.ir_model.declared.operand.Callee.{Callee}
use Rattle.pass_proofs.specs.pass_cells.declared.plan.KeptValue.{KeptValue}
use Rattle.pass_frames_code.specs.Here.{IsHere}
use Rattle.pass_frames_code.specs.Lines.{IsStorable}
use Rattle.pass_frames_code.specs.Related.{AreBuiltOf, Building, IsKeptValue, is_coroutine, returned_from}
use Rattle.pass_frames_code.specs.Slotted.{HasSlotsThere}
use Rattle.pass_frames_code.specs.Stepping.{IsNotEntering}
use Rattle.pass_renewed_proof.specs.Renewed.{RenewedGiven}
use Rattle.pass_proofs.specs.run_laws.embedded.Making.{whole_home}
use Rattle.pass_proofs.specs.run_laws.embedded.Marks.{LivesAlone}
use Rattle.pass_proofs.specs.run_laws.memory.Pointers.{home_of}
use Rattle.pass_proofs.specs.run_laws.transfer.Muted.{muted}
use Rattle.pass_proofs.specs.run_memory.declared.pointer.Offset.{Offset}
use Rattle.pass_proofs.specs.run_memory.declared.pointer.Pointer.{Pointer}
use Rattle.pass_proofs.specs.run_memory.declared.pointer.Value.{Value}
use Rattle.pass_proofs.specs.run_source.Source.{deallocate, may_be_freed}
use Rattle.pass_proofs.specs.run_source.State.{function_of, instance_at, is_suspended, next}
use Rattle.pass_proofs.specs.run_source.declared.state.Activation.{Activation}
use Rattle.pass_proofs.specs.run_source.declared.state.Instance.{Instance}
use Rattle.pass_proofs.specs.run_source.declared.state.State.{State}
use Rattle.pass_proofs.specs.run_step.Step.{AtInstr, fetch, without_slots}
use Rattle.pass_proofs.specs.run_step.Values.{address, arg_values, nth, pointer_to, value_in, with_result}
use Rattle.pass_proofs.specs.run_step.declared.world.Slot.{Slot}
use Rattle.pass_proofs.specs.run_step.declared.world.World.{World}

-- What is known where a block is given back that stands in a block of the framed run, and some slots die with it.
pub record MayGiveBack (b : Building) (s t : State) (r : AreBuiltOf b s t) (n k : ℕ) (slots : List Slot) : Type 0 where
  -- No other block lives there: frames of instances whose blocks are given back have no live slots any more.
  pub alone : LivesAlone r.homes (muted r.hides (without_slots s.world.memory slots)) n
  -- allocas make no blocks of allocators
  pub no_alloca : (c : Activation) → IsListed c (t.top ∷ t.below) → (slot : Slot) → Contains c.slots slot
      → slot.block ≢ k
  -- nothing is called or given back in a block on a resume or destroy edge
  pub inside : (a : Activation) → IsListed a (s.top ∷ s.below) → is_coroutine b a.func ≡ true
      → returned_from (b.framing a.func) a a.mode ≡ None
  -- an instance that is suspended owns its block
  pub owners : (i : ℕ) (x : Instance) → slice_get s.instances i ≡ Some x → is_suspended x.status ≡ true
      → x.freed ≡ false → x.block ≢ n

-- the slots that die with the instance whose frame is given back
abbrev pub slots_let_go : Option (ℕ × Instance) → List Slot
slots_let_go None = []
slots_let_go (Some (i, x)) = if may_be_freed x then x.slots else []

-- A value is given back. Where it is a pointer, this is known of its block.
pub record IsGivingBack (b : Building) (s t : State) (r : AreBuiltOf b s t) (p : Value) : Type 0 where
  pub may : (n k : ℕ) (o : Offset) → p ≡ Value.Ptr (Pointer.At n o) → home_of r.homes n ≡ whole_home k
      → MayGiveBack b s t r n k (slots_let_go (instance_at s.instances p))

-- What both runs are once they have given values back. In the framed run this may be anywhere on a line.
pub record IsGivenBack (b : Building) (s t after : State) (q : Value) : Type 0 where
  pub source : World
  pub instances : List Instance
  pub target : World
  pub others : List Instance
  pub related : AreBuiltOf b (record s { world = source; instances = instances })
      (record t { world = target; instances = others })
  pub gives : after ≡ next (record s { world = source; instances = instances })
  pub leads : (top : Activation) → deallocate (record t { top = top }) q
      ≡ Ok (next (record t { world = target; instances = others; top = top }))

-- functions that give a block back
abbrev pub IsDeallocator : Allocator → Type 0
IsDeallocator Allocator.Malloc = ⊥
IsDeallocator Allocator.Znwm = ⊥
IsDeallocator _ = Unit {0}

-- The next step gives a block back, in a function that is no coroutine.
pub record IsAtOtherFree (b : Building) (g : RenewedGiven) (s t : State) (r : AreBuiltOf b s t) (a : Allocator)
    (must_tail : Bool) (ty : Option Ty) (args : List Arg) (after : State) : Type 0 where
  pub runs : s.outcome ≡ Outcome.Running
  pub plain : is_coroutine b s.top.func ≡ false
  pub mode : IsNotEntering s.top.mode
  pub there : fetch (function_of g.given s) s.top.block s.top.at
      ≡ AtInstr (Instr.Call None must_tail ty (Callee.Allocator a) args)
  pub frees : IsDeallocator a
  pub does : deallocate s (address (nth (arg_values g.given.code s.top.values args) 0)) ≡ Ok after
  pub giving : IsGivingBack b s t r (address (nth (arg_values g.given.code s.top.values args) 0))

-- The next step gives a block back, in a coroutine.
pub record IsAtFree (b : Building) (g : RenewedGiven) (s t : State) (r : AreBuiltOf b s t) (a : Allocator)
    (must_tail : Bool) (ty : Option Ty) (args : List Arg) (after : State) : Type 0 where
  pub here : IsHere b s (Instr.Call None must_tail ty (Callee.Allocator a) args)
  pub frees : IsDeallocator a
  pub does : deallocate s (address (nth (arg_values g.given.code s.top.values args) 0)) ≡ Ok after
  pub giving : IsGivingBack b s t r (address (nth (arg_values g.given.code s.top.values args) 0))

-- ---- allocators

abbrev pub IsAllocator : Allocator → Type 0
IsAllocator Allocator.Malloc = Unit {0}
IsAllocator Allocator.Znwm = Unit {0}
IsAllocator _ = ⊥

-- What is known of both runs where a block is made: their slots have blocks that are there. Nothing is called in a block
-- on a resume or destroy edge.
pub record MayMake (b : Building) (s t : State) : Type 0 where
  pub mine : HasSlotsThere s
  pub theirs : HasSlotsThere t
  pub inside : (a : Activation) → IsListed a (s.top ∷ s.below) → is_coroutine b a.func ≡ true
      → returned_from (b.framing a.func) a a.mode ≡ None

-- The next step makes a block of an allocator, in a function that is no coroutine. Its size is one of 64 bits.
pub record IsAtOtherMaking (b : Building) (g : RenewedGiven) (s : State) (a : Allocator) (result : Option ℕ)
    (must_tail : Bool) (ty : Option Ty) (args : List Arg) (n : Word) : Type 0 where
  pub runs : s.outcome ≡ Outcome.Running
  pub plain : is_coroutine b s.top.func ≡ false
  pub mode : IsNotEntering s.top.mode
  pub there : fetch (function_of g.given s) s.top.block s.top.at
      ≡ AtInstr (Instr.Call result must_tail ty (Callee.Allocator a) args)
  pub makes : IsAllocator a
  pub size : nth (arg_values g.given.code s.top.values args) 0 ≡ Value.Int n
  pub small : n.bits < 2 ^ 64

-- The next step makes a block of an allocator, in a coroutine. A pointer fits where its result is kept.
pub record IsAtMaking (b : Building) (g : RenewedGiven) (s : State) (a : Allocator) (result : Option ℕ)
    (must_tail : Bool) (ty : Option Ty) (args : List Arg) (n : Word) : Type 0 where
  pub here : IsHere b s (Instr.Call result must_tail ty (Callee.Allocator a) args)
  pub makes : IsAllocator a
  pub size : nth (arg_values g.given.code s.top.values args) 0 ≡ Value.Int n
  pub small : n.bits < 2 ^ 64
  pub storable : (q : ℕ) (k : KeptValue) → result ≡ Some q → IsKeptValue (b.framing s.top.func) q k
      → IsStorable k.ty (value_in (with_result s.top.values result (pointer_to (length s.world.memory))) q)
