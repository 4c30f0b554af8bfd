-- In each state of a run by hooks a live slot may be alive where its instance is.
use Rattle.std.specs.Prelude.{◌≡◌, ◌⊎◌, ℕ, Bool, true, false, List, [], ◌∷◌, length, slice_get, Some, None, Option}
use Rattle.std.specs.Prelude.{IsTrue, Result, Ok, Err}
use Rattle.std.specs.List.{AllByRecursion}
use Rattle.pass_renewed_proof.specs.ir_base.declared.cause.Cause.{Cause}
use Rattle.pass_renewed_proof.specs.ir_model.Names.{function_at, position_of}
use Rattle.pass_renewed_proof.specs.ir_model.Ty.{Ty}
use Rattle.pass_renewed_proof.specs.ir_model.declared.instr.Instr.{Instr}
use Rattle.pass_renewed_proof.specs.ir_model.declared.instr.Terminator.{Terminator}
use Rattle.pass_renewed_proof.specs.ir_model.declared.module.Function.{Function}
use Rattle.pass_renewed_proof.specs.ir_model.declared.module.Module.{Module}
use Rattle.pass_renewed_proof.specs.ir_model.declared.operand.Arg.{Arg}
use Rattle.pass_renewed_proof.specs.ir_model.declared.operand.Intrinsic.{Intrinsic}
use Rattle.pass_renewed_proof.specs.ir_model.declared.operand.Operand.{Operand}
use Rattle.pass_renewed_proof.specs.ir_paths.Slots.{IsRampSlot, has_name}
use Rattle.pass_renewed_proof.specs.ir_paths.Windows.{call_operand, end_block, is_call_of}
use Rattle.pass_renewed_proof.specs.ir_paths.declared.point.Point.{Point}
use Rattle.pass_renewed_proof.specs.pass_kept_proof.Needed.{BranchesTo}
use Rattle.pass_renewed_proof.specs.pass_kept_proof.SuspendRules.{IsCallAt}
use Rattle.pass_renewed_proof.specs.SlotRules.{IsMadeOnce, IsMarkerAt}
use Rattle.pass_renewed_proof.specs.rule_slots.Closed.{IsClosed}
use Rattle.pass_renewed_proof.specs.rule_windows.Sets.{IsAfterEnd, RunsOut}
use Rattle.run_hooks.specs.Away.{point_in, spot_of}
use Rattle.run_hooks.specs.Hooks.{Hooks}
use Rattle.run_hooks.specs.Meanings.{hooks_by}
use Rattle.run_hooks.specs.alive.Slots.{AreAliveSlots, AreMet, AreTagged, ArePast, IsSlotOf, Own, Ramp, Tags, home_of}
use Rattle.run_hooks.specs.alive.Slots.{is_gone}
use Rattle.pass_renewed_proof.specs.run_memory.declared.block.MemoryBlock.{MemoryBlock}
use Rattle.pass_renewed_proof.specs.run_source.Source.{continue, is_over}
use Rattle.pass_renewed_proof.specs.run_source.State.{is_finished, is_suspended}
use Rattle.pass_renewed_proof.specs.run_source.declared.state.Activation.{Activation}
use Rattle.pass_renewed_proof.specs.run_source.declared.state.Instance.{Instance}
use Rattle.pass_renewed_proof.specs.run_source.declared.state.Saved.{Saved}
use Rattle.pass_renewed_proof.specs.run_source.declared.state.State.{State}
use Rattle.pass_renewed_proof.specs.run_source.declared.state.Status.{Status}
use Rattle.pass_renewed_proof.specs.run_source_tables.Given.{Given, facts_at}
use Rattle.pass_renewed_proof.specs.run_step.Step.{AtInstr, AtTerm, block_of, fetch}
use Rattle.pass_renewed_proof.specs.run_step.Values.{Env, value_in}

-- ---- activations

-- whose slots blocks are, the memory, and the instances
pub record Account : Type 0 where
  pub tags : Tags
  pub memory : List MemoryBlock
  pub instances : List Instance

-- an activation of an instance goes on: it hasn't left, or may take a leaving edge still, since the instance is
-- Suspended by a save of its depth, and it isn't behind the end
pub data GoesOn (f : Function) (depth : ℕ) (a : Activation) (x : Instance) : Type 0 where
  Stays : a.has_left ≡ false → GoesOn f depth a x
  MayLeave : (saved : Saved) → is_suspended x.status ≡ true → x.last_save ≡ Some saved → saved.depth ≡ depth
      → (IsAfterEnd f (point_in a) → ⊥) → GoesOn f depth a x

-- the end stands at the point, or a path leads from it to the point
abbrev pub IsEnded : Function → Point → Type 0
IsEnded f p = IsCallAt Intrinsic.CoroEnd f p ⊎ IsAfterEnd f p

-- slots that may be alive at a point behind begin
pub record AreAliveAt (counts : ℕ → Bool) (memory : List MemoryBlock) (f : Function) (values : Env) (p : Point)
    (x : Instance) : Type 0 where
  pub runs : RunsOut f p
  pub slots : AreAliveSlots counts memory f values p x.slots

-- an activation with so many below it, of whose function some slots count
pub record IsAliveIn (m : Module) (counts : ℕ → ℕ → Bool) (k : Account) (depth : ℕ) (a : Activation)
    : Type 0 where
  pub tagged : AreTagged k.tags (length k.memory) (home_of a.instance depth) (function_at m a.func) a.values
  pub past : ArePast (function_at m a.func) a.values (spot_of (function_at m a.func) a)
  -- before begin all slots are its own
  pub owned : a.instance ≡ None → AllByRecursion
      (IsSlotOf k.tags (length k.memory) (Ramp depth) (function_at m a.func)) a.slots
  pub early : a.instance ≡ None → AreAliveSlots (counts a.func) k.memory (function_at m a.func) a.values
      (spot_of (function_at m a.func) a) a.slots
  -- those that are live now were so at one point outside the end's block and what that reaches
  pub met : a.instance ≡ None → AreMet (counts a.func) k.memory (function_at m a.func) a.slots
  -- nor has it left there
  pub stays : a.instance ≡ None → a.has_left ≡ false
  -- behind it the live slots of its instance may be alive where it goes on
  pub goes : (i : ℕ) (x : Instance) → a.instance ≡ Some i → slice_get k.instances i ≡ Some x
      → GoesOn (function_at m a.func) depth a x → is_over x ≡ false
      → AreAliveAt (counts a.func) k.memory (function_at m a.func) a.values (spot_of (function_at m a.func) a) x
  -- one that hasn't left is at the end or behind it, if its instance is Finished
  pub ended : (i : ℕ) (x : Instance) → a.instance ≡ Some i → slice_get k.instances i ≡ Some x
      → a.has_left ≡ false → is_finished x.status ≡ true
      → IsEnded (function_at m a.func) (spot_of (function_at m a.func) a)

-- what an activation gives back is named by no alloca of the one below it
abbrev pub IsApart : Module → Option ℕ → List Activation → Type 0
IsApart m result [] = Unit {0}
IsApart m result (a ∷ below) = (v : ℕ) → result ≡ Some v → IsMadeOnce (function_at m a.func) v → ⊥

abbrev pub AreAliveIn : Module → (ℕ → ℕ → Bool) → Account → List Activation → Type 0
AreAliveIn m counts k [] = Unit {0}
AreAliveIn m counts k (a ∷ below) =
    IsAliveIn m counts k (length below) a × IsApart m a.result below × AreAliveIn m counts k below

-- ---- instances

-- one of these is of the instance and hasn't left
abbrev pub IsThere : ℕ → List Activation → Type 0
IsThere i [] = ⊥
IsThere i (a ∷ below) = ((a.instance ≡ Some i) × (a.has_left ≡ false)) ⊎ IsThere i below

-- where an instance is Suspended
pub record IsAliveAsleep (m : Module) (counts : ℕ → ℕ → Bool) (k : Account) (i : ℕ) (x : Instance) (u : Point)
    (values : Env) : Type 0 where
  pub tagged : AreTagged k.tags (length k.memory) (Own i) (function_at m x.coroutine) values
  pub alive : AreAliveAt (counts x.coroutine) k.memory (function_at m x.coroutine) values u x

-- an instance of a number, with all activations
pub record IsAliveInstance (m : Module) (counts : ℕ → ℕ → Bool) (k : Account) (stack : List Activation) (i : ℕ)
    (x : Instance) : Type 0 where
  pub owned : AllByRecursion (IsSlotOf k.tags (length k.memory) (Own i) (function_at m x.coroutine)) x.slots
  -- none of its slots is the ramp's alone
  pub shared : AllByRecursion (λ slot. IsRampSlot (function_at m x.coroutine) slot.alloca → ⊥) x.slots
  pub over : is_over x ≡ true → AllByRecursion (λ slot. is_gone k.memory slot.block ≡ true) x.slots
  -- those that are live now were so at one point outside the end's block and what that reaches
  pub met : AreMet (counts x.coroutine) k.memory (function_at m x.coroutine) x.slots
  pub asleep : (u : Point) (values : Env) → x.status ≡ Status.Suspended u values
      → IsAliveAsleep m counts k i x u values
  pub running : x.status ≡ Status.Running → x.freed ≡ false → IsThere i stack

-- ---- states

abbrev pub account_of : Tags → State → Account
account_of tags s = record { tags = tags; memory = s.world.memory; instances = s.instances }

pub record IsAliveState (m : Module) (counts : ℕ → ℕ → Bool) (s : State) : Type 0 where
  pub tags : Tags
  pub stack : AreAliveIn m counts (account_of tags s) (s.top ∷ s.below)
  pub instances : (i : ℕ) (x : Instance) → slice_get s.instances i ≡ Some x
      → IsAliveInstance m counts (account_of tags s) (s.top ∷ s.below) i x

-- the activation that goes on in an instance, and the instance's slots where it stands
pub record IsAliveSomewhere (m : Module) (counts : ℕ → ℕ → Bool) (s : State) (i : ℕ) (x : Instance) : Type 0 where
  pub activation : Activation
  pub own : activation.instance ≡ Some i
  pub stays : activation.has_left ≡ false
  pub alive : AreAliveAt (counts activation.func) s.world.memory (function_at m activation.func) activation.values
      (spot_of (function_at m activation.func) activation) x

-- what a part of a step gives, if it gives a state
abbrev pub StaysAlive : Module → (ℕ → ℕ → Bool) → Result State Cause → Type 0
StaysAlive m counts (Err cause) = Unit {0}
StaysAlive m counts (Ok s) = IsAliveState m counts s

-- ---- what it asks of functions

pub data IsMarker : Intrinsic → Type 0 where
  IsStart : IsMarker Intrinsic.LifetimeStart
  IsEnd : IsMarker Intrinsic.LifetimeEnd

-- a marker takes an alloca
pub record MarksAlloca (f : Function) (i : Instr) : Type 0 where
  pub alloca : ℕ
  pub takes : call_operand i 1 ≡ Operand.Local alloca
  pub made : IsMadeOnce f alloca

-- of a function and its ramp slots, by the tables of a run
pub record KeepsAliveRules (f : Function) (ramp_slots : List ℕ) : Type 0 where
  -- N1 and F3: an alloca stands in the entry block, and gives its name alone
  pub made : (a : ℕ) (ty : Ty) (align block at : ℕ) → fetch f block at ≡ AtInstr (Instr.Alloca a ty align)
      → IsMadeOnce f a
  -- K13: a marker takes an alloca
  pub marked : (marker : Intrinsic) → IsMarker marker → (p : Point) (i : Instr) → fetch f p.block p.at ≡ AtInstr i
      → is_call_of marker i ≡ true → MarksAlloca f i
  -- K8: none of a coroutine slot stands in a window or after the end
  pub closed : (marker : Intrinsic) → IsMarker marker → (a : ℕ) (p : Point) → IsMarkerAt f marker a p → IsClosed f p
      → IsMadeOnce f a → (IsRampSlot f a → ⊥) → ⊥
  -- K2: the end is the first of its block
  pub first : (p : Point) (i : Instr) → fetch f p.block p.at ≡ AtInstr i → p.block ≡ end_block f → IsEnded f p
  -- F1: no edge leads to the entry block
  pub entry : (block at label : ℕ) → BranchesTo label (fetch f block at) → position_of f label ≡ 0 → ⊥
  -- K5: behind begin a return comes behind the end, where no save stands
  pub returns : (p : Point) (arg : Option Arg) → fetch f p.block p.at ≡ AtTerm (Terminator.Ret arg) → RunsOut f p → ⊥
  pub no_save : (p : Point) → IsAfterEnd f p → IsCallAt Intrinsic.CoroSave f p → ⊥
  -- the table has the ramp slots
  pub ramp : (a : ℕ) → IsMadeOnce f a → IsRampSlot f a → IsTrue (has_name ramp_slots a)

abbrev pub KeepsAllAliveRules : Given → Type 0
KeepsAllAliveRules g =
    (func : ℕ) → KeepsAliveRules (function_at g.code func) (facts_at g.facts func).ramp_slots

-- ---- what it asks of a way to go on

-- of the values that were kept a resume behind a suspend hands on no others, and the addresses of the slots that count
pub record HandsOver (m : Module) (counts : ℕ → ℕ → Bool) (hand : ℕ → Point → Env → Env) : Type 0 where
  pub kept : (func : ℕ) (u : Point) (values : Env) (v b : ℕ)
      → block_of (value_in (hand func u values) v) ≡ Some b → block_of (value_in values v) ≡ Some b
  pub handed : (func : ℕ) (u : Point) (values : Env) (v : ℕ)
      → IsCallAt Intrinsic.CoroSuspend (function_at m func) u → IsMadeOnce (function_at m func) v
      → counts func v ≡ true → value_in (hand func u values) v ≡ value_in values v

-- a source's hooks, but that a resume hands on what is told
abbrev pub handing : Given → (ℕ → Point → Env → Env) → Hooks
handing g hand =
    hooks_by g (λ s i x suspend values label. continue g s i x suspend (hand x.coroutine suspend values) label)
