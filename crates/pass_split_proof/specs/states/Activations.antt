-- The activations of a framed run and those of the run of its parts, one beside the other.
use Rattle.std.specs.Prelude.{◌≡◌, ℕ, ◌+◌, ◌<◌, ◌⊎◌, Bool, true, false, List, [], ◌∷◌, length, slice_get, Some, None, Option, negsuc}
use Rattle.pass_proofs.specs.ir_model.Names.{function_at, position_of}
use Rattle.pass_proofs.specs.ir_model.declared.instr.Case.{Case}
use Rattle.pass_proofs.specs.ir_model.declared.instr.Instr.{Instr}
use Rattle.pass_proofs.specs.ir_model.declared.instr.Terminator.{Terminator}
use Rattle.pass_proofs.specs.ir_model.declared.module.Function.{Function}
use Rattle.pass_proofs.specs.ir_model.declared.module.Module.{Module}
use Rattle.pass_proofs.specs.ir_model.declared.operand.Arg.{Arg}
use Rattle.pass_proofs.specs.ir_paths.Slots.{allocas_of}
use Rattle.pass_proofs.specs.pass_front.Front.{allocas_of as front_allocas}
use Rattle.pass_proofs.specs.pass_intrinsics.Cuts.{goes_on, token_in}
use Rattle.pass_proofs.specs.pass_intrinsics.Lowered.{number_of_save}
use Rattle.pass_proofs.specs.pass_intrinsics.Shapes.{pass_label}
use Rattle.pass_proofs.specs.pass_intrinsics.declared.shape.Part.{Part}
use Rattle.pass_proofs.specs.pass_intrinsics.declared.shape.Shape.{Shape}
use Rattle.pass_proofs.specs.pass_intrinsics.declared.shape.SuspendPoint.{SuspendPoint}
use Rattle.pass_split_proof.specs.places.Places.{Enters, IsCodeOf, IsPlace, IsStop}
use Rattle.pass_split_proof.specs.states.Instances.{IsIndexed, part_position, shape_at}
use Rattle.pass_proofs.specs.pass_split.Parts.{is_entered, plain_shape}
use Rattle.pass_proofs.specs.pass_split.Pieces.{going_on}
use Rattle.pass_proofs.specs.pass_split.Reached.{reached}
use Rattle.pass_split_proof.specs.states.Values.{AreValuesOf}
use Rattle.pass_proofs.specs.rule_shape.Suspends.{is_suspend}
use Rattle.pass_proofs.specs.rule_shape.Switches.{are_both}
use Rattle.pass_proofs.specs.run_framed.Framed.{FramedGiven}
use Rattle.pass_proofs.specs.run_laws.changed.Changed.{Each}
use Rattle.pass_proofs.specs.run_laws.memory.Pointers.{Home}
use Rattle.pass_proofs.specs.run_memory.declared.block.MemoryBlock.{MemoryBlock}
use Rattle.pass_proofs.specs.run_memory.declared.pointer.Value.{Value}
use Rattle.run_access_worked.specs.run_plain.declared.state.PlainActivation.{PlainActivation}
use Rattle.pass_proofs.specs.run_source.Source.{is_among}
use Rattle.pass_proofs.specs.run_source.State.{frame_address_of}
use Rattle.pass_proofs.specs.run_source.declared.state.Activation.{Activation}
use Rattle.pass_proofs.specs.run_source.declared.state.Instance.{Instance}
use Rattle.pass_proofs.specs.run_source.declared.state.Mode.{Mode}
use Rattle.pass_proofs.specs.run_step.Step.{AtInstr, AtTerm, fetch}
use Rattle.pass_proofs.specs.run_step.Values.{arg_value, integer, value_in}
use Rattle.pass_proofs.specs.run_step.declared.world.Slot.{Slot}

-- ---- the part that an activation runs

-- a ramp runs the first part or that which is given its frame, a resumed activation the part that was called
abbrev pub RunsPart : Mode → Part → Type 0
RunsPart Mode.Plain part = part ≡ Part.Ramp
RunsPart Mode.Ramp part = part ≡ Part.Ramp
RunsPart Mode.Resumed part = goes_on part ≡ true
RunsPart (Mode.GivenRamp frame) part = part ≡ Part.GivenRamp
RunsPart (Mode.Entering from label) part = goes_on part ≡ true

-- by what a function is split: its layout, or nothing where it is no coroutine
abbrev pub IsShapeOf : FramedGiven → ℕ → Function → Shape → Type 0
IsShapeOf g func f s =
    ((f.coroutine ≡ true) × (s ≡ shape_at g func)) ⊎ ((f.coroutine ≡ false) × (s ≡ plain_shape f))

-- ---- places

-- an activation executes its allocas before it goes on behind a suspend
abbrev pub is_entering : Mode → Bool
is_entering (Mode.Entering from label) = true
is_entering mode = false

-- the place is right behind an instruction, which is a suspend or isn't
pub record IsBehind (f : Function) (suspends : Bool) (a : Activation) : Type 0 where
  pub before : ℕ
  pub at : a.at ≡ before + 1
  pub instr : Instr
  pub there : fetch f a.block before ≡ AtInstr instr
  pub is : is_suspend instr ≡ suspends

-- behind a transfer the framed run comes from the suspend over its switch to the end, which returns
pub data IsLeaving (f : Function) (end : ℕ) (a : Activation) : Type 0 where
  AtSuspend : (i : Instr) → fetch f a.block a.at ≡ AtInstr i → is_suspend i ≡ true → IsStop f a.block a.at i end
      → IsLeaving f end a
  AtSwitch : (m : Module) (arg : Arg) (cases : List Case) → IsBehind f true a
      → fetch f a.block a.at ≡ AtTerm (Terminator.Switch arg end cases)
      → are_both cases ≡ true → arg_value m a.values arg ≡ integer 8 (negsuc 0) → IsLeaving f end a
  AtEnd : a.block ≡ position_of f end → a.at ≡ 0 → IsLeaving f end a

-- Behind the call of a transfer the part returns, in the block of the transfer. That has the number of the suspend
-- before which the transfer stands, where the framed run is now.
pub record IsBehindTransfer (s : Shape) (f q : Function) (block at piece offset : ℕ) : Type 0 where
  pub number : ℕ
  pub stands : piece ≡ position_of q (pass_label s number)
  pub returns : fetch q piece offset ≡ AtTerm (Terminator.Ret None)
  pub suspends : (i : Instr) → fetch f block at ≡ AtInstr i → is_suspend i ≡ true
      → number_of_save s (token_in i) ≡ Some number

-- the index of an activation that executes its allocas once more leads to the label that it enters
pub record IsReturning (g : FramedGiven) (s : Shape) (part : Part) (f : Function) (instances : List Instance)
    (n : List MemoryBlock) (instance : Option ℕ) (from label : ℕ) : Type 0 where
  pub own : ℕ
  pub frame : Instance
  pub is_own : instance ≡ Some own
  pub there : slice_get instances own ≡ Some frame
  pub number : ℕ
  pub point : SuspendPoint
  pub is : slice_get s.suspends number ≡ Some point
  pub behind : from ≡ position_of f point.block
  pub entered : is_entered (reached f) part point ≡ true
  pub leads : going_on part (Some point) ≡ Some label
  pub index : IsIndexed g n frame number

-- Where the part is for the place of the framed run: in the piece of that place; at the jump to the end, where the
-- framed run is at the switch of a suspend; among the allocas that a part makes first; or behind the call of a
-- transfer, in the transfer's own block.
pub data IsPlaced (s : Shape) (part : Part) (f q : Function) (a : Activation) (b : PlainActivation) : Mode
    → Type 0 where
  Inside : (mode : Mode) → is_entering mode ≡ false → IsPlace s part f q a.block a.at b.block b.at
      → IsPlaced s part f q a b mode
  Stopping : (mode : Mode) (m : Module) (arg : Arg) (cases : List Case) → is_entering mode ≡ false → IsBehind f true a
      → fetch f a.block a.at ≡ AtTerm (Terminator.Switch arg s.end cases) → are_both cases ≡ true
      → arg_value m a.values arg ≡ integer 8 (negsuc 0) → fetch q b.block b.at ≡ AtTerm (Terminator.Jump s.end)
      → Enters s part f q a.block b.block s.end → IsPlaced s part f q a b mode
  Making : (from label : ℕ) → a.block ≡ 0 → b.block ≡ 0 → b.at ≡ a.at → a.at < length (front_allocas f.blocks)
      → IsPlaced s part f q a b (Mode.Entering from label)
  Passed : IsBehindTransfer s f q a.block a.at b.block b.at → IsLeaving f s.end a
      → IsPlaced s part f q a b Mode.Resumed

-- ---- activations

-- the instance of a number is one of the function, and a value is the address of its frame
pub record HasFrame (instances : List Instance) (func : ℕ) (address : Value) (i : ℕ) : Type 0 where
  pub instance : Instance
  pub there : slice_get instances i ≡ Some instance
  pub coroutine : instance.coroutine ≡ func
  pub is : address ≡ frame_address_of instance

-- The second is the activation of a part for the first, which has a value for each name of its function, or none yet.
-- Each name has what stands for its value, and the name of the frame has the frame's address. Slots are the same
-- blocks; those of a coroutine are of its allocas.
pub record IsBeside (g : FramedGiven) (h : Module) (instances : List Instance) (homes : List Home)
    (a : Activation) (b : PlainActivation) : Type 0 where
  pub shape : Shape
  pub part : Part
  pub coded : IsCodeOf (function_at g.given.code a.func) (function_at h b.func) shape part
  pub shaped : IsShapeOf g a.func (function_at g.given.code a.func) shape
  pub runs : RunsPart a.mode part
  pub func : b.func ≡ part_position g a.func part
  pub place : IsPlaced shape part (function_at g.given.code a.func) (function_at h b.func) a b a.mode
  pub values : AreValuesOf (function_at g.given.code a.func) homes a.values b.values
  pub whole : length a.values ≡ length (function_at g.given.code a.func).names
  pub room : length b.values ≡ length (function_at h b.func).names
  pub frame : (i : ℕ) → a.instance ≡ Some i → HasFrame instances a.func (value_in b.values shape.begin) i
  pub result : b.result ≡ a.result
  pub slots : b.slots ≡ a.slots
  pub own : (function_at g.given.code a.func).coroutine ≡ true
      → Each (λ (slot : Slot). is_among (allocas_of (function_at g.given.code a.func)) slot ≡ true) a.slots

-- an activation waits right behind its call, which gives it a value for a name, or none; that isn't the name of the
-- frame
pub record IsWaiting (g : FramedGiven) (h : Module) (instances : List Instance) (homes : List Home) (result : Option ℕ)
    (a : Activation) (b : PlainActivation) : Type 0 where
  pub beside : IsBeside g h instances homes a b
  pub behind : IsBehind (function_at g.given.code a.func) false a
  pub settled : is_entering a.mode ≡ false
  pub others : result ≡ Some beside.shape.begin → ⊥

-- one by one, the nearest first
abbrev pub AreAllWaiting : FramedGiven → Module → List Instance → List Home → Option ℕ → List Activation
    → List PlainActivation → Type 0
AreAllWaiting g h instances homes result [] [] = Unit {0}
AreAllWaiting g h instances homes result [] (b ∷ bs) = ⊥
AreAllWaiting g h instances homes result (a ∷ rest) [] = ⊥
AreAllWaiting g h instances homes result (a ∷ rest) (b ∷ bs) =
    IsWaiting g h instances homes result a b × AreAllWaiting g h instances homes a.result rest bs
