-- An instruction behind a line that fetches its operands: the line sets new names alone, and then the instruction
-- is the
-- same but for operands that stand for the source's. Operands may be fetched twice: kept values are loaded, and then
-- addresses of slots in the frame are made.
use Rattle.std.specs.Prelude.{◌≡◌, ◌≤◌, ◌⊎◌, ℕ, Bool, List, [], ◌∷◌, ◌++◌, length, slice_get, Some, None, Option}
use Rattle.std.specs.List.{Contains}
use Rattle.pass_proofs.specs.ir_model.Ty.{Ty}
use Rattle.pass_proofs.specs.ir_model.declared.instr.Instr.{Instr}
use Rattle.pass_proofs.specs.ir_model.declared.operand.Operand.{Operand}
use Rattle.pass_proofs.specs.ir_parts.Contents.{instr_operands, result_of}
use Rattle.pass_proofs.specs.pass_cells.Written.{stored_result}
use Rattle.pass_proofs.specs.pass_cells.declared.plan.KeptValue.{KeptValue}
use Rattle.pass_proofs.specs.pass_fetch.Fetching.{fetch_of, fetched_operand, fetches_of_all, next_after, next_after_all}
use Rattle.pass_proofs.specs.pass_fetch.Instrs.{with_fetched}
use Rattle.pass_proofs.specs.pass_fetch.declared.fetch.Fetch.{Fetch}
use Rattle.pass_frames_code.specs.Distances.{IsBelow, SetsFrom}
use Rattle.pass_frames_code.specs.Fetched.{CanFetch, given_of, seen_of}
use Rattle.pass_frames_code.specs.Lines.{HasOwnBlocks, IsCellOf, IsStorable, at_work}
use Rattle.pass_frames_code.specs.Ordinary.{IsPlainName, IsQuiet}
use Rattle.pass_frames_code.specs.Places.{Framing, named, plan}
use Rattle.pass_frames_code.specs.Related.{AreCellsRight, IsFreeOf, IsKeptValue}
use Rattle.pass_proofs.specs.run_laws.access.Changed.{KeepsFree}
use Rattle.pass_proofs.specs.run_laws.access.Lines.{Runs}
use Rattle.pass_proofs.specs.run_laws.changed.Changed.{Each, callee_at}
use Rattle.pass_proofs.specs.run_laws.embedded.Refilled.{AreRefilled}
use Rattle.pass_proofs.specs.run_laws.embedded.Related.{HasBytes}
use Rattle.pass_proofs.specs.run_laws.memory.Pointers.{Home, IsValue}
use Rattle.pass_proofs.specs.run_laws.transfer.Muted.{muted}
use Rattle.pass_proofs.specs.run_laws.transfer.Shapes.{InstrStays}
use Rattle.pass_proofs.specs.run_laws.transfer.Transfer.{AreJoined, AreOver, AreSameDistances, IsNamedAlike, IsPointedAlike, StandsFor, looks_at, same_maps}
use Rattle.pass_proofs.specs.run_memory.declared.block.MemoryBlock.{MemoryBlock}
use Rattle.pass_proofs.specs.run_memory.declared.pointer.Value.{Value}
use Rattle.pass_proofs.specs.run_source.declared.state.Activation.{Activation}
use Rattle.pass_proofs.specs.run_step.Step.{AtInstr, Context, Done, Work, instr_action}
use Rattle.pass_proofs.specs.run_step.Values.{operand_value, value_in}
use Rattle.pass_proofs.specs.run_step.declared.world.Slot.{Slot}

-- ---- a line in front of an instruction

-- loads and addresses leave the world as it is
abbrev pub IsStill : Instr → Type 0
IsStill (Instr.Load r ty p align) = Unit {0}
IsStill (Instr.Gep r inbounds ty p indices) = Unit {0}
IsStill _ = ⊥

pub record IsLed (homes : List Home) (c d : Context) (w y : Work) (n : ℕ) (i j : Instr) (front : List Instr) : Type 0
  where
    pub work : Work
    pub runs : Runs d front y work
    pub still : Each IsStill front
    pub sets : SetsFrom n y work
    pub shape : InstrStays (StandsFor (looks_at (AtInstr i)) (IsValue homes) c d w.values work.values) i j

-- ---- operands that are fetched by one table, and those that aren't by another

-- the operands of an instruction that is fetched
abbrev pub fetched_all : List (Option Fetch) → ℕ → List Operand → List Operand
fetched_all t n [] = []
fetched_all t n (a ∷ xs) = fetched_operand t n a ∷ fetched_all t (next_after t n a) xs

abbrev pub twice_by : List (Option Fetch) → (given more : ℕ → Value) → Context → Work → Ty → Operand → Option Fetch
    → Value
twice_by u given more d y ty a None = seen_of u more d y ty a
twice_by u given more d y ty a (Some f) = given_of given a

-- what is seen of an operand
abbrev pub seen_twice : (t u : List (Option Fetch)) → (given more : ℕ → Value) → Context → Work → Ty → Operand → Value
seen_twice t u given more d y ty a = twice_by u given more d y ty a (fetch_of t a)

-- it stands for what the operand is in the source
abbrev pub IsTwiceFor : List Home → (t u : List (Option Fetch)) → (given more : ℕ → Value) → (c d : Context)
    → (w y : Work) → Operand → Type 0
IsTwiceFor homes t u given more c d w y a =
    (ty : Ty) → IsValue homes (operand_value c.code w.values ty a) (seen_twice t u given more d y ty a)

-- the first table has new names from n on, the second from m on, and fetches none of the first's
pub record MayBeLed (homes : List Home) (t u : List (Option Fetch)) (given more : ℕ → Value) (c d : Context)
    (w y : Work) (n m : ℕ) (i : Instr) : Type 0 where
  pub can : Each (CanFetch t given n d y) (instr_operands i)
  pub can_more : Each (CanFetch u more n d y) (instr_operands i)
  pub below : Each (IsBelow n) (instr_operands i)
  pub over : next_after_all t n (instr_operands i) ≤ m
  pub room : next_after_all u m (instr_operands (with_fetched t n i)) ≤ length y.values
  pub apart : (v : ℕ) → n ≤ v → fetch_of u (Operand.Local v) ≡ None
  pub seen : Each (IsTwiceFor homes t u given more c d w y) (instr_operands i)

-- what stands in front of it
abbrev pub twice_front : (t u : List (Option Fetch)) → (n m : ℕ) → Instr → List Instr
twice_front t u n m i =
    fetches_of_all t n (instr_operands i) ++ fetches_of_all u m (instr_operands (with_fetched t n i))

-- ---- lines of which something holds at each instruction

abbrev pub RunsThrough : Context → (Work → Type 0) → List Instr → Work → Work → Type 0
RunsThrough c P [] w x = x ≡ w
RunsThrough c P (i ∷ is) w x = P w × ((v : Work) × ((instr_action c w i ≡ Done v) × RunsThrough c P is v x))

-- no cell of the activation lies in the block
abbrev pub IsNoCell : Framing → Activation → ℕ → Type 0
IsNoCell x a e = (slot : Slot) → Contains a.slots slot → IsCellOf x slot.alloca → (slot.block ≡ e → ⊥)

-- blocks in which no cell lies are as they were
pub record SparesBlocks (x : Framing) (a : Activation) (m k : List MemoryBlock) : Type 0 where
  pub same : (e : ℕ) → IsNoCell x a e → slice_get k e ≡ slice_get m e

-- on the way the world is as it was, or the events are those behind the instruction
abbrev pub IsOnWay : Framing → Activation → (y z : Work) → Work → Type 0
IsOnWay x a y z u =
    (u.world ≡ y.world) ⊎ ((u.world.events ≡ z.world.events) × SparesBlocks x a y.world.memory u.world.memory)

-- ---- the step

-- what is asked of the works, of the instruction in its place, and of its result
pub record MayStepLed (x : Framing) (homes : List Home) (hides : ℕ
    → Bool) (c d : Context) (w y : Work) (a : Activation)
    (n : ℕ) (i j : Instr) (front : List Instr) : Type 0 where
  pub led : IsLed homes c d w y n i j front
  pub joined : AreJoined homes hides same_maps c d w y
  pub cells : AreCellsRight x homes d.rights y.world.memory w.values (at_work a y)
  pub free : (slot : Slot) → Contains a.slots slot → IsCellOf x slot.alloca
      → IsFreeOf homes hides w.world.memory slot.block
  pub own : HasOwnBlocks a
  pub low : length (named x).names ≤ n
  pub callee : IsNamedAlike same_maps c d (callee_at (AtInstr i))
  pub bytes : HasBytes (AtInstr i)
  pub pointed : IsPointedAlike same_maps c d w.values (AtInstr i)
  pub distance : AreSameDistances c d w.values led.work.values (AtInstr i) (AtInstr j)
  pub storable : (v : Work) → instr_action c w i ≡ Done v → (r : ℕ) (k : KeptValue) → result_of i ≡ Some r
      → IsKeptValue x r k → IsStorable k.ty (value_in v.values r)
  pub result : (r : ℕ) → result_of i ≡ Some r → IsPlainName x r

-- the instruction gives no value to the name
abbrev pub IsNotSet : ℕ → Instr → Type 0
IsNotSet u i = result_of i ≡ Some u → ⊥

-- the line is executed, and the relation holds behind it
pub record IsDoneLed (x : Framing) (homes : List Home) (hides : ℕ → Bool) (c d : Context) (w y v : Work)
    (a : Activation) (i : Instr) (front : List Instr) : Type 0 where
  pub work : Work
  pub over : AreOver c.rights d.rights homes hides (λ k. k) v.world work.world
  pub cells : AreCellsRight x homes d.rights work.world.memory v.values (at_work a work)
  pub set : (r : ℕ) → result_of i ≡ Some r → IsValue homes (value_in v.values r) (value_in work.values r)
  pub others : (u : ℕ) → Each (IsNotSet u) front → (result_of i ≡ Some u → ⊥)
      → value_in work.values u ≡ value_in y.values u
  pub room : length work.values ≡ length y.values
  pub source : (u : ℕ) → (result_of i ≡ Some u → ⊥) → value_in v.values u ≡ value_in w.values u
  pub source_room : length v.values ≡ length w.values

-- of an instruction that changes no memory: cells alone are filled
pub record StepsLed (x : Framing) (homes : List Home) (hides : ℕ → Bool) (c d : Context) (w y v : Work)
    (a : Activation) (i : Instr) (front line : List Instr) : Type 0 where
  pub led : IsDoneLed x homes hides c d w y v a i front
  pub runs : RunsThrough d (IsOnWay x a y led.work) line y led.work
  pub source_memory : v.world.memory ≡ w.world.memory
  pub spares : SparesBlocks x a y.world.memory led.work.world.memory

-- of a store: the source's blocks differ in bytes alone, and what is free in the target stays
pub record StoresLed (x : Framing) (homes : List Home) (hides : ℕ → Bool) (c d : Context) (w y v : Work)
    (a : Activation) (i : Instr) (front line : List Instr) : Type 0 where
  pub led : IsDoneLed x homes hides c d w y v a i front
  pub runs : RunsThrough d (λ u. u.world ≡ y.world) line y led.work
  pub refilled : AreRefilled w.world.memory v.world.memory
  pub keeps : KeepsFree c.rights homes (muted hides w.world.memory) y.world.memory led.work.world.memory

-- an address or what is quiet changes no memory
abbrev pub LeavesMemory : Context → Instr → Type 0
LeavesMemory c (Instr.Gep r inbounds ty p indices) = Unit {0}
LeavesMemory c i = IsQuiet c i

-- behind the instruction its result is stored
abbrev pub led_line : Framing → List Instr → (i j : Instr) → List Instr
led_line x front i j = front ++ (j ∷ stored_result (plan x) (result_of i))
