-- Coro intrinsics that give a value: which instances both runs find, and what is asked of the runs.
use Rattle.std.specs.List.{Contains}
use Rattle.std.specs.Prelude.{◌≡◌, Bool, List, None, Ok, Option, Result, Some, false, find, option_map, slice_get, slice_set, true, ℕ}
use Rattle.pass_proofs.specs.frame_contents.Held.{position_of}
use Rattle.pass_proofs.specs.frame_layout.declared.layout.PlacedField.{PlacedField}
use Rattle.pass_proofs.specs.ir_base.declared.cause.Cause.{Cause}
use Rattle.pass_proofs.specs.ir_base.declared.outcome.Outcome.{Outcome}
use Rattle.pass_proofs.specs.ir_model.Ty.{Ty}
use Rattle.pass_proofs.specs.ir_model.declared.instr.Instr.{Instr}
use Rattle.pass_proofs.specs.ir_model.declared.operand.Arg.{Arg}
use Rattle.pass_proofs.specs.ir_model.declared.operand.Callee.{Callee}
use Rattle.pass_proofs.specs.ir_model.declared.operand.Intrinsic.{Intrinsic}
use Rattle.pass_proofs.specs.ir_parts.Contents.{instr_operands}
use Rattle.pass_proofs.specs.ir_paths.Slots.{promise_of}
use Rattle.pass_proofs.specs.pass_addresses.Placing.{without_promise_of}
use Rattle.pass_proofs.specs.pass_cells.Cells.{fetches_of}
use Rattle.pass_proofs.specs.pass_cells.Kept.{entry}
use Rattle.pass_proofs.specs.pass_cells.declared.plan.KeptValue.{KeptValue}
use Rattle.pass_proofs.specs.pass_frames.Tables.{offset_at}
use Rattle.pass_frames_code.specs.Code.{slot_table}
use Rattle.pass_frames_code.specs.Here.{IsHere, IsOnLine}
use Rattle.pass_frames_code.specs.Lines.{IsStorable}
use Rattle.pass_frames_code.specs.Places.{Framing, edged, offsets, plan}
use Rattle.pass_frames_code.specs.Related.{AreInstances, Building, IsKeptValue, IsSuspendNumber, is_coroutine, own_place_of}
use Rattle.pass_frames_code.specs.Stepping.{IsNotEntering}
use Rattle.pass_proofs.specs.addresses.rules.Addresses.{lies_in_frame}
use Rattle.pass_proofs.specs.fetch.rules.Fetches.{AreUnfetched}
use Rattle.pass_renewed_proof.specs.Renewed.{RenewedGiven, continue_renewed}
use Rattle.pass_proofs.specs.run_framed.Framed.{allocates, is_promise_kind}
use Rattle.pass_proofs.specs.run_laws.memory.Pointers.{Home, IsValue}
use Rattle.pass_proofs.specs.run_memory.declared.block.Kind.{Kind}
use Rattle.pass_proofs.specs.run_memory.declared.block.MemoryBlock.{MemoryBlock}
use Rattle.pass_proofs.specs.run_memory.declared.pointer.Value.{Value}
use Rattle.pass_proofs.specs.run_source.Source.{Sleeper, coro, frame_address, is_live_at, is_over}
use Rattle.pass_proofs.specs.run_source.State.{function_of, gives, own_instance}
use Rattle.pass_proofs.specs.run_source.declared.state.Instance.{Instance}
use Rattle.pass_proofs.specs.run_source.declared.state.State.{State}
use Rattle.pass_proofs.specs.run_source.declared.state.Status.{Status}
use Rattle.pass_proofs.specs.run_source_tables.Given.{frame_of}
use Rattle.pass_proofs.specs.run_step.Step.{AtInstr, fetch}
use Rattle.pass_proofs.specs.run_step.Values.{Env, arg_values, value_in, with_result}
use Rattle.pass_proofs.specs.run_step.declared.world.Slot.{Slot}
use Rattle.pass_proofs.specs.run_step.declared.world.World.{World}

-- ---- instances

-- Each begin is at the start of a block of an allocator, which nobody owned. So instances have blocks of their own.
-- The slots of an instance that is over are dead. Each state of the first run has this.
pub record AreInstancesPlaced (s : State) : Type 0 where
  pub starts : (i : ℕ) (x : Instance) → slice_get s.instances i ≡ Some x → x.start ≡ 0
  pub heaps : (i : ℕ) (x : Instance) (z : MemoryBlock) → slice_get s.instances i ≡ Some x
      → slice_get s.world.memory x.block ≡ Some z → z.kind ≡ Kind.Allocator
  pub apart : (i j : ℕ) (x y : Instance) → slice_get s.instances i ≡ Some x → slice_get s.instances j ≡ Some y
      → x.block ≡ y.block → i ≡ j
  pub dead : (i : ℕ) (x : Instance) (slot : Slot) → slice_get s.instances i ≡ Some x → is_over x ≡ true
      → Contains x.slots slot → is_live_at s.world.memory slot.block ≡ false

-- an instance of the first run and the one beside it
pub record IsFoundBeside (b : Building) (homes : List Home) (s t : State) (n : ℕ) (x : Instance)
    (q : Option (ℕ × Instance)) : Type 0 where
  pub beside : Instance
  pub is : q ≡ Some (n, beside)
  pub source : slice_get s.instances n ≡ Some x
  pub target : slice_get t.instances n ≡ Some beside
  pub instances : AreInstances b homes t x beside

-- what is found in the first run is found in the framed one
abbrev pub AreFound : Building → List Home → State → State → Option (ℕ × Instance) → Option (ℕ × Instance) → Type 0
AreFound b homes s t None q = q ≡ None
AreFound b homes s t (Some p) q = IsFoundBeside b homes s t p.0 p.1 q

-- a suspended instance and the one beside it, which is suspended where the suspend stands in the framed form
pub record IsSleeperBeside (b : Building) (homes : List Home) (s t : State) (y : Sleeper) (q : Result Sleeper Cause)
    : Type 0 where
  pub sleeper : Sleeper
  pub is : q ≡ Ok sleeper
  pub number : sleeper.number ≡ y.number
  pub source : slice_get s.instances y.number ≡ Some y.instance
  pub target : slice_get t.instances y.number ≡ Some sleeper.instance
  pub instances : AreInstances b homes t y.instance sleeper.instance
  pub status : y.instance.status ≡ Status.Suspended y.suspend y.values
  pub suspend : sleeper.suspend ≡ own_place_of b y.instance.coroutine y.suspend
  pub suspend_number : ℕ
  pub numbered : IsSuspendNumber (b.framing y.instance.coroutine) suspend_number y.suspend

-- ---- the promise

-- where the layout of a coroutine has its promise
abbrev pub promise_field : Framing → Option ℕ
promise_field x =
    option_map (λ (y : PlacedField). y.offset) (find (λ (y : PlacedField). is_promise_kind y.kind) x.layout.fields)

-- It is the place of the promise's alloca among what is held. Layouts put the promise behind the header.
pub record IsPromiseLaid (x : Framing) : Type 0 where
  pub laid : (a position : ℕ) → promise_of (edged x) ≡ Some a → position_of x.contents.held a ≡ Some position
      → promise_field x ≡ Some (offset_at x.layout position)

-- ---- intrinsics that give a value and change nothing else

abbrev pub IsAsking : Intrinsic → Type 0
IsAsking Intrinsic.CoroSizeI32 = Unit {0}
IsAsking Intrinsic.CoroSizeI64 = Unit {0}
IsAsking Intrinsic.CoroAlignI32 = Unit {0}
IsAsking Intrinsic.CoroAlignI64 = Unit {0}
IsAsking Intrinsic.CoroAlloc = Unit {0}
IsAsking Intrinsic.CoroFrame = Unit {0}
IsAsking Intrinsic.CoroDone = Unit {0}
IsAsking Intrinsic.CoroPromise = Unit {0}
IsAsking _ = ⊥

-- Both runs have the same sizes of frames, those of the layouts. The first run gives no ramp its frame.
pub record MayAsk (b : Building) (g : RenewedGiven) (s : State) : Type 0 where
  pub placed : AreInstancesPlaced s
  pub laid : (func : ℕ) → is_coroutine b func ≡ true → IsPromiseLaid (b.framing func)
  pub frames : (func : ℕ) → frame_of b.given.given.sizes func ≡ frame_of g.given.sizes func
  pub no_gift : allocates s.top.mode ≡ true

-- what the framed run gives stands for what the first run gives
pub record GivesAlike (homes : List Home) (s t : State) (result : Option ℕ) (after : State)
    (there : Result State Cause) : Type 0 where
  pub value : Value
  pub other : Value
  pub source : after ≡ gives s result value
  pub target : there ≡ Ok (gives t result other)
  pub stands : IsValue homes value other

-- the framed run in the midst of a line
abbrev pub on_line : State → World → (block at : ℕ) → Env → State
on_line t w block at env = record t { world = w; top = record t.top { block = block; at = at; values = env } }

-- ---- the next step is such an intrinsic

-- in a function that is no coroutine
pub record IsAtOtherAsking (b : Building) (g : RenewedGiven) (s : State) (i : Intrinsic) (result : Option ℕ)
    (must_tail : Bool) (ty : Option Ty) (args : List Arg) (after : State) : Type 0 where
  pub runs : s.outcome ≡ Outcome.Running
  pub plain : is_coroutine b s.top.func ≡ false
  pub mode : IsNotEntering s.top.mode
  pub there : fetch (function_of g.given s) s.top.block s.top.at
      ≡ AtInstr (Instr.Call result must_tail ty (Callee.Intrinsic i) args)
  pub asking : IsAsking i
  pub does : coro g.given (continue_renewed g) s i args (arg_values g.given.code s.top.values args) result ≡ Ok after
  pub may : MayAsk b g s

-- in a coroutine; what it gives fits the type in which it is kept
pub record IsAtAsking (b : Building) (g : RenewedGiven) (s : State) (i : Intrinsic) (result : Option ℕ)
    (must_tail : Bool) (ty : Option Ty) (args : List Arg) (after : State) : Type 0 where
  pub here : IsHere b s (Instr.Call result must_tail ty (Callee.Intrinsic i) args)
  pub asking : IsAsking i
  pub does : coro g.given (continue_renewed g) s i args (arg_values g.given.code s.top.values args) result ≡ Ok after
  pub may : MayAsk b g s
  pub storable : (q : ℕ) (k : KeptValue) → result ≡ Some q → IsKeptValue (b.framing s.top.func) q k
      → IsStorable k.ty (value_in after.top.values q)

-- ---- coro.free

-- the instances once that one is released
abbrev pub released_in : List Instance → Option (ℕ × Instance) → List Instance
released_in xs None = xs
released_in xs (Some p) = slice_set xs p.0 (record p.1 { released = true })

-- The next step is coro.free in a coroutine, whose instance's block is one of an allocator's.
pub record IsAtFreeing (b : Building) (g : RenewedGiven) (s : State) (result : Option ℕ) (must_tail : Bool)
    (ty : Option Ty) (args : List Arg) : Type 0 where
  pub here : IsHere b s (Instr.Call result must_tail ty (Callee.Intrinsic Intrinsic.CoroFree) args)
  pub placed : AreInstancesPlaced s
  pub storable : (q : ℕ) (k : KeptValue) → result ≡ Some q → IsKeptValue (b.framing s.top.func) q k
      → IsStorable k.ty (value_in (with_result s.top.values result (frame_address (own_instance s))) q)

-- ---- coro.id

-- The next step is coro.id in a coroutine. But for the promise, which isn't named any more, its operands are literals.
-- Its result is a token, which is kept in no cell.
pub record IsAtId (b : Building) (s : State) (result : Option ℕ) (must_tail : Bool) (ty : Option Ty) (args : List Arg)
    : Type 0 where
  pub runs : s.outcome ≡ Outcome.Running
  pub on : IsOnLine b s.top (Instr.Call result must_tail ty (Callee.Intrinsic Intrinsic.CoroId) args)
  pub unloaded : AreUnfetched (fetches_of (plan (b.framing s.top.func)))
      (instr_operands (Instr.Call result must_tail ty (Callee.Intrinsic Intrinsic.CoroId) args))
  pub unplaced : AreUnfetched (slot_table (b.framing s.top.func))
      (instr_operands (without_promise_of (Instr.Call result must_tail ty (Callee.Intrinsic Intrinsic.CoroId) args)))
  pub unkept : (q : ℕ) → result ≡ Some q
      → (entry (plan (b.framing s.top.func)).places q ≡ None)
      × (lies_in_frame (offsets (b.framing s.top.func)) q ≡ false)
