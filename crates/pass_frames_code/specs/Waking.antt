-- What is asked where a suspended coroutine is woken, by a coroutine or by another function, and makes slots anew.
use Rattle.std.specs.List.{Contains}
use Rattle.std.specs.Prelude.{◌≡◌, ◌≢◌, ◌⊎◌, ◌+◌, ◌-◌, ◌<◌, ◌≤◌, ◌^◌, ◌∷◌, ◌++◌, [], Bool, List, None, Ok, Option, Some, false, length, slice_get, take, true, ℕ}
use Rattle.pass_proofs.specs.flow_solver.Paths.{IsListed}
use Rattle.pass_proofs.specs.ir_base.declared.outcome.Outcome.{Outcome}
use Rattle.pass_proofs.specs.ir_laws.paths.woven_rules.Pairs.{AreDifferent}
use Rattle.pass_proofs.specs.ir_model.Layout.{size_of}
use Rattle.pass_proofs.specs.ir_model.Names.{block_labelled, function_at}
use Rattle.pass_proofs.specs.ir_model.Ty.{Ty, int, ptr}
use Rattle.pass_proofs.specs.ir_model.declared.instr.Instr.{Instr}
use Rattle.pass_proofs.specs.ir_model.declared.module.Function.{Function}
use Rattle.pass_proofs.specs.ir_model.declared.operand.Arg.{Arg}
use Rattle.pass_proofs.specs.ir_model.declared.operand.Callee.{Callee}
use Rattle.pass_proofs.specs.ir_model.declared.operand.Intrinsic.{Intrinsic}
use Rattle.pass_proofs.specs.ir_paths.Slots.{allocas_in}
use Rattle.pass_proofs.specs.ir_paths.declared.point.Point.{Point}
use Rattle.pass_proofs.specs.pass_cells.Kept.{entry}
use Rattle.pass_proofs.specs.pass_cells.declared.plan.KeptValue.{KeptValue}
use Rattle.pass_proofs.specs.pass_copies.declared.slot.EarlySlot.{EarlySlot}
use Rattle.pass_proofs.specs.pass_fetch.Fetching.{value_bytes}
use Rattle.pass_proofs.specs.pass_frames.Framed.{begin_of}
use Rattle.pass_frames_code.specs.Asking.{AreInstancesPlaced}
use Rattle.pass_frames_code.specs.Costs.{resume_cost}
use Rattle.pass_frames_code.specs.Entering.{IsGoodAlloca, allocas_up_to, front_allocas}
use Rattle.pass_frames_code.specs.Followed.{IsOn}
use Rattle.pass_frames_code.specs.Meaning.{first_anew, step_cost}
use Rattle.pass_frames_code.specs.Operands.{IsAtFetch}
use Rattle.pass_frames_code.specs.Passes.{block_at}
use Rattle.pass_frames_code.specs.Places.{Framing, copies, edged, framed, instrs_at, is_return, offsets, own_place, plan}
use Rattle.pass_frames_code.specs.Related.{AreBuiltOf, AreGone, Building, IsKeptValue, IsSuspendNumber, all_slots, below_place, is_coroutine}
use Rattle.pass_frames_code.specs.Stepping.{IsNotEntering, IsUnlocated, state_in}
use Rattle.pass_proofs.specs.pass_kept_proof.Kept.{kept}
use Rattle.pass_proofs.specs.addresses.rules.Addresses.{lies_in_frame}
use Rattle.pass_renewed_proof.specs.Renewed.{RenewedGiven, continue_renewed, renewed_from, renewed_step}
use Rattle.pass_proofs.specs.run_agreement.Machines.{iterate}
use Rattle.pass_proofs.specs.run_framed.Framed.{begin_name, continue_framed, framed_step, reentry_values}
use Rattle.pass_proofs.specs.run_laws.changed.Changed.{Each}
use Rattle.pass_proofs.specs.run_memory.declared.pointer.Value.{Value}
use Rattle.pass_proofs.specs.run_source.Source.{resumed, sleeper_at}
use Rattle.pass_proofs.specs.run_source.State.{frame_address_of, function_of}
use Rattle.pass_proofs.specs.run_source.declared.state.Activation.{Activation}
use Rattle.pass_proofs.specs.run_source.declared.state.Instance.{Instance}
use Rattle.pass_proofs.specs.run_source.declared.state.Mode.{Mode}
use Rattle.pass_proofs.specs.run_source.declared.state.State.{State}
use Rattle.pass_proofs.specs.run_source.declared.state.Status.{Status}
use Rattle.pass_proofs.specs.run_source_tables.Given.{is_final}
use Rattle.pass_proofs.specs.run_step.Step.{AtInstr, fetch, has_markers}
use Rattle.pass_proofs.specs.run_step.Values.{Env, arg_values, nth, value_in}
use Rattle.pass_proofs.specs.run_step.declared.world.Slot.{Slot}

-- what the framed run begins a woken activation with
abbrev pub framed_start : Building → ℕ → Instance → Point → ℕ → Activation
framed_start b i y suspend label =
    record (resumed i y suspend (reentry_values (framed (b.framing y.coroutine)) (frame_address_of y))) {
      block = 0;
      at = 0;
      mode = Mode.Entering suspend.block label;
    }

-- and the other one, at the first alloca that is made anew
abbrev pub renewed_start : RenewedGiven → ℕ → Instance → Point → Env → (label first : ℕ) → Activation
renewed_start g i x suspend env label first =
    record (resumed i x suspend (kept (g.keep x.coroutine suspend) env)) {
      block = 0;
      at = first;
      mode = Mode.Entering suspend.block label;
    }

-- A suspended instance that isn't freed, with what is handed on of its values: what crosses the suspend (K8), of begin
-- its own address, and nothing of allocas that aren't made anew (`AreTablesRight`).
pub record IsSleeping (b : Building) (g : RenewedGiven) (s : State) (label : ℕ) : Type 0 where
  pub number : ℕ
  pub instance : Instance
  pub suspend : Point
  pub env : Env
  pub there : slice_get s.instances number ≡ Some instance
  pub status : instance.status ≡ Status.Suspended suspend env
  pub unfreed : instance.freed ≡ false
  pub small : instance.start < 2 ^ 64
  pub order : ℕ
  pub returns : entry (plan (b.framing instance.coroutine)).returns label ≡ Some order
  pub numbered : (j : ℕ) → IsSuspendNumber (b.framing instance.coroutine) j suspend → j ≡ order
  pub handed : (v : ℕ) (k : KeptValue) → IsKeptValue (b.framing instance.coroutine) v k
      → Contains (b.framing instance.coroutine).contents.crossing (v, order)
      → value_in (kept (g.keep instance.coroutine suspend) env) v ≡ value_in env v
  pub gone : AreGone (b.framing instance.coroutine) order (kept (g.keep instance.coroutine suspend) env)
  pub begun : (value_in (kept (g.keep instance.coroutine suspend) env)
      (begin_of (b.framing instance.coroutine).function) ≡ Value.Poison)
      ⊎ (value_in (kept (g.keep instance.coroutine suspend) env)
      (begin_of (b.framing instance.coroutine).function) ≡ frame_address_of instance)
  pub begins : begin_name (framed (b.framing instance.coroutine))
      ≡ Some (begin_of (b.framing instance.coroutine).function)
  pub begin_low : begin_of (b.framing instance.coroutine).function
      < length (framed (b.framing instance.coroutine)).names

-- Allocas in front of a framed form's entry have alignments that there are, and names of their own in its table, of
-- which begin's is none.
pub record AreFrontsGood (x : Framing) : Type 0 where
  pub good : Each IsGoodAlloca (front_allocas x)
  pub different : AreDifferent (allocas_in (front_allocas x))
  pub low : (v : ℕ) → IsListed v (allocas_in (front_allocas x)) → v < length (framed x).names
  pub no_begin : IsListed (begin_of x.function) (allocas_in (front_allocas x)) → ⊥

-- an alloca of the coroutine stands among them, behind those that stand before it
pub record StandsInFront (x : Framing) (at name : ℕ) (ty : Ty) (align : ℕ) : Type 0 where
  pub there : slice_get (instrs_at x 0) at ≡ Some (Instr.Alloca name ty align)
  pub rest : List Instr
  pub is : front_allocas x ≡ allocas_up_to x at ++ (Instr.Alloca name ty align ∷ rest)

-- The first of its allocas that is made anew. Those of the framed form have alignments that there are, and begin's name
-- is that of none. Of allocas before it nothing is handed on but addresses of slots that lie in the frame.
pub record HasFirstAnew (b : Building) (g : RenewedGiven) (func : ℕ) (env : Env) : Type 0 where
  pub first : ℕ
  pub name : ℕ
  pub ty : Ty
  pub align : ℕ
  pub is : renewed_from (g.flags func) (function_at g.given.code func) 0
      ≡ Some (record { block = 0; at = first })
  pub there : slice_get (instrs_at (b.framing func) 0) first ≡ Some (Instr.Alloca name ty align)
  pub unkept : entry (plan (b.framing func)).places name ≡ None
  pub outside : lies_in_frame (offsets (b.framing func)) name ≡ false
  pub good : Each IsGoodAlloca (front_allocas (b.framing func))
  pub no_begin : IsListed (begin_of (b.framing func).function) (allocas_in (front_allocas (b.framing func))) → ⊥
  pub unhanded : (v : ℕ) → IsListed v (allocas_in (take first (instrs_at (b.framing func) 0)))
      → lies_in_frame (offsets (b.framing func)) v ≡ false → value_in env v ≡ Value.Poison

-- Both runs wake it. The framed run first fetches what the call takes, and then stands at the call itself. Behind the
-- call its caller goes on. No call is in a block on a resume or destroy edge. Slots of activations have blocks.
pub record AreWoken (b : Building) (g : RenewedGiven) (s t : State) (label : ℕ) (z : IsSleeping b g s label) : Type 0
  where
    pub runs : s.outcome ≡ Outcome.Running
    pub calm : is_coroutine b s.top.func ≡ true
        → IsNotEntering s.top.mode × (is_return (b.framing s.top.func) s.top.block ≡ false)
    pub fetches : ℕ
    pub last : State
    pub leads : iterate (framed_step b.given) fetches t ≡ last
    pub shown : (i : ℕ) → i < fetches → IsOn b s (iterate (framed_step b.given) i t)
    pub last_shown : IsOn b s last
    pub state : State
    pub related : AreBuiltOf b s state
    pub call : Point
    pub behind : record { block = call.block; at = call.at + 1 } ≡ below_place b (record s.top { at = s.top.at + 1 })
    pub beside : Instance
    pub there : slice_get state.instances z.number ≡ Some beside
    pub source : renewed_step g s
        ≡ continue_renewed g s z.number z.instance z.suspend z.env label
    pub other : Env
    pub target : framed_step b.given last
        ≡ continue_framed b.given (record state { top = record state.top { block = call.block; at = call.at } })
        z.number beside (own_place (b.framing z.instance.coroutine) z.suspend) other label
    pub slots : (slot : Slot) → Contains (all_slots state) slot → slot.block < length state.world.memory
    pub cost : step_cost b g s s.top.mode
        ≡ fetches + 1 + (resume_cost (b.framing z.instance.coroutine) (first_anew g z.instance.coroutine 0) - 1)

abbrev pub wake_call : Intrinsic → Option ℕ → Bool → Option Ty → List Arg → Instr
wake_call intrinsic result must_tail ty args = Instr.Call result must_tail ty (Callee.Intrinsic intrinsic) args

-- The next step is a resume or destroy, which finds the sleeper. Its suspend leads to the label, and stands in no block
-- on a resume or destroy edge, which has a jump alone.
pub record IsWaking (b : Building) (g : RenewedGiven) (s t : State) (label : ℕ) (z : IsSleeping b g s label)
    (intrinsic : Intrinsic) (leads : Function → Point → ℕ) : Type 0 where
  pub result : Option ℕ
  pub must_tail : Bool
  pub ty : Option Ty
  pub args : List Arg
  pub runs : s.outcome ≡ Outcome.Running
  pub placed : AreInstancesPlaced s
  pub finds : sleeper_at s (nth (arg_values g.given.code s.top.values args) 0)
      ≡ Ok (record { number = z.number; instance = z.instance; suspend = z.suspend; values = z.env })
  pub leads_to : leads (edged (b.framing z.instance.coroutine)) z.suspend ≡ label
  pub unreturned : is_return (b.framing z.instance.coroutine) z.suspend.block ≡ false
  pub slots : (slot : Slot) → Contains (all_slots t) slot → slot.block < length t.world.memory

-- by a function that is no coroutine
pub record IsAtWaking (b : Building) (g : RenewedGiven) (s t : State) (label : ℕ) (z : IsSleeping b g s label)
    (intrinsic : Intrinsic) (leads : Function → Point → ℕ) : Type 0 where
  pub wakes : IsWaking b g s t label z intrinsic leads
  pub plain : is_coroutine b s.top.func ≡ false
  pub mode : IsNotEntering s.top.mode
  pub there : fetch (function_of g.given s) s.top.block s.top.at
      ≡ AtInstr (wake_call intrinsic wakes.result wakes.must_tail wakes.ty wakes.args)

-- By a coroutine. Its operand is no address of a slot that is used before begin (K9), and allocas have names of the
-- table.
pub record IsAtOwnWaking (b : Building) (g : RenewedGiven) (s t : State) (label : ℕ) (z : IsSleeping b g s label)
    (intrinsic : Intrinsic) (leads : Function → Point → ℕ) : Type 0 where
  pub wakes : IsWaking b g s t label z intrinsic leads
  pub at : IsAtFetch b s (wake_call intrinsic wakes.result wakes.must_tail wakes.ty wakes.args)
  pub unlocated : IsUnlocated (b.framing s.top.func) (state_in (b.framing s.top.func) s.top.block s.top.at)
      (wake_call intrinsic wakes.result wakes.must_tail wakes.ty wakes.args)
  pub allocas : (at u align : ℕ) (ty : Ty)
      → slice_get (instrs_at (b.framing s.top.func) 0) at ≡ Some (Instr.Alloca u ty align)
      → u < length (edged (b.framing s.top.func)).names

-- a resume finds no final suspend
abbrev pub IsUnfinal : Framing → Point → Type 0
IsUnfinal x suspend = is_final (edged x) suspend ≡ false

-- ---- where no slot is made anew

-- an alloca of the framed form gives a cell of a type
pub record IsCellMade (x : Framing) (cell : ℕ) (ty : Ty) : Type 0 where
  pub position : ℕ
  pub align : ℕ
  pub there : slice_get (front_allocas x) position ≡ Some (Instr.Alloca cell ty align)
  pub unmarked : has_markers (framed x) cell ≡ false
  pub aligned : value_bytes ty ≤ align

-- The label leads to a block on the edge behind that suspend, which has no phis. Cells are allocas without markers.
pub record HasEdgeBlock (b : Building) (func label order : ℕ) : Type 0 where
  pub block : ℕ
  pub labelled : block_labelled (edged (b.framing func)) label ≡ Some block
  pub there : slice_get (edged (b.framing func)).blocks block ≡ Some (block_at (edged (b.framing func)) block)
  pub later : block ≢ 0
  pub no_phis : (block_at (edged (b.framing func)) block).phis ≡ []
  pub returned : is_return (b.framing func) block ≡ true
  pub behind : entry (plan (b.framing func)).returns (block_at (edged (b.framing func)) block).label ≡ Some order
  pub sizes : (v : ℕ) (k : KeptValue) → IsKeptValue (b.framing func) v k
      → size_of b.framed_code k.ty ≡ value_bytes k.ty
  pub sized_words : (size_of b.framed_code (int 64) ≡ value_bytes (int 64))
      × (size_of b.framed_code ptr ≡ value_bytes ptr)
  pub values : (v : ℕ) (k : KeptValue) → IsKeptValue (b.framing func) v k → IsCellMade (b.framing func) k.cell k.ty
  pub distances : (v cell : ℕ) → entry (plan (b.framing func)).cells v ≡ Some cell
      → IsCellMade (b.framing func) cell (int 64)
  pub wheres : (s : EarlySlot) → Contains (copies (b.framing func)).slots s → IsCellMade (b.framing func) s.cell ptr

-- No alloca is made anew, and so no address is moved, nor is the distance of one kept. Of names that are kept in no
-- cell and lie in no frame but begin's nothing is handed on. The framed form may have no allocas, or some.
pub record HasNoneAnew (b : Building) (g : RenewedGiven) (func : ℕ) (env : Env) (label order : ℕ) : Type 0 where
  pub none : renewed_from (g.flags func) (function_at g.given.code func) 0 ≡ None
  pub unrooted : (v : ℕ) → g.roots func v ≡ None
  pub fronts : AreFrontsGood (b.framing func)
  pub unhanded : (v : ℕ) → entry (plan (b.framing func)).places v ≡ None
      → lies_in_frame (offsets (b.framing func)) v ≡ false
      → (v ≡ begin_of (b.framing func).function) ⊎ (value_in env v ≡ Value.Poison)
  pub unslotted : (v : ℕ) (k : KeptValue) → IsKeptValue (b.framing func) v k → k.slot ≡ None
  pub edge : HasEdgeBlock b func label order
