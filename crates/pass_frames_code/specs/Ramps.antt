-- A ramp that is called: what stands in front of its entry, what its allocas are, and what its parameters get.
use Rattle.std.specs.List.{Contains}
use Rattle.std.specs.Prelude.{◌≡◌, ◌++◌, ℕ, List, Some, false, length, slice_get}
use Rattle.pass_proofs.specs.flow_solver.Paths.{IsListed}
use Rattle.pass_proofs.specs.ir_laws.facts.spelled.Filled.{HasNoEntryPhis}
use Rattle.pass_proofs.specs.ir_laws.paths.woven_rules.Pairs.{AreDifferent}
use Rattle.pass_proofs.specs.ir_model.Ty.{Ty, int, ptr}
use Rattle.pass_proofs.specs.ir_model.declared.instr.Instr.{Instr}
use Rattle.pass_proofs.specs.ir_model.declared.module.Module.{Module}
use Rattle.pass_proofs.specs.pass_cells.Kept.{entry}
use Rattle.pass_proofs.specs.pass_cells.Written.{stored_params}
use Rattle.pass_proofs.specs.pass_cells.declared.plan.KeptValue.{KeptValue}
use Rattle.pass_proofs.specs.pass_copies.declared.slot.EarlySlot.{EarlySlot}
use Rattle.pass_proofs.specs.pass_fetch.Fetching.{value_bytes}
use Rattle.pass_frames_code.specs.Entered.{temporary_of}
use Rattle.pass_frames_code.specs.Entering.{front_allocas}
use Rattle.pass_frames_code.specs.Entry.{cells_of, puts_of}
use Rattle.pass_frames_code.specs.Lines.{IsStorable}
use Rattle.pass_frames_code.specs.Places.{Framing, copies, edged, framed, instrs_at, offsets, place, plan}
use Rattle.pass_frames_code.specs.Related.{IsKeptValue}
use Rattle.pass_frames_code.specs.Stores.{given_params}
use Rattle.pass_proofs.specs.addresses.rules.Addresses.{lies_in_frame}
use Rattle.pass_proofs.specs.rule_laws.rules.function_rules.Kept.{KeepsFunctionRules}
use Rattle.pass_proofs.specs.run_laws.access.Lines.{StandAt}
use Rattle.pass_proofs.specs.run_laws.changed.Changed.{Each}
use Rattle.pass_proofs.specs.run_memory.declared.pointer.Value.{Value}

-- ---- the code in front of the entry

-- its entry has no phis: no edge leads to it (F1), and phis of texts have operands
abbrev pub IsPlainEntry : Framing → Type 0
IsPlainEntry x = HasNoEntryPhis x.function.blocks

-- addresses of temporaries go to their cells, and parameters to theirs
abbrev pub entry_stores : Framing → List Instr
entry_stores x = puts_of temporary_of (copies x).slots ++ stored_params (plan x) (edged x).params

-- all allocas stand in front, and behind them these stores
pub record HasEntryFront (x : Framing) : Type 0 where
  pub stand : StandAt (framed x) 0 0 (front_allocas x ++ entry_stores x)
  pub place : (place x (record { block = 0; at = 0 })).at ≡ length (front_allocas x ++ entry_stores x)

-- ---- the allocas

-- Among the allocas in front are those of slots that lie in no frame, of temporaries, and of cells. Cells of addresses
-- have names of their own.
pub record HasAllocasInFront (x : Framing) : Type 0 where
  pub own : (at v align : ℕ) (ty : Ty) → slice_get (instrs_at x 0) at ≡ Some (Instr.Alloca v ty align)
      → lies_in_frame (offsets x) v ≡ false → IsListed (Instr.Alloca v ty align) (front_allocas x)
  pub temporaries : (s : EarlySlot) → Contains (copies x).slots s
      → IsListed (Instr.Alloca s.temporary s.ty s.align) (front_allocas x)
  pub wheres : (s : EarlySlot) → Contains (copies x).slots s
      → IsListed (Instr.Alloca s.cell ptr (value_bytes ptr)) (front_allocas x)
  pub values : (v : ℕ) (k : KeptValue) → IsKeptValue x v k
      → IsListed (Instr.Alloca k.cell k.ty (value_bytes k.ty)) (front_allocas x)
  pub distances : (v cell : ℕ) → entry (plan x).cells v ≡ Some cell
      → IsListed (Instr.Alloca cell (int 64) (value_bytes (int 64))) (front_allocas x)
  pub once : AreDifferent (cells_of (copies x).slots)

-- The framed form, a function of a module by its number, breaks no rule (`framed_forms_are_kept`). Both modules have
-- the same types (`IsFramedForm`).
pub record HasEntryAllocas (m : Module) (func : ℕ) (x : Framing) : Type 0 where
  pub rules : KeepsFunctionRules m func (framed x)
  pub types : m.types ≡ x.code.types

-- ---- the parameters

-- its value may be stored: values fit their types (Y1)
pub record FitsParam (x : Framing) (q : ℕ × Value) : Type 0 where
  pub storable : (k : KeptValue) → IsKeptValue x q.0 k → IsStorable k.ty q.1

-- each parameter has its argument
pub record FitParams (x : Framing) (args : List Value) : Type 0 where
  pub long : length args ≡ length (edged x).params
  pub fit : Each (FitsParam x) (given_params (edged x).params args)

-- a ramp that may be called with these arguments
pub record IsRamp (m : Module) (func : ℕ) (x : Framing) (args : List Value) : Type 0 where
  pub entry : IsPlainEntry x
  pub allocas : HasEntryAllocas m func x
  pub params : FitParams x args
