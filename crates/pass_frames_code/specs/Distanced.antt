-- What is asked of a state whose next step is a getelementptr of which the distance is kept.
use Rattle.std.specs.Prelude.{◌≡◌, ◌≢◌, ◌<◌, ◌≤◌, ℕ, Bool, List, length, slice_get, Some, None, Option}
use Rattle.pass_proofs.specs.ir_base.declared.outcome.Outcome.{Outcome}
use Rattle.pass_proofs.specs.ir_model.Ty.{Ty}
use Rattle.pass_proofs.specs.ir_model.declared.instr.Instr.{Instr}
use Rattle.pass_proofs.specs.ir_model.declared.operand.Arg.{Arg}
use Rattle.pass_proofs.specs.ir_model.declared.operand.Operand.{Operand}
use Rattle.pass_proofs.specs.ir_parts.Contents.{arg_operands, instr_operands}
use Rattle.pass_proofs.specs.pass_cells.Kept.{entry}
use Rattle.pass_proofs.specs.pass_cells.Written.{distance_from}
use Rattle.pass_proofs.specs.pass_cells.declared.plan.KeptValue.{KeptValue}
use Rattle.pass_proofs.specs.pass_distances.Sums.{distance_next}
use Rattle.pass_proofs.specs.pass_distances.Ways.{ways_of}
use Rattle.pass_frames_code.specs.Code.{load_name, write_name}
use Rattle.pass_frames_code.specs.Distances.{AreFields, AreWaysBelow}
use Rattle.pass_frames_code.specs.Geps.{GoesOnFrom, IsNotName, loaded_indices}
use Rattle.pass_frames_code.specs.Lines.{IsStorable}
use Rattle.pass_frames_code.specs.Operands.{IsAtFetch}
use Rattle.pass_frames_code.specs.Ordinary.{IsResultName}
use Rattle.pass_frames_code.specs.Places.{Framing, edged, instrs_at, offsets, plan, written}
use Rattle.pass_frames_code.specs.Related.{Building, IsKeptValue, root_of}
use Rattle.pass_frames_code.specs.Stepping.{IsUnlocated, state_in}
use Rattle.pass_renewed_proof.specs.Renewed.{RenewedGiven}
use Rattle.pass_proofs.specs.run_laws.changed.Changed.{Each}
use Rattle.pass_proofs.specs.run_source.Source.{context_of}
use Rattle.pass_proofs.specs.run_source.State.{work_of}
use Rattle.pass_proofs.specs.run_source.declared.state.State.{State}
use Rattle.pass_proofs.specs.run_step.Step.{Done, Work, instr_action}
use Rattle.pass_proofs.specs.run_step.Values.{distance, value_in}

-- the operand lies in no frame: addresses in local slots and their indices don't
abbrev pub IsOutside : Framing → Operand → Type 0
IsOutside x (Operand.Local v) = entry (offsets x) v ≡ None
IsOutside x a = Unit {0}

-- The base is a local slot or an address in one (Y4). The result has a name of its own (N1, F3) and fits its type
-- (values of runs do). Indices into structures are literals (Y4), and the framed module has the same types. Names of what
-- is written in come in order.
pub record IsAtDistanced (b : Building) (g : RenewedGiven) (s : State) (r : ℕ) (inbounds : Bool) (ty : Ty) (base : ℕ)
    (indices : List Arg) (cell slot : ℕ) (v : Work) : Type 0 where
  pub runs : s.outcome ≡ Outcome.Running
  pub at : IsAtFetch b s (Instr.Gep r inbounds ty (Operand.Local base) indices)
  pub does : instr_action (context_of g.given s) (work_of s) (Instr.Gep r inbounds ty (Operand.Local base) indices)
      ≡ Done v
  pub unlocated : IsUnlocated (b.framing s.top.func) (state_in (b.framing s.top.func) s.top.block s.top.at)
      (Instr.Gep r inbounds ty (Operand.Local base) indices)
  pub outside : Each (IsOutside (b.framing s.top.func))
      (instr_operands (Instr.Gep r inbounds ty (Operand.Local base) indices))
  pub result : IsResultName (b.framing s.top.func) r
  pub told : entry (plan (b.framing s.top.func)).cells r ≡ Some cell
  pub root : root_of (b.framing s.top.func) r ≡ Some slot
  pub from : GoesOnFrom (b.framing s.top.func) s.top.values slot base (distance_from (plan (b.framing s.top.func)) r)
  pub not_itself : (base ≢ r) × Each (IsNotName r) (arg_operands indices)
  pub storable : (k : KeptValue) → IsKeptValue (b.framing s.top.func) r k → IsStorable k.ty (value_in v.values r)
  pub fields : AreFields g.given.code ty indices
  pub loaded_fields : AreFields b.framed_code ty (loaded_indices (b.framing s.top.func)
      (load_name (state_in (b.framing s.top.func) s.top.block s.top.at)) base indices)
  pub same : (u : Ty) (is : List (Option ℕ)) → distance b.framed_code u is ≡ distance g.given.code u is
  pub ways : ways_of b.framed_code ty (loaded_indices (b.framing s.top.func)
      (load_name (state_in (b.framing s.top.func) s.top.block s.top.at)) base indices)
      ≡ ways_of (b.framing s.top.func).code ty (loaded_indices (b.framing s.top.func)
      (load_name (state_in (b.framing s.top.func) s.top.block s.top.at)) base indices)
  pub below : AreWaysBelow (write_name (state_in (b.framing s.top.func) s.top.block s.top.at))
      (ways_of (b.framing s.top.func).code ty (loaded_indices (b.framing s.top.func)
      (load_name (state_in (b.framing s.top.func) s.top.block s.top.at)) base indices))
  pub later : load_name (state_in (b.framing s.top.func) s.top.block s.top.at)
      ≤ write_name (state_in (b.framing s.top.func) s.top.block s.top.at)
  pub room : distance_next (write_name (state_in (b.framing s.top.func) s.top.block s.top.at))
      (ways_of (b.framing s.top.func).code ty (loaded_indices (b.framing s.top.func)
      (load_name (state_in (b.framing s.top.func) s.top.block s.top.at)) base indices))
      ≤ length (written (b.framing s.top.func)).names
  pub allocas : (at u align : ℕ) (of : Ty)
      → slice_get (instrs_at (b.framing s.top.func) 0) at ≡ Some (Instr.Alloca u of align)
      → (u < length (edged (b.framing s.top.func)).names) × (u ≢ r)
