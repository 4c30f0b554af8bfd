-- A terminator that the framed run and its part are at.
use Rattle.std.specs.Prelude.{◌≡◌, ℕ, Bool, true, false, slice_get}
use Rattle.pass_proofs.specs.flow_solver.Paths.{IsListed}
use Rattle.pass_proofs.specs.ir_model.Names.{function_at, position_of}
use Rattle.pass_proofs.specs.ir_model.declared.instr.Terminator.{Terminator}
use Rattle.pass_proofs.specs.ir_paths.Paths.{targets}
use Rattle.pass_split_proof.specs.places.Places.{IsPlace}
use Rattle.pass_split_proof.specs.states.Activations.{is_entering}
use Rattle.pass_split_proof.specs.states.Related.{AreRelated}
use Rattle.pass_split_proof.specs.steps.Branches.{AreReadablePhis}
use Rattle.pass_split_proof.specs.steps.Operands.{IsReadable}
use Rattle.pass_proofs.specs.run_framed.Framed.{FramedGiven}
use Rattle.pass_proofs.specs.run_laws.changed.Changed.{Each, operands_of_term}
use Rattle.run_access_worked.specs.run_plain.Plain.{PlainGiven}
use Rattle.run_access_worked.specs.run_plain.declared.state.PlainState.{PlainState}
use Rattle.pass_proofs.specs.run_source.State.{function_of}
use Rattle.pass_proofs.specs.run_source.declared.state.State.{State}
use Rattle.pass_proofs.specs.run_step.Step.{AtTerm, fetch, label_of, phis_of}

abbrev pub is_return : Terminator → Bool
is_return (Terminator.Ret value) = true
is_return term = false

-- The phis of a label's block take from the block of the topmost activation what may be read, and don't set the name of
-- the frame.
abbrev pub ArePhisReadable : (g : FramedGiven) (h : PlainGiven) (s : State) (begin label : ℕ) → Type 0
ArePhisReadable g h s begin label =
    AreReadablePhis g.given.code h.code (function_at g.given.code s.top.func)
    (label_of (slice_get (function_at g.given.code s.top.func).blocks s.top.block)) begin
    (phis_of (slice_get (function_at g.given.code s.top.func).blocks
    (position_of (function_at g.given.code s.top.func) label)))

-- The framed run is at a terminator, and the part is at the same place. The operands may be read in the part, and so may
-- what the phis of its targets take.
pub record IsAtTerm (g : FramedGiven) (h : PlainGiven) (s : State) (t : PlainState) (r : AreRelated g h s t)
    (term : Terminator) : Type 0 where
  pub settled : is_entering s.top.mode ≡ false
  pub place : IsPlace r.top.shape r.top.part (function_of g.given s) (function_at h.code t.top.func) s.top.block
      s.top.at t.top.block t.top.at
  pub there : fetch (function_of g.given s) s.top.block s.top.at ≡ AtTerm term
  pub readable : Each (IsReadable g.given.code h.code (function_of g.given s)) (operands_of_term term)
  pub phis : (label : ℕ) → IsListed label (targets term) → ArePhisReadable g h s r.top.shape.begin label
