-- A save in both runs: what is asked, and what comes of it.
use Rattle.std.specs.Prelude.{◌≡◌, ℕ, ◌+◌, ◌<◌, ◌≤◌, ◌^◌, [], length, slice_get}
use Rattle.pass_proofs.specs.ir_model.Names.{function_at, position_of}
use Rattle.pass_proofs.specs.ir_model.declared.ir_type.IntWidth.{IntWidth}
use Rattle.pass_proofs.specs.ir_model.declared.instr.Terminator.{Terminator}
use Rattle.pass_proofs.specs.pass_intrinsics.Lowered.{save_stores}
use Rattle.pass_proofs.specs.pass_intrinsics.declared.shape.Part.{Part}
use Rattle.pass_split_proof.specs.places.Places.{IsPlace, Remain}
use Rattle.pass_split_proof.specs.states.Instances.{address_of_part, shape_at}
use Rattle.pass_split_proof.specs.states.Related.{AreRelated}
use Rattle.pass_split_proof.specs.states.Saved.{index_at, with_save}
use Rattle.pass_split_proof.specs.steps.Small.{IsIndexWidth}
use Rattle.pass_proofs.specs.run_framed.Framed.{FramedGiven}
use Rattle.pass_proofs.specs.run_laws.access.Lines.{pointer_at}
use Rattle.pass_proofs.specs.run_memory.declared.pointer.Value.{Value}
use Rattle.run_access_worked.specs.run_plain.Plain.{PlainGiven, plain_function}
use Rattle.run_access_worked.specs.run_plain.declared.state.PlainState.{PlainState}
use Rattle.pass_proofs.specs.run_source.declared.state.Instance.{Instance}
use Rattle.pass_proofs.specs.run_source.declared.state.State.{State}
use Rattle.pass_proofs.specs.run_step.Step.{Work, phis_of, set_memory, set_value}
use Rattle.pass_proofs.specs.run_step.Values.{address_of}

-- the work of the part behind a save: a name for where the index lies, and what is stored
abbrev pub saved_work : FramedGiven → Work → ℕ → Instance → ℕ → Value → Work
saved_work g w name x number resumes =
    set_memory (set_value w name (pointer_at x.block (index_at g x))) (with_save g w.world.memory x number resumes)

-- The stores of a save stand at the part's place, with a name of its own, and behind them the jump to the mark, where
-- the place behind the save is. The suspend has a number that the index can say, and the part that a resume calls is
-- found by its name.
pub record HasSaveCode (g : FramedGiven) (h : PlainGiven) (s : State) (t : PlainState) (r : AreRelated g h s t)
    (number : ℕ) : Type 0 where
  pub same : r.top.shape ≡ shape_at g s.top.func
  pub name : ℕ
  pub new : length s.top.values ≤ name
  pub room : name < length t.top.values
  pub begin : (shape_at g s.top.func).begin < length s.top.values
  pub mark : ℕ
  pub stands : Remain (plain_function h t) t.top.block t.top.at (save_stores (shape_at g s.top.func) name number)
      (Terminator.Jump mark)
  pub bare : phis_of (slice_get (plain_function h t).blocks (position_of (plain_function h t) mark)) ≡ []
  pub place : IsPlace r.top.shape r.top.part (function_at g.given.code s.top.func) (plain_function h t) s.top.block
      (s.top.at + 1) (position_of (plain_function h t) mark) 0
  pub width : IsIndexWidth (shape_at g s.top.func).width
  pub byte : (shape_at g s.top.func).width ≡ IntWidth.I8 → number < 2 ^ 8
  pub word : (shape_at g s.top.func).width ≡ IntWidth.I16 → number < 2 ^ 16
  pub named : address_of h.code (shape_at g s.top.func).resume_name ≡ address_of_part g s.top.func Part.Resume
