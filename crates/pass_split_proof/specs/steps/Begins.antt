-- A begin in both runs: what is asked, and what comes of it.
use Rattle.std.specs.Prelude.{◌≡◌, ℕ, ◌+◌, ◌<◌, ◌≤◌, Some, List, [], ◌∷◌, ◌++◌, length, slice_get}
use Rattle.pass_proofs.specs.ir_model.Names.{function_at, position_of}
use Rattle.pass_proofs.specs.ir_model.declared.instr.Terminator.{Terminator}
use Rattle.pass_proofs.specs.ir_model.declared.operand.Operand.{Operand}
use Rattle.pass_proofs.specs.pass_intrinsics.Lowered.{begin_stores, destroyed_by}
use Rattle.pass_proofs.specs.pass_intrinsics.declared.shape.Part.{Part}
use Rattle.pass_split_proof.specs.places.Places.{IsPlace, Remain}
use Rattle.pass_split_proof.specs.states.Begun.{with_header}
use Rattle.pass_split_proof.specs.states.Instances.{StandsThere, address_of_part, destroyer_of, shape_at}
use Rattle.pass_split_proof.specs.states.Related.{AreRelated}
use Rattle.pass_proofs.specs.run_framed.Framed.{FramedGiven}
use Rattle.pass_proofs.specs.run_laws.access.Lines.{pointer_at}
use Rattle.pass_proofs.specs.run_memory.declared.block.MemoryBlock.{MemoryBlock}
use Rattle.run_access_worked.specs.run_plain.Plain.{PlainGiven, plain_function}
use Rattle.run_access_worked.specs.run_plain.declared.state.PlainState.{PlainState}
use Rattle.pass_proofs.specs.run_source.declared.state.Instance.{Instance}
use Rattle.pass_proofs.specs.run_source.declared.state.State.{State}
use Rattle.pass_proofs.specs.run_step.Step.{Work, phis_of}
use Rattle.pass_proofs.specs.run_step.Values.{Env, address_of, with_value}

-- the framed run behind a begin: an instance more, which the topmost activation has
abbrev pub begun_to : State → Instance → List MemoryBlock → Env → State
begun_to s x memory values =
    record s {
      world = record s.world { memory = memory };
      instances = s.instances ++ x ∷ [];
      top = record s.top { at = s.top.at + 1; values = values; instance = Some (length s.instances) };
    }

-- the work of a part behind a begin: the names of the frame and of where the second pointer lies, and the header
abbrev pub begun_work : FramedGiven → Part → Work → ℕ → Instance → ℕ → Work
begun_work g part w name x func =
    record {
      world = record w.world {
        memory = with_header w.world.memory x.block (address_of_part g func Part.Resume)
            (address_of_part g x.coroutine (destroyer_of part));
      };
      values = with_value (with_value w.values (shape_at g func).begin (pointer_at x.block 0)) name
          (pointer_at x.block 8);
    }

-- The stores of a begin stand at the part's place, with a name of its own, and behind them the jump to the mark,
-- where the place behind begin is. The parts that a resume and a destroy call are found by their names.
pub record HasBeginCode (g : FramedGiven) (h : PlainGiven) (s : State) (t : PlainState) (r : AreRelated g h s t)
    (memory : Operand) : Type 0 where
  pub same : r.top.shape ≡ shape_at g s.top.func
  pub name : ℕ
  pub new : length s.top.values ≤ name
  pub room : name < length t.top.values
  pub begin : (shape_at g s.top.func).begin < length s.top.values
  pub mark : ℕ
  pub stands : Remain (plain_function h t) t.top.block t.top.at (begin_stores (shape_at g s.top.func) r.top.part name memory)
      (Terminator.Jump mark)
  pub bare : phis_of (slice_get (plain_function h t).blocks (position_of (plain_function h t) mark)) ≡ []
  pub place : IsPlace r.top.shape r.top.part (function_at g.given.code s.top.func) (plain_function h t) s.top.block
      (s.top.at + 1) (position_of (plain_function h t) mark) 0
  pub resumes : address_of h.code (shape_at g s.top.func).resume_name ≡ address_of_part g s.top.func Part.Resume
  pub destroys : address_of h.code (destroyed_by (shape_at g s.top.func) r.top.part)
      ≡ address_of_part g s.top.func (destroyer_of r.top.part)
  pub standing : StandsThere g s.top.func (destroyer_of r.top.part)
