-- A begin in a ramp that was given its frame, which the framed run is at, and its part too.
use Rattle.std.specs.Prelude.{◌≡◌, ℕ, ◌+◌, ◌<◌, Bool, true, false, List, Option, None, Some, length, slice_get, is_some}
use Rattle.pass_proofs.specs.ir_model.Names.{function_at}
use Rattle.pass_proofs.specs.ir_model.Ty.{Ty}
use Rattle.pass_proofs.specs.ir_model.declared.instr.Instr.{Instr}
use Rattle.pass_proofs.specs.ir_model.declared.operand.Arg.{Arg}
use Rattle.pass_proofs.specs.ir_model.declared.operand.Callee.{Callee}
use Rattle.pass_proofs.specs.ir_model.declared.operand.Intrinsic.{Intrinsic}
use Rattle.pass_proofs.specs.ir_paths.Slots.{allocas_of}
use Rattle.pass_proofs.specs.pass_intrinsics.Shapes.{given_name}
use Rattle.pass_proofs.specs.pass_intrinsics.declared.shape.Part.{Part}
use Rattle.pass_proofs.specs.pass_split.Given.{has_given_call}
use Rattle.pass_split_proof.specs.given_begins.Room.{with_header_at}
use Rattle.pass_split_proof.specs.places.Places.{IsPlace}
use Rattle.pass_split_proof.specs.states.Instances.{IsLaidOut, address_of_part, destroyer_of, shape_at}
use Rattle.pass_split_proof.specs.states.Memories.{homes_of}
use Rattle.pass_split_proof.specs.states.Related.{AreRelated}
use Rattle.pass_split_proof.specs.steps.Begins.{begun_to}
use Rattle.pass_proofs.specs.run_framed.Framed.{FramedGiven, are_finished_at, frame_around, framed_step, has_room}
use Rattle.pass_proofs.specs.run_laws.access.Lines.{pointer_at}
use Rattle.pass_proofs.specs.run_laws.memory.Pointers.{IsValue}
use Rattle.pass_proofs.specs.run_memory.Memory.{is_live, owned_to, with_block}
use Rattle.pass_proofs.specs.run_memory.declared.block.Kind.{Kind}
use Rattle.pass_proofs.specs.run_memory.declared.block.MemoryBlock.{MemoryBlock}
use Rattle.pass_proofs.specs.run_memory.declared.pointer.Value.{Value}
use Rattle.run_access_worked.specs.run_plain.Plain.{PlainGiven}
use Rattle.run_access_worked.specs.run_plain.declared.state.PlainState.{PlainState}
use Rattle.pass_proofs.specs.run_source.Source.{is_live_at, new_instance}
use Rattle.pass_proofs.specs.run_source.State.{function_of, own_facts, own_frame}
use Rattle.pass_proofs.specs.run_source.declared.state.Instance.{Instance}
use Rattle.pass_proofs.specs.run_source.declared.state.Mode.{Mode}
use Rattle.pass_proofs.specs.run_source.declared.state.State.{State}
use Rattle.pass_proofs.specs.run_step.Step.{AtInstr, Work, fetch}
use Rattle.pass_proofs.specs.run_step.Values.{address_of, value_in, with_value}

-- ---- where it begins

-- a live stack block of just a size, which nobody owns
pub record IsGivenBlock (size : ℕ) (u : MemoryBlock) : Type 0 where
  pub live : is_live u.life ≡ true
  pub kind : u.kind ≡ Kind.Stack
  pub unowned : is_some u.owned ≡ false
  pub fits : u.size ≡ size

-- What a begin at an offset of a block makes of the memory. In a stack block the instance owns it then. In a field of
-- another frame it owns nothing.
pub data BeginsWithin (g : FramedGiven) (s : State) (block start : ℕ) (after : List MemoryBlock) : Type 0 where
  InBlock : (u : MemoryBlock) → start ≡ 0 → slice_get s.world.memory block ≡ Some u
      → IsGivenBlock (own_frame g.given s).size u
      → after ≡ with_block s.world.memory block (owned_to (own_frame g.given s).size)
      → BeginsWithin g s block start after
  InField : has_room g start (own_frame g.given s).size (frame_around g s.instances block start) ≡ true
      → is_live_at s.world.memory block ≡ true → after ≡ s.world.memory → BeginsWithin g s block start after

-- a begin in such a ramp that isn't undefined
pub record HasBegunWithin (g : FramedGiven) (s : State) (name : ℕ) (frame : Value) : Type 0 where
  pub alone : s.top.instance ≡ None
  pub block : ℕ
  pub start : ℕ
  pub leads : frame ≡ pointer_at block start
  pub finished : are_finished_at s.instances frame ≡ true
  pub after : List MemoryBlock
  pub within : BeginsWithin g s block start after
  pub is : framed_step g s ≡ begun_to s (new_instance s.top.func block start) after
      (with_value s.top.values name (pointer_at block start))

-- ---- the place

-- The ramp's begin has the name of the frame. What it was given stands in the part for the frame's address. All allocas
-- are slots of the ramp. The parts that a resume and a destroy call are found by their names.
pub record IsAtGivenBegin (g : FramedGiven) (h : PlainGiven) (s : State) (t : PlainState) (r : AreRelated g h s t)
    : Type 0 where
  pub coroutine : (function_of g.given s).coroutine ≡ true
  pub frame : Value
  pub mode : s.top.mode ≡ Mode.GivenRamp frame
  pub given : IsValue (homes_of s.world.memory) frame (value_in t.top.values (given_name r.top.shape))
  pub place : IsPlace r.top.shape r.top.part (function_of g.given s) (function_at h.code t.top.func) s.top.block
      s.top.at t.top.block t.top.at
  pub must_tail : Bool
  pub ty : Option Ty
  pub args : List Arg
  pub there : fetch (function_of g.given s) s.top.block s.top.at ≡ AtInstr (Instr.Call (Some r.top.shape.begin)
      must_tail ty (Callee.Intrinsic Intrinsic.CoroBegin) args)
  pub begin : r.top.shape.begin < length (function_of g.given s).names
  pub slots : (own_facts g.given s).ramp_slots ≡ allocas_of (function_of g.given s)
  pub laid : IsLaidOut g s.top.func
  pub stands : has_given_call g.given.code (function_of g.given s) ≡ true
  pub resumes : address_of h.code r.top.shape.resume_name ≡ address_of_part g s.top.func Part.Resume
  pub destroys : address_of h.code r.top.shape.cleanup_name ≡ address_of_part g s.top.func Part.Cleanup

-- ---- the part behind it

-- the work of a part behind a begin: the names of the frame and of where the second pointer lies, and the header
abbrev pub begun_work_at : FramedGiven → Part → Work → ℕ → Instance → ℕ → Work
begun_work_at g part w name x func =
    record {
      world = record w.world {
        memory = with_header_at w.world.memory x.block x.start (address_of_part g func Part.Resume)
            (address_of_part g x.coroutine (destroyer_of part));
      };
      values = with_value (with_value w.values (shape_at g func).begin (pointer_at x.block x.start)) name
          (pointer_at x.block (x.start + 8));
    }
