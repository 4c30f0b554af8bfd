-- A coroutine with one suspend, whose instance begins in a block of 48 bytes, is saved and is resumed.
use Rattle.std.specs.Prelude.{false, true, List, [], ◌∷◌, Option, None, Some, codes, pos}
use Rattle.pass_proofs.specs.ir_base.declared.name.Name.{Name}
use Rattle.pass_proofs.specs.ir_model.Ty.{int, ptr, token}
use Rattle.pass_proofs.specs.ir_model.declared.instr.Instr.{Instr}
use Rattle.pass_proofs.specs.ir_model.declared.instr.Terminator.{Terminator}
use Rattle.pass_proofs.specs.ir_model.declared.module.Function.{Function}
use Rattle.pass_proofs.specs.ir_model.declared.operand.Callee.{Callee}
use Rattle.pass_proofs.specs.ir_model.declared.operand.Intrinsic.{Intrinsic}
use Rattle.pass_proofs.specs.ir_model.declared.operand.Operand.{Operand}
use Rattle.pass_proofs.specs.ir_paths.declared.point.Point.{Point}
use Rattle.pass_proofs.specs.pass_intrinsics.declared.shape.Part.{Part}
use Rattle.pass_split_proof.specs.states.Begun.{with_header}
use Rattle.pass_split_proof.specs.states.Instances.{AreFrames, address_of_part, in_state}
use Rattle.pass_split_proof.specs.states.Memories.{AreBeside}
use Rattle.pass_split_proof.specs.states.Saved.{with_save}
use Rattle.pass_proofs.specs.run_framed.Framed.{FramedGiven}
use Rattle.pass_proofs.specs.run_laws.memory.Standing.{blank_block}
use Rattle.run_access_worked.specs.run_laws_worked.Worked.{an_instance, frame_given, owned_block}
use Rattle.pass_proofs.specs.run_memory.declared.block.Kind.{Kind}
use Rattle.pass_proofs.specs.run_memory.declared.block.MemoryBlock.{MemoryBlock}
use Rattle.pass_proofs.specs.run_memory.declared.pointer.Value.{Value}
use Rattle.pass_proofs.specs.run_source.declared.state.Instance.{Instance}
use Rattle.pass_proofs.specs.run_source.declared.state.Status.{Status}
use Rattle.pass_proofs.specs.run_source_tables.Given.{Given}

-- block 1 ends with a suspend; 2 and 3 are those of its edges, and 4 is the end
abbrev pub a_coroutine : Function
a_coroutine =
    record {
      name = Name.Text (codes "f");
      result = None;
      params = [];
      coroutine = true;
      blocks =
          record {
            label = 1;
            phis = [];
            instrs =
                Instr.Call (Some 5) false (Some token) (Callee.Intrinsic Intrinsic.CoroSave)
                (record { ty = ptr; value = Operand.Null } ∷ [])
                ∷ Instr.Call (Some 6) false (Some (int 8)) (Callee.Intrinsic Intrinsic.CoroSuspend)
                (record { ty = token; value = Operand.Local 5 } ∷ record { ty = int 1; value = Operand.False } ∷ [])
                ∷ [];
            term = Terminator.Switch (record { ty = int 8; value = Operand.Local 6 }) 4
                (record { arg = record { ty = int 8; value = Operand.Number (pos 0) }; target = 2 }
                ∷ record { arg = record { ty = int 8; value = Operand.Number (pos 1) }; target = 3 }
                ∷ []);
          }
          ∷ record { label = 2; phis = []; instrs = []; term = Terminator.Jump 1 }
          ∷ record { label = 3; phis = []; instrs = []; term = Terminator.Jump 4 }
          ∷ record {
            label = 4;
            phis = [];
            instrs = Instr.Call (Some 7) false (Some (int 1)) (Callee.Intrinsic Intrinsic.CoroEnd)
                (record { ty = ptr; value = Operand.Null } ∷ record { ty = int 1; value = Operand.False }
                ∷ record { ty = token; value = Operand.None } ∷ []) ∷ [];
            term = Terminator.Ret None;
          }
          ∷ [];
      names = [];
    }

abbrev pub a_given : Given
a_given =
    record {
      code = record { types = []; globals = []; declarations = []; functions = a_coroutine ∷ [] };
      sizes = [];
      answers = [];
      facts = [];
    }

abbrev pub given_frame : FramedGiven
given_frame = frame_given a_given

-- where the suspend stands
abbrev pub a_suspend : Point
a_suspend = record { block = 0; at = 1 }

-- the framed run's memory, from the begin on
abbrev pub framed_memory : List MemoryBlock
framed_memory = owned_block 48 16 32 ∷ []

-- that of the parts' run behind the begin, and behind the save
abbrev pub begun_memory : List MemoryBlock
begun_memory = with_header (blank_block 48 16 Kind.Allocator ∷ []) 0 (address_of_part given_frame 0 Part.Resume)
    (address_of_part given_frame 0 Part.Destroy)

abbrev pub saved_memory : List MemoryBlock
saved_memory = with_save given_frame begun_memory an_instance 0 (address_of_part given_frame 0 Part.Resume)

-- the instance behind the save, and behind the resume
abbrev pub sleeping : List (Option Value) → Instance
sleeping values = in_state an_instance (Status.Suspended a_suspend values) None false

abbrev pub woken : List (Option Value) → Instance
woken values = record (sleeping values) { status = Status.Running }

-- the memories stand beside each other, with the frame of the instance
pub record AreWorked (x : Instance) (n : List MemoryBlock) : Type 0 where
  pub beside : AreBeside given_frame (x ∷ []) framed_memory n
  pub frames : AreFrames given_frame (x ∷ []) framed_memory n
