-- A worked function that tests what is to be freed for null, with blocks on the edges behind.
use Rattle.std.specs.Prelude.{true, false, [], ◌∷◌, None, Some, codes, if◌then◌else◌, ◌==◌}
use Rattle.pass_elide_proof.specs.Elision.{Shape}
use Rattle.pass_elide_proof.specs.pass_proofs.ir_base.declared.name.Name.{Name}
use Rattle.pass_elide_proof.specs.pass_proofs.ir_model.Ty.{ptr}
use Rattle.pass_elide_proof.specs.pass_proofs.ir_model.declared.instr.Instr.{Instr}
use Rattle.pass_elide_proof.specs.pass_proofs.ir_model.declared.instr.Terminator.{Terminator}
use Rattle.pass_elide_proof.specs.pass_proofs.ir_model.declared.module.Function.{Function}
use Rattle.pass_elide_proof.specs.pass_proofs.ir_model.declared.operand.Allocator.{Allocator}
use Rattle.pass_elide_proof.specs.pass_proofs.ir_model.declared.operand.Callee.{Callee}
use Rattle.pass_elide_proof.specs.pass_proofs.ir_model.declared.operand.Operand.{Operand}

-- block 0 tests, 1 frees, 3 and 2 are on the edges behind it and beside it
abbrev pub freeing_function : Function
freeing_function =
    record {
      name = Name.Text (codes "f");
      result = None;
      params = [];
      coroutine = true;
      blocks =
          record {
            label = 1;
            phis = [];
            instrs = [];
            term = Terminator.Branch (Operand.Local 6) 2 3;
          }
          ∷ record {
            label = 2;
            phis = [];
            instrs =
                (Instr.Call None false None (Callee.Allocator Allocator.Free)
                (record { ty = ptr; value = Operand.Local 7 } ∷ []))
                ∷ [];
            term = Terminator.Jump 4;
          }
          ∷ record { label = 3; phis = []; instrs = []; term = Terminator.Jump 5 }
          ∷ record { label = 4; phis = []; instrs = []; term = Terminator.Jump 5 }
          ∷ record {
            label = 5;
            phis = record {
              result = 8;
              ty = ptr;
              incoming = record { value = Operand.Null; from = 3 } ∷ record { value = Operand.Null; from = 4 } ∷ [];
            } ∷ [];
            instrs = [];
            term = Terminator.Ret None;
          }
          ∷ [];
      names =
          Name.Text (codes "0") ∷ Name.Text (codes "1") ∷ Name.Text (codes "2") ∷ Name.Text (codes "3") ∷
          Name.Text (codes "4") ∷ Name.Text (codes "5") ∷ Name.Text (codes "c") ∷ Name.Text (codes "m") ∷
          Name.Text (codes "p") ∷ [];
    }

abbrev pub freeing_shape : Shape
freeing_shape =
    record {
      waits = λ b. None;
      frees = λ b. if b == 1 then Some 0 else None;
      aside = λ b. if b == 3 then Some 2 else None;
      need = λ v. false;
      made = λ v. false;
      freed = λ v. v == 7;
      tested = λ v. if v == 6 then Some false else None;
      passed = λ v. false;
      holds = λ block at. None;
    }
