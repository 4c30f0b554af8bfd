-- A sum that the worked coroutine makes, and what comes of it.
use Rattle.std.specs.Prelude.{false, pos, true}
use Rattle.pass_elide_proof.specs.Worked.{after}
use Rattle.pass_proofs.specs.ir_base.declared.ops.BinOp.{BinOp}
use Rattle.pass_proofs.specs.ir_model.Ty.{int}
use Rattle.pass_proofs.specs.ir_model.declared.instr.Instr.{Instr}
use Rattle.pass_proofs.specs.ir_model.declared.operand.Operand.{Operand}
use Rattle.pass_proofs.specs.run_memory.declared.pointer.Value.{Value}
use Rattle.pass_proofs.specs.run_step.Step.{Work}
use Rattle.pass_proofs.specs.run_step.Values.{with_value}

abbrev pub the_sum : Instr
the_sum =
    Instr.Binary 12 BinOp.Add (record { nuw = false; nsw = true; exact = false; disjoint = false }) (int 32)
    (Operand.Local 11) (Operand.Number (pos 1))

-- it gives 5
abbrev pub summed : Work
summed =
    record {
      world = (after 10).world;
      values = with_value (after 10).top.values 12 (Value.Int (record { width = 32; bits = 5 }));
    }
