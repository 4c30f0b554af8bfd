use Rattle.std.proofs.Common.{arith, ℕ}
use Rattle.ir_paths.specs.ir_model.Names.{is_local}
use Rattle.ir_paths.specs.ir_model.declared.operand.Arg.{Arg}
use Rattle.run_step.proofs.Marking.{marked-all}
use Rattle.run_step.proofs.markers.mark_locals.Goals as goal

pub returns : goal.returns
returns c = marked-all (λ (name : ℕ) (a : Arg). is_local name a.value) c.args.args.now c.loop-arg.arg-index c.args.table.now c.loop-arg.table (omega arith) c.loop-arg.invariant
