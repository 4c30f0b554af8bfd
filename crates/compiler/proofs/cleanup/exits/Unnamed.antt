-- With blocks on the edges that leave windows a function names no further coro intrinsic, and its frame is as small.
use Rattle.std.proofs.Common.{List, refl, ap, ◌∙◌}
use Rattle.pass_proofs.specs.ir_parts.Parts.{Ending}
use Rattle.ir_model.specs.declared.module.Function.{Function}
use Rattle.ir_model.specs.declared.operand.Operand.{Operand}
use Rattle.std.specs.List.{list_all}
use Rattle.compiler.proofs.cleanup.unnamed_intrinsics.Early.{named_by, operands_free}
use Rattle.compiler.specs.cleanup.unnamed_intrinsics.Unnamed.{is_no_intrinsic, names_intrinsic}
use Rattle.pass_proofs.specs.pass_exits.ExitBlocks.{exit_term, with_exit_blocks}
use Rattle.pass_proofs.proofs.rule_laws.rules.threaded.Carried.{Carries}
use Rattle.pass_proofs.proofs.exits.rules.Operands.{ending_operands_same}
use Rattle.pass_proofs.proofs.exits.rules.Places.{own_number}
use Rattle.pass_proofs.proofs.exits.rules.Threaded.{moves}

pub unnamed_carried : (f : Function) → Carries f (with_exit_blocks f) (moves f) names_intrinsic names_intrinsic
unnamed_carried f = record {
  signature = λ p e. refl;
  head = λ q c. refl;
  phi = λ p q k b j x there stands e. e;
  instr = λ p q i alike e. e;
  ending = λ p q k b there e.
      named_by q (Ending (exit_term f k (own_number f k) b.term))
      (ap (λ (xs : List Operand). list_all is_no_intrinsic xs) (ending_operands_same f k (own_number f k) b.term) ∙ operands_free p (Ending b.term) e) refl;
  over = λ q k b u there l. refl;
}
