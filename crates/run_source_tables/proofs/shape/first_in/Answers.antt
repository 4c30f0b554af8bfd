use Rattle.std.proofs.Common.{◌∙◌, sym, arith}
use Rattle.ir_model.specs.declared.instr.Instr.{Instr}
use Rattle.run_source_tables.specs.Lookups.{sought}
use Rattle.run_source_tables.proofs.Walks.{first-here, first-next, first-never}
use Rattle.run_source_tables.proofs.shape.first_in.Goals as goal

pub returns-then-is_sought : goal.returns-then-is_sought
returns-then-is_sought c = sym (first-here (λ (i : Instr). sought c.args.what i) c.args.instrs.now c.loop-at.at c.index-instrs-at.result c.loop-at-test.true c.index-instrs-at.is c.loop-at.invariant (sym c.is_sought.ensures ∙ c.if-is_sought.true))

pub loop-at-preserved : goal.loop-at-preserved
loop-at-preserved c = first-next (λ (i : Instr). sought c.args.what i) c.args.instrs.now c.loop-at.at c.index-instrs-at.result c.loop-at-test.true c.index-instrs-at.is c.loop-at.invariant (sym c.is_sought.ensures ∙ c.if-is_sought.false)

pub returns : goal.returns
returns c = sym (first-never (λ (i : Instr). sought c.args.what i) c.args.instrs.now c.loop-at.at (omega arith) c.loop-at.invariant)
