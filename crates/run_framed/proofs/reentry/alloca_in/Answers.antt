use Rattle.std.proofs.Common.{◌∙◌, sym, arith}
use Rattle.run_framed.proofs.Allocas.{alloca-found, alloca-next, alloca-none}
use Rattle.run_framed.proofs.reentry.alloca_in.Goals as goal

pub loop-at-preserved : goal.loop-at-preserved
loop-at-preserved c = alloca-next c.args.instrs.now c.args.from c.loop-at.at c.index-instrs-at.result (omega (arith, c.loop-at-test.true)) c.index-instrs-at.is c.loop-at.invariant (sym c.is_alloca.ensures ∙ c.if-is_alloca.false)

pub returns-then-is_alloca : goal.returns-then-is_alloca
returns-then-is_alloca c = alloca-found c.args.instrs.now c.args.from c.loop-at.at c.index-instrs-at.result (omega (arith, c.loop-at-test.true)) c.index-instrs-at.is c.loop-at.invariant (sym c.is_alloca.ensures ∙ c.if-is_alloca.true)

pub returns : goal.returns
returns c = alloca-none c.args.instrs.now c.args.from c.loop-at.at (omega (arith, c.loop-at-test.false)) c.loop-at.invariant
