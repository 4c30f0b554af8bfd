use Rattle.std.proofs.Common.{◌∙◌, sym}
use Rattle.run_source.specs.State.{began_at}
use Rattle.run_source.proofs.Chains.{candidate-first, candidate-here, candidate-less, candidate-next, candidate-none, candidate-there, began-in}
use Rattle.run_source.proofs.state.Instances.last_at.Goals as goal

pub loop-candidate-init : goal.loop-candidate-init
loop-candidate-init c = candidate-first (began_at c.args.block c.args.offset) c.args.block c.args.self.now c.last_in-candidate.result c.last_in-candidate.ensures

pub returns-then-began_at-clause-number : goal.returns-then-began_at-clause-number
returns-then-began_at-clause-number c =
    candidate-here (began_at c.args.block c.args.offset) c.args.block c.args.self.now c.loop-candidate.candidate c.in-Some.i c.in-Some-get.instance.now (began-in c.args.block c.args.offset) c.loop-candidate.invariant c.in-Some.is c.in-Some-get.ensures (sym c.began_at.ensures ∙ c.if-began_at.true)

pub loop-candidate-preserved : goal.loop-candidate-preserved
loop-candidate-preserved c =
    candidate-next (began_at c.args.block c.args.offset) c.args.block c.args.self.now c.loop-candidate.candidate c.before-candidate.result c.in-Some.i c.in-Some-get.instance.now (began-in c.args.block c.args.offset) c.loop-candidate.invariant c.in-Some.is c.in-Some-get.ensures (sym c.began_at.ensures ∙ c.if-began_at.false) (c.before-candidate.ensures c.in-Some-get.instance.now c.in-Some-get.ensures)

pub loop-candidate-smaller : goal.loop-candidate-smaller
loop-candidate-smaller c =
    candidate-less (began_at c.args.block c.args.offset) c.args.block c.args.self.now c.loop-candidate.candidate c.before-candidate.result c.in-Some.i c.in-Some-get.instance.now c.loop-candidate.invariant c.in-Some.is c.in-Some-get.ensures (c.before-candidate.ensures c.in-Some-get.instance.now c.in-Some-get.ensures)

pub returns-in_default-get-clause-number : goal.returns-in_default-get-clause-number
returns-in_default-get-clause-number c = absurd (candidate-there (began_at c.args.block c.args.offset) c.args.block c.args.self.now c.loop-candidate.candidate c.in-Some.i c.loop-candidate.invariant c.in-Some.is (c.in_default-get.ensures {u = tt}))

pub returns-clause-number : goal.returns-clause-number
returns-clause-number c = candidate-none (began_at c.args.block c.args.offset) c.args.block c.args.self.now c.loop-candidate.candidate (began-in c.args.block c.args.offset) c.loop-candidate.invariant c.in_default.is
