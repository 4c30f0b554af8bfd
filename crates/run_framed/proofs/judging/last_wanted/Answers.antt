use Rattle.std.proofs.Common.{◌∙◌, sym}
use Rattle.run_source.proofs.Chains.{candidate-first, candidate-here, candidate-less, candidate-next, candidate-none, candidate-there}
use Rattle.run_framed.proofs.Wanting.{of-block}
use Rattle.run_framed.proofs.judging.last_wanted.Goals as goal
use Rattle.run_framed.specs.FramedEffects.{fits, framed_of}

pub loop-candidate-init : goal.loop-candidate-init
loop-candidate-init c = candidate-first (fits (framed_of c.args.program.now) c.args.block c.args.wanted) c.args.block c.args.instances.now c.last_in-candidate.result c.last_in-candidate.ensures

pub returns-then-fits : goal.returns-then-fits
returns-then-fits c =
    let g = framed_of c.args.program.now in
    candidate-here (fits g c.args.block c.args.wanted) c.args.block c.args.instances.now c.loop-candidate.candidate c.in-Some.i c.in-Some-get.instance.now (of-block g c.args.block c.args.wanted) c.loop-candidate.invariant c.in-Some.is c.in-Some-get.ensures (sym c.fits.ensures ∙ c.if-fits.true)

pub loop-candidate-preserved : goal.loop-candidate-preserved
loop-candidate-preserved c =
    let g = framed_of c.args.program.now in
    candidate-next (fits g c.args.block c.args.wanted) c.args.block c.args.instances.now c.loop-candidate.candidate c.before-candidate.result c.in-Some.i c.in-Some-get.instance.now (of-block g c.args.block c.args.wanted) c.loop-candidate.invariant c.in-Some.is c.in-Some-get.ensures (sym c.fits.ensures ∙ c.if-fits.false) (c.before-candidate.ensures c.in-Some-get.instance.now c.in-Some-get.ensures)

pub loop-candidate-smaller : goal.loop-candidate-smaller
loop-candidate-smaller c =
    let g = framed_of c.args.program.now in
    candidate-less (fits g c.args.block c.args.wanted) c.args.block c.args.instances.now c.loop-candidate.candidate c.before-candidate.result c.in-Some.i c.in-Some-get.instance.now c.loop-candidate.invariant c.in-Some.is c.in-Some-get.ensures (c.before-candidate.ensures c.in-Some-get.instance.now c.in-Some-get.ensures)

pub returns-in_default-get : goal.returns-in_default-get
returns-in_default-get c = absurd (candidate-there (fits (framed_of c.args.program.now) c.args.block c.args.wanted) c.args.block c.args.instances.now c.loop-candidate.candidate c.in-Some.i c.loop-candidate.invariant c.in-Some.is (c.in_default-get.ensures {u = tt}))

pub returns : goal.returns
returns c =
    let g = framed_of c.args.program.now in
    candidate-none (fits g c.args.block c.args.wanted) c.args.block c.args.instances.now c.loop-candidate.candidate (of-block g c.args.block c.args.wanted) c.loop-candidate.invariant c.in_default.is
