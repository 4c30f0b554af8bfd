use Rattle.rule_values.proofs.Parts.{stops, goes}
use Rattle.std.proofs.Common.{Some}
use Rattle.rule_values.specs.Geps.{leads_in}
use Rattle.rule_values.proofs.geps.leads_in.Goals as goal

pub returns-in-None : goal.returns-in-None
returns-in-None c =
    let m = c.args.names.now.source.now in
    stops m c.loop-arg.inside.now c.unnamed.result.now c.args.indices.now c.loop-arg.arg-index c.arg-item.result (leads_in m (Some c.args.ty.now) c.args.indices.now) c.loop-arg-test.true c.arg-item.is c.unnamed.ensures c.in-None.ensures c.loop-arg.invariant

pub loop-arg-preserved : goal.loop-arg-preserved
loop-arg-preserved c =
    let m = c.args.names.now.source.now in
    goes m c.loop-arg.inside.now c.unnamed.result.now c.in-Some.part.now c.args.indices.now c.loop-arg.arg-index c.arg-item.result (leads_in m (Some c.args.ty.now) c.args.indices.now) c.loop-arg-test.true c.arg-item.is c.unnamed.ensures c.in-Some.ensures c.loop-arg.invariant
