use Rattle.elide_sites.proofs.Flags.{flags_at}
use Rattle.elide_sites.proofs.elidable.flags_of.Goals as goal

pub loop-at-preserved : goal.loop-at-preserved
loop-at-preserved c =
    flags_at c.args.module.now c.as_slice-functions.result.now c.loop-at.at c.index-functions-at.result c.loop-at.flags c.push.new.self c.in_ok-is_elidable.field-0
    c.as_slice-functions.ensures c.loop-at-test.true c.index-functions-at.is c.in_ok-is_elidable.ensures c.in_ok-push.ensures.ok c.loop-at.invariant
