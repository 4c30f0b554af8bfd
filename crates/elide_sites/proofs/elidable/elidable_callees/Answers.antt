use Rattle.std.proofs.Common.{[], subst, sym}
use Rattle.elide_sites.proofs.Flags.{callee_step, callees_all}
use Rattle.elide_sites.specs.Chosen.{AreChosen}
use Rattle.elide_sites.specs.Chosen.AreChosen.{Nothing}
use Rattle.elide_sites.specs.Elidable.{IsElidable}
use Rattle.ir_model.specs.Names.{function_at}
use Rattle.elide_sites.proofs.elidable.elidable_callees.Goals as goal

pub loop-at-init : goal.loop-at-init
loop-at-init c = subst (AreChosen (λ g. IsElidable (function_at c.args.module.now g)) []) (sym c.new-all.ensures) Nothing

pub loop-at-preserved : goal.loop-at-preserved
loop-at-preserved c =
    callee_step c.args.module.now c.in_ok-flags.flags c.as_slice-flags.result.now c.loop-at.at _ c.loop-at.all c.push_if.new.all c.in_ok-flags.ensures c.as_slice-flags.ensures c.loop-at-test.true c.in_ok-push_if.ensures c.loop-at.invariant

pub returns : goal.returns
returns c =
    callees_all c.args.module.now c.in_ok-flags.flags c.as_slice-flags.result.now c.loop-at.at c.loop-at.all c.in_ok-flags.ensures c.as_slice-flags.ensures c.loop-at.auto.at-end c.loop-at-test.false c.loop-at.invariant
