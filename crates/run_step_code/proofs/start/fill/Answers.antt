use Rattle.run_step_code.proofs.Globals.{filled}
use Rattle.run_step_code.proofs.start.fill.Goals as goal

pub returns : goal.returns
returns c = λ m align is e h.
    filled c.store.result c.args.memory.now c.store.new.self m c.args.block c.args.what align c.args.value c.pointer_to.result c.pointer_to.ensures is e h c.store.ensures.stored c.store.ensures.refused
