use Rattle.std.proofs.Common.{◌∙◌, ap}
use Rattle.pass_cells.specs.Links.{climbed, unmarked}
use Rattle.pass_cells.proofs.Turns.{turn_taken}
use Rattle.pass_cells.proofs.climbing.climb.Goals as goal

pub loop-preserved : goal.loop-preserved
loop-preserved c =
    turn_taken c.args.bases.now c.args.slots.now c.loop.counter c.args.turns c.loop.marks c.set.new.self c.in-Some.id c.loop.at c.unmarked-at.result
    (climbed c.args.bases.now c.args.slots.now c.args.turns c.args.marks.now c.args.start)
    c.loop-test.true c.in-Some.is c.set.ensures
    (c.unmarked-at.ensures ∙ ap (unmarked c.args.slots.now c.set.new.self) c.entry.ensures)
    c.loop.invariant
