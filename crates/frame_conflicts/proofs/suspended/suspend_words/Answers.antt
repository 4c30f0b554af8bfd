use Rattle.std.proofs.Common.{refl}
use Rattle.frame_conflicts.proofs.Suspending.{suspends_told}
use Rattle.frame_conflicts.proofs.suspended.suspend_words.Goals as goal

pub returns : goal.returns
returns c = suspends_told c.args.function.now c.args.slots.now c.in_ok-here.here.rows c.in_ok-here.here.marked c.args.behind.now c.in_ok-here.ensures.rows c.in_ok-here.ensures.marked c.requires.behind c.args.suspends.now c.in_ok-words.words.items c.requires.suspends c.in_ok-words.ensures
