use Rattle.std.proofs.Common.{◌≡◌}
use Rattle.frame_conflicts.proofs.Order.{none_in_row}
use Rattle.frame_conflicts.proofs.Places.{no_both}
use Rattle.frame_conflicts.proofs.Suspending.{slot_told}
use Rattle.frame_conflicts.specs.Conflicts.{AliveAt}
use Rattle.frame_conflicts.proofs.suspended.push_slot.Goals as goal

pub push_suspends-requires-clause-told : goal.push_suspends-requires-clause-told
push_suspends-requires-clause-told c = slot_told c.args.function.now c.args.chunk c.args.at c.args.words.now c.requires.told c.requires.low c.requires.high (c.is_frame.ensures.0 c.if-is_frame.true)

pub returns-else-is_frame : goal.returns-else-is_frame
returns-else-is_frame c = none_in_row (AliveAt c.args.function.now) c.args.at c.args.pairs.now (λ k a. no_both c.is_frame.result (c.is_frame.ensures.1 (record { slot = a.slot; is_slot = a.is_slot })) c.if-is_frame.false) c.requires.pairs
