use Rattle.std.proofs.Common.{◌≡◌, ◌∙◌}
use Rattle.frame_conflicts.proofs.Order.{none_in_row}
use Rattle.frame_conflicts.proofs.Parting.{first_loose}
use Rattle.frame_conflicts.proofs.Places.{no_both}
use Rattle.frame_conflicts.specs.Parts.{NarrowAt}
use Rattle.frame_conflicts.proofs.parts.push_slot.Goals as goal

pub returns-else-is_frame : goal.returns-else-is_frame
returns-else-is_frame c = none_in_row (NarrowAt c.args.function.now) c.args.one c.args.pairs.now (λ k h. no_both c.is_frame.result (c.is_frame.ensures.1 (record { slot = h.one; is_slot = h.is_one })) c.if-is_frame.false) c.requires.pairs

pub returns-else-is_loose : goal.returns-else-is_loose
returns-else-is_loose c =
    none_in_row (NarrowAt c.args.function.now) c.args.one c.args.pairs.now (λ k h. no_both c.is_loose.result (c.is_loose.ensures ∙ first_loose c.args.function.now c.args.known.now c.requires.known c.args.one k h) c.if-is_loose.false) c.requires.pairs
