use Rattle.std.proofs.Common.{◌∙◌, ap, refl}
use Rattle.std.specs.Prelude.{bit_and, bit_xor}
use Rattle.frame_classes.specs.flow_reach.Rows.{all_bits}
use Rattle.frame_conflicts.proofs.Chunks.{chunk_tells}
use Rattle.frame_conflicts.specs.Meeting.{spots_from}
use Rattle.frame_conflicts.proofs.facts.chunk_facts.Goals as goal

pub returns : goal.returns
returns c = chunk_tells c.args.function.now c.args.looked.now c.args.slots.now c.in_ok-here.here.rows c.in_ok-here.here.marked c.in_ok-early.early (bit_and c.in_ok-here.here.marked (bit_xor c.in_ok-early.early all_bits)) c.in_ok-seen.seen c.in_ok-spots.spots
    c.requires.looked c.in_ok-here.ensures.rows c.in_ok-here.ensures.marked c.in_ok-early.ensures refl c.in_ok-seen.ensures (c.in_ok-spots.ensures ∙ ap (spots_from 0) c.as_slice.ensures)
