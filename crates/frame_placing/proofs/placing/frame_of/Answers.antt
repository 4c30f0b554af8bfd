use Rattle.std.proofs.Common.{List, ℕ, ◌<◌, length, ap, arith}
use Rattle.frame_placing.specs.Ends.{end_of}
use Rattle.frame_placing.proofs.Greatest.{end_within}
use Rattle.frame_placing.proofs.Rounding.{alignment_within, rounded_below}
use Rattle.frame_placing.proofs.placing.frame_of.Goals as goal

pub next_multiple_of-size-requires-clause-fits : goal.next_multiple_of-size-requires-clause-fits
next_multiple_of-size-requires-clause-fits c =
    let align = alignment_within c.args.rooms.now in
    let is_align = c.frame_alignment-align.ensures in
    let pos : 0 < c.frame_alignment-align.result = omega (arith, align.0, is_align) in
    let below = rounded_below c.end_of-end.result c.frame_alignment-align.result pos in
    let end = end_within c.args.rooms.now c.args.offsets 16777216 (length c.args.rooms.now) (omega arith) c.requires.fit in
    let is = c.end_of-end.ensures in
    let same = ap (λ (o : List ℕ). end_of c.args.rooms.now o) c.as_slice.ensures in
    let top = align.1 in
    omega (arith, below, end, is, same, top, is_align)
