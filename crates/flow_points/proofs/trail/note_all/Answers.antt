use Rattle.std.proofs.Common.{get_or, arith}
use Rattle.flow_points.proofs.Tests.{no_point, read-again}
use Rattle.flow_points.proofs.Growing.{next-inside, noted-all, noted-more, noted-none}
use Rattle.flow_points.proofs.trail.note_all.Goals as goal

pub loop-point-init : goal.loop-point-init
loop-point-init c = noted-none c.args.marks.now c.args.found.now.items c.requires.marked

pub note-requires-clause-inside : goal.note-requires-clause-inside
note-requires-clause-inside c = next-inside c.args.points.now c.loop-point.point-index (get_or c.args.points.now c.loop-point.point-index no_point) c.args.marks.now c.loop-point.marks (omega arith) (read-again c.args.points.now c.loop-point.point-index no_point c.loop-point-test.true) c.loop-point.invariant.sizes c.requires.inside

pub note-requires-clause-marked : goal.note-requires-clause-marked
note-requires-clause-marked c = c.loop-point.invariant.marked

pub loop-point-preserved : goal.loop-point-preserved
loop-point-preserved c =
    noted-more c.args.points.now c.loop-point.point-index (get_or c.args.points.now c.loop-point.point-index no_point) c.args.marks.now c.args.found.now.items c.loop-point.marks c.loop-point.found.items c.note.new.marks c.note.new.found.items
    (omega arith) (read-again c.args.points.now c.loop-point.point-index no_point c.loop-point-test.true) c.loop-point.invariant c.in_ok-note.ensures

pub returns : goal.returns
returns c = noted-all c.args.points.now c.loop-point.point-index c.args.marks.now c.args.found.now.items c.loop-point.marks c.loop-point.found.items (omega arith) c.loop-point.invariant
