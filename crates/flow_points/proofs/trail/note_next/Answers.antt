use Rattle.std.proofs.Common.{ap, arith, ◌∙◌}
use Rattle.ir_paths.specs.Paths.{has_point, nexts}
use Rattle.ir_paths.specs.declared.point.Point.{Point}
use Rattle.std.proofs.Common.{List}
use Rattle.flow_points.proofs.Growing.{grown-by}
use Rattle.flow_points.proofs.Neighbours.{forward-term, inside-point, row-inside}
use Rattle.flow_points.proofs.Tests.{on-ok}
use Rattle.flow_points.proofs.trail.note_next.Goals as goal

pub note-requires-clause-inside : goal.note-requires-clause-inside
note-requires-clause-inside c = let len = c.len.ensures in let lt = c.if-point-len.true in inside-point c.args.function.now c.args.marks.now _ c.in-Some.block.now c.requires.sizes c.in-Some.ensures (omega (arith, len, lt))

pub note_all-requires-clause-inside : goal.note_all-requires-clause-inside
note_all-requires-clause-inside c =
    row-inside c.args.function.now c.args.point c.args.marks.now c.row_of.result.now c.requires.sizes
    (forward-term c.args.function.now c.args.point c.in-Some.block.now c.args.edges.now.outgoing c.row_of.result.now c.in-Some.ensures (c.if-point-len-2.true ∙ c.len-else-point-len.ensures) c.requires.outgoing c.row_of.ensures)

pub returns-then-point-len-2 : goal.returns-then-point-len-2
returns-then-point-len-2 c =
    on-ok c.note_all.result _ _
    (grown-by (has_point c.row_of.result.now) (has_point (nexts c.args.function.now c.args.point)) c.args.marks.now c.args.found.now.items c.note_all.new.marks c.note_all.new.found.items
    (λ q. ap (λ (l : List Point). has_point l q)
    (forward-term c.args.function.now c.args.point c.in-Some.block.now c.args.edges.now.outgoing c.row_of.result.now c.in-Some.ensures (c.if-point-len-2.true ∙ c.len-else-point-len.ensures) c.requires.outgoing c.row_of.ensures)))
    c.note_all.ensures
