use Rattle.std.proofs.Common.{arith, false, refl, ◌-◌}
use Rattle.ir_paths.specs.Paths.{has_point, nexts, same_point}
use Rattle.ir_paths.specs.declared.point.Point.{Point}
use Rattle.flow_points.proofs.Growing.{grown-by, grown-none}
use Rattle.flow_points.proofs.Neighbours.{backward-entry, backward-inner, backward-none, backward-past, inside-point, sources-inside}
use Rattle.flow_points.proofs.Tests.{on-ok}
use Rattle.flow_points.proofs.trail.note_previous.Goals as goal

pub note_all-requires-clause-inside : goal.note_all-requires-clause-inside
note_all-requires-clause-inside c =
    sources-inside c.args.function.now c.args.point c.args.marks.now c.row_of.result.now c.requires.sizes
    (backward-entry c.args.function.now c.args.point c.args.edges.now.incoming c.row_of.result.now c.if-point-eq0.true c.requires.incoming c.row_of.ensures)

pub returns-then-point-eq0 : goal.returns-then-point-eq0
returns-then-point-eq0 c =
    on-ok c.note_all.result _ _
    (grown-by (has_point c.row_of.result.now) (λ (q : Point). has_point (nexts c.args.function.now q) c.args.point) c.args.marks.now c.args.found.now.items c.note_all.new.marks c.note_all.new.found.items
    (backward-entry c.args.function.now c.args.point c.args.edges.now.incoming c.row_of.result.now c.if-point-eq0.true c.requires.incoming c.row_of.ensures))
    c.note_all.ensures

pub note-requires-clause-inside : goal.note-requires-clause-inside
note-requires-clause-inside c = let len = c.len.ensures in let le = c.if-point-len.true in inside-point c.args.function.now c.args.marks.now _ c.in-Some.block.now c.requires.sizes c.in-Some.ensures (omega (arith, len, le))

pub returns-in-None : goal.returns-in-None
returns-in-None c =
    grown-by (λ (q : Point). false) (λ (q : Point). has_point (nexts c.args.function.now q) c.args.point) c.args.marks.now c.args.found.now.items c.args.marks.now c.args.found.now.items
    (backward-none c.args.function.now c.args.point (let ne = c.if-point-eq0.false in omega (arith, ne)) c.in-None.ensures)
    (grown-none c.args.marks.now c.args.found.now.items c.requires.marked)

pub returns-then-point-len : goal.returns-then-point-len
returns-then-point-len c =
    on-ok c.note.result _ _
    (grown-by (λ (q : Point). same_point q (record { block = c.args.point.block; at = c.args.point.at - 1 })) (λ (q : Point). has_point (nexts c.args.function.now q) c.args.point) c.args.marks.now c.args.found.now.items c.note.new.marks c.note.new.found.items
    (backward-inner c.args.function.now c.args.point (record { block = c.args.point.block; at = c.args.point.at - 1 }) c.in-Some.block.now c.in-Some.ensures (let ne = c.if-point-eq0.false in omega (arith, ne)) (let len = c.len.ensures in let le = c.if-point-len.true in omega (arith, len, le)) refl))
    c.note.ensures

pub returns-else-point-len : goal.returns-else-point-len
returns-else-point-len c =
    grown-by (λ (q : Point). false) (λ (q : Point). has_point (nexts c.args.function.now q) c.args.point) c.args.marks.now c.args.found.now.items c.args.marks.now c.args.found.now.items
    (backward-past c.args.function.now c.args.point c.in-Some.block.now c.in-Some.ensures (let len = c.len.ensures in let le = c.if-point-len.false in omega (arith, len, le)))
    (grown-none c.args.marks.now c.args.found.now.items c.requires.marked)
