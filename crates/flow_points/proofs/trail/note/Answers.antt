use Rattle.std.proofs.Common.{sym, ◌∙◌}
use Rattle.flow_points.proofs.Growing.{grown-new}
use Rattle.flow_points.proofs.trail.note.Goals as goal

pub returns-in_ok-push : goal.returns-in_ok-push
returns-in_ok-push c =
    grown-new c.args.point c.args.marks.now c.args.found.now.items c.set.new.self c.push.new.self.items c.requires.inside c.requires.marked
    (sym c.has.ensures ∙ c.if-not-has.true) c.set.ensures c.in_ok-push.ensures.items
