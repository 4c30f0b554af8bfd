use Rattle.std.proofs.Common.{◌∙◌}
use Rattle.elide_shape.proofs.Guarding.{guard_to}
use Rattle.flow_points.proofs.Tests.{if-ok}
use Rattle.elide_shape.proofs.facts.Facts.is_guard_to.Goals as goal

pub returns-in-Some : goal.returns-in-Some
returns-in-Some c =
    if-ok c.is_guard.result _ _
    (λ b e. e ∙ guard_to c.args.self.now.function.now c.args.a c.args.ways c.in-Some.ways c.position.result c.position-in-Some.result c.in-Some.is c.position.ensures c.position-in-Some.ensures)
    c.is_guard.ensures
