use Rattle.std.proofs.Common.{subst}
use Rattle.std.specs.Prelude.{Option}
use Rattle.flow_points.specs.ir_paths.declared.point.Point.{Point}
use Rattle.rule_windows.proofs.Between.{breaks_some}
use Rattle.rule_windows.specs.Windows.{IsOnly, suspends_of}
use Rattle.rule_windows.proofs.windows.breaks_window.Goals as goal

pub returns-in_ok-wrong-in-Some-clause-breaks : goal.returns-in_ok-wrong-in-Some-clause-breaks
returns-in_ok-wrong-in-Some-clause-breaks c =
    breaks_some c.args.function.now c.args.save c.in-Some.suspend c.in_ok-wrong-in-Some.wrong
    (subst (λ (o : Option Point). IsOnly (suspends_of c.args.function.now c.args.save) o) c.in-Some.is c.in_ok-only_suspend.ensures)
    c.in_ok-wrong-in-Some.ensures.wrong
