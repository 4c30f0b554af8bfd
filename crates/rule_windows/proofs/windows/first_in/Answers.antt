use Rattle.rule_windows.proofs.Between.{first_step}
use Rattle.rule_windows.proofs.windows.first_in.Goals as goal

pub loop-save-preserved : goal.loop-save-preserved
loop-save-preserved c =
    record {
      graph = c.in_ok-breaks_window.ensures.kept;
      rest = first_step c.args.func c.args.function.now c.args.saves.now c.loop-save.save-index _ c.in_ok-breaks_window.field-0 c.loop-save-test.true c.in_ok-breaks_window.ensures.breaks c.if-branch.false c.loop-save.invariant.rest;
    }
