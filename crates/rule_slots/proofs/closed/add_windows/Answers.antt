use Rattle.rule_slots.proofs.Windows.{windows_step}
use Rattle.rule_slots.proofs.closed.add_windows.Goals as goal

pub loop-save-preserved : goal.loop-save-preserved
loop-save-preserved c =
    record {
      graph = c.in_ok-add_window.ensures.kept;
      rest = windows_step c.args.function.now c.args.saves.now c.loop-save.save-index _ c.args.set.now c.loop-save.set c.add_window.new.set c.loop-save-test.true c.in_ok-add_window.ensures.window c.loop-save.invariant.rest;
    }
