use Rattle.std.proofs.Common.{arith, ℕ}
use Rattle.std.specs.Prelude.{◌==◌}
use Rattle.std.specs.List.{list_any}
use Rattle.ir_paths.specs.declared.point.Window.{Window}
use Rattle.run_step.proofs.Marking.{marked-all, marked-more}
use Rattle.run_source_tables.proofs.table.mark_windows.Goals as goal

pub returns : goal.returns
returns c = marked-all (λ (n : ℕ) (w : Window). list_any (λ p. n == p.block) w.inside) c.args.windows.now c.loop-window.window-index c.args.table.now c.loop-window.table (omega arith) c.loop-window.invariant
