use Rattle.std.proofs.Common.{◌≡◌, drop}
use Rattle.std.specs.Prelude.{filter}
use Rattle.ir_paths.specs.Windows.{leaves}
use Rattle.run_source_tables.specs.Lookups.{not_empty}
use Rattle.run_source.proofs.blocks.leaves_any.Given as goal

abbrev pub invariant-loop-window : goal.invariant-loop-window
invariant-loop-window l = not_empty (filter (λ w. leaves l.p l.q w) l.windows) ≡ not_empty (filter (λ w. leaves l.p l.q w) (drop l.window-index l.windows))
