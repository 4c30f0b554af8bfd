use Rattle.std.proofs.Common.{◌≡◌, drop}
use Rattle.std.specs.Prelude.{filter}
use Rattle.std.specs.List.{list_all}
use Rattle.ir_paths.specs.Windows.{leaves}
use Rattle.run_source.specs.Source.{may_leave}
use Rattle.run_source.proofs.blocks.may_leave_all.Given as goal

abbrev pub invariant-loop-window : goal.invariant-loop-window
invariant-loop-window l =
    list_all (λ w. may_leave l.depth l.instance w) (filter (λ w. leaves l.p l.q w) l.windows)
    ≡ list_all (λ w. may_leave l.depth l.instance w) (filter (λ w. leaves l.p l.q w) (drop l.window-index l.windows))
