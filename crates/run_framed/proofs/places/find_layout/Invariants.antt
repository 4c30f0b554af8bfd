use Rattle.std.proofs.Common.{◌≡◌, drop}
use Rattle.std.specs.Prelude.{find, ◌==◌}
use Rattle.run_framed.proofs.places.find_layout.Given as goal

abbrev pub invariant-loop-layout : goal.invariant-loop-layout
invariant-loop-layout l = find (λ x. x.coroutine == l.func) l.layouts ≡ find (λ x. x.coroutine == l.func) (drop l.layout-index l.layouts)
