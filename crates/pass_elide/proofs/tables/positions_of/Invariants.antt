use Rattle.std.proofs.Common.{◌≡◌, ℕ, take}
use Rattle.std.specs.Prelude.{◌==◌}
use Rattle.indexmap.specs.IndexMap.{get}
use Rattle.ir_model.specs.Names.{first_where}
use Rattle.pass_elide.proofs.tables.positions_of.Given as goal

abbrev pub invariant-loop-at : goal.invariant-loop-at
invariant-loop-at l = (n : ℕ) → get ◌==◌ l.positions n ≡ first_where (λ x. x.coroutine == n) (take l.at l.layouts)
