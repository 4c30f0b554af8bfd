use Rattle.std.proofs.Common.{◌≡◌, ℕ, take}
use Rattle.std.specs.Prelude.{◌==◌}
use Rattle.indexmap.specs.IndexMap.{get}
use Rattle.ir_model.specs.Names.{first_where}
use Rattle.pass_edges.proofs.operands.positions_of.Given as goal

abbrev pub invariant-loop-at : goal.invariant-loop-at
invariant-loop-at l = (n : ℕ) → get ◌==◌ l.positions n ≡ first_where (λ i. i.from == n) (take l.at l.incoming)
