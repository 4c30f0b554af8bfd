use Rattle.std.proofs.Common.{◌≡◌, ℕ, take}
use Rattle.std.specs.Prelude.{◌==◌}
use Rattle.indexmap.specs.IndexMap.{get}
use Rattle.ir_model.specs.Names.{first_where}
use Rattle.rule_phis.proofs.numbers.numbers_of.Given as goal

abbrev pub invariant-loop-at : goal.invariant-loop-at
invariant-loop-at g l = (n : ℕ) → get ◌==◌ l.table n ≡ first_where (λ x. g.T.Numbered.numbered x == n) (take l.at l.items)
