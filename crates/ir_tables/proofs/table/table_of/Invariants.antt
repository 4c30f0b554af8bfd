use Rattle.std.proofs.Common.{◌≡◌, take}
use Rattle.ir_model.specs.ir_base.declared.name.Name.{Name}
use Rattle.indexmap.specs.IndexMap.{get}
use Rattle.ir_model.specs.Names.{first_where, same_name}
use Rattle.ir_tables.proofs.table.table_of.Given as goal

abbrev pub invariant-loop-at : goal.invariant-loop-at
invariant-loop-at g l = (n : Name) → get same_name l.table n ≡ first_where (λ x. same_name (g.T.Named.called x) n) (take l.at l.items)
