use Rattle.std.proofs.Common.{◌≡◌, take, None}
use Rattle.ir_model.specs.Names.{first_where}
use Rattle.run_source_tables.specs.Lookups.{sought}
use Rattle.run_source_tables.proofs.shape.first_in.Given as goal

abbrev pub invariant-loop-at : goal.invariant-loop-at
invariant-loop-at l = first_where (λ i. sought l.what i) (take l.at l.instrs) ≡ None
