use Rattle.std.proofs.Common.{arith, ℕ}
use Rattle.std.specs.Prelude.{◌==◌}
use Rattle.std.specs.List.{list_any}
use Rattle.run_step.proofs.Marking.{marked-all, marked-more}
use Rattle.run_source_tables.proofs.table.mark_names.Goals as goal

pub returns : goal.returns
returns c = marked-all (λ (n : ℕ) (a : ℕ). n == a) c.args.names.now c.loop-name.name-index c.args.table.now c.loop-name.table (omega arith) c.loop-name.invariant
