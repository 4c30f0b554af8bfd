use Rattle.std.proofs.Common.{◌≡◌, drop}
use Rattle.std.specs.Prelude.{◌==◌}
use Rattle.std.specs.List.{list_any}
use Rattle.run_source_tables.proofs.program.has_value.Given as goal

abbrev pub invariant-loop-value : goal.invariant-loop-value
invariant-loop-value l = list_any (λ a. a == l.name) l.values ≡ list_any (λ a. a == l.name) (drop l.value-index l.values)
