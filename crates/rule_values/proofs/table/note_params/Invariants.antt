use Rattle.std.proofs.Common.{◌≡◌, ℕ, drop}
use Rattle.ir_locals.specs.Tables.{first_in, noted, or_first}
use Rattle.rule_values.specs.Kinds.{param_kind}
use Rattle.rule_values.proofs.table.note_params.Given as goal

abbrev pub invariant-loop-param : goal.invariant-loop-param
invariant-loop-param l = (n : ℕ) → or_first (noted l.table n) (first_in param_kind (drop l.param-index l.params) n) ≡ or_first (noted l.initial.table n) (first_in param_kind l.params n)
