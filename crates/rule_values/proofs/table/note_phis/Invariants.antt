use Rattle.std.proofs.Common.{◌≡◌, ℕ, drop}
use Rattle.ir_locals.specs.Tables.{first_in, noted, or_first}
use Rattle.rule_values.specs.Kinds.{phi_kind}
use Rattle.rule_values.proofs.table.note_phis.Given as goal

abbrev pub invariant-loop-phi : goal.invariant-loop-phi
invariant-loop-phi l = (n : ℕ) → or_first (noted l.table n) (first_in phi_kind (drop l.phi-index l.phis) n) ≡ or_first (noted l.initial.table n) (first_in phi_kind l.phis n)
