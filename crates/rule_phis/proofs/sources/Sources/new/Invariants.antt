use Rattle.std.proofs.Common.{◌≡◌, ℕ, []}
use Rattle.std.specs.Prelude.{slice_get, unwrap_or}
use Rattle.rule_phis.proofs.sources.Sources.new.Given as goal

abbrev pub invariant-loop-at : goal.invariant-loop-at
invariant-loop-at l = (k : ℕ) → unwrap_or (slice_get l.lists.items k) [] ≡ []
