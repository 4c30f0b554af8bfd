use Rattle.std.proofs.Common.{◌≡◌, ◌++◌, drop, map}
use Rattle.rule_window_values.proofs.spans.add_phis.Given as goal

abbrev pub invariant-loop-phi : goal.invariant-loop-phi
invariant-loop-phi l = l.values ++ map (λ p. p.result) (drop l.phi-index l.phis) ≡ l.initial.values ++ map (λ p. p.result) l.phis
