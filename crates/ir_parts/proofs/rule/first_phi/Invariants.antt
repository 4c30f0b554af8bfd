use Rattle.std.proofs.Common.{◌≡◌, drop}
use Rattle.ir_parts.specs.Parts.{phi_parts, first_part}
use Rattle.ir_parts.proofs.rule.first_phi.Given as goal

abbrev pub invariant-loop-phi : goal.invariant-loop-phi
invariant-loop-phi g l = first_part (g.R.FunctionRule.breaks l.rule) (phi_parts l.func l.block 0 l.phis) ≡ first_part (g.R.FunctionRule.breaks l.rule) (phi_parts l.func l.block l.at (drop l.phi-index l.phis))
