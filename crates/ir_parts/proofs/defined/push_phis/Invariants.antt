use Rattle.std.proofs.Common.{◌≡◌, ◌++◌, drop, map}
use Rattle.ir_parts.specs.Locals.{locals_in}
use Rattle.ir_parts.specs.Parts.{phi_parts}
use Rattle.ir_parts.proofs.defined.push_phis.Given as goal

abbrev pub invariant-loop-phi : goal.invariant-loop-phi
invariant-loop-phi l = l.all ++ locals_in (phi_parts l.func l.block l.at (drop l.phi-index l.phis)) ≡ l.initial.all ++ locals_in (phi_parts l.func l.block 0 l.phis)
