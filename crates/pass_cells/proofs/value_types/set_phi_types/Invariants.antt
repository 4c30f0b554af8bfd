use Rattle.std.proofs.Common.{◌≡◌, drop}
use Rattle.pass_cells.specs.Kept.{with_phi_types}
use Rattle.pass_cells.proofs.value_types.set_phi_types.Given as goal

abbrev pub invariant-loop-phi : goal.invariant-loop-phi
invariant-loop-phi l = with_phi_types l.places l.types (drop l.phi-index l.phis) ≡ with_phi_types l.places l.initial.types l.phis
