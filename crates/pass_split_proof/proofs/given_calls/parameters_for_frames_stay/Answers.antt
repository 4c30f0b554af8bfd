use Rattle.std.proofs.Common.{ℕ, subst}
use Rattle.pass_split_proof.proofs.given_calls.Unset.{given_unset, phi_other, result_other}
use Rattle.pass_split_proof.proofs.given_calls.parameters_for_frames_stay.Goals as goal
use Rattle.pass_split_proof.proofs.ready.Begins.{phi_listed}
use Rattle.pass_proofs.specs.flow_solver.Paths.{IsListed}
use Rattle.pass_proofs.proofs.ir_laws.facts.Lists.{phi_names}

pub returns-clause-part : goal.returns-clause-part
returns-clause-part c = given_unset

pub returns-clause-results : goal.returns-clause-results
returns-clause-results c = result_other

pub returns-clause-phis : goal.returns-clause-phis
returns-clause-phis c m k f begin x s base block b there p l e = phi_other m k f begin x s base block b there
    (subst (λ (n : ℕ). IsListed n (phi_names b.phis)) e (phi_listed b.phis p l))
