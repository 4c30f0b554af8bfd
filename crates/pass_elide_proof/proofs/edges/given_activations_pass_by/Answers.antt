use Rattle.pass_elide_proof.proofs.EdgeFreed.{frees_aside, frees_straight}
use Rattle.pass_elide_proof.proofs.EdgeTested.{tests_alone}
use Rattle.pass_elide_proof.proofs.edges.given_activations_pass_by.Goals as goal

pub returns-clause-waits : goal.returns-clause-waits
returns-clause-waits c = λ e s t k label r at. tests_alone e s t r k label at

pub returns-clause-aside : goal.returns-clause-aside
returns-clause-aside c = λ e s t k label r at x. frees_aside e s t r k label at x

pub returns-clause-straight : goal.returns-clause-straight
returns-clause-straight c = λ e s t k label r at same. frees_straight e s t r k label at same
