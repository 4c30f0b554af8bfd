use Rattle.pass_elide_proof.proofs.EdgeAsked.{asks_alone}
use Rattle.pass_elide_proof.proofs.EdgePassed.{goes_aside}
use Rattle.pass_elide_proof.proofs.edges.given_ramps_pass_by.Goals as goal

pub returns-clause-waits : goal.returns-clause-waits
returns-clause-waits c = λ e s t k label r at. asks_alone e s t r k label at

pub returns-clause-passes : goal.returns-clause-passes
returns-clause-passes c = λ e s t k label r at. goes_aside e s t r k label at
