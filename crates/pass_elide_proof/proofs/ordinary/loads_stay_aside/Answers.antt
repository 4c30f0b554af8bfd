use Rattle.pass_elide_proof.proofs.AsideSteps.{addresses_go, loads_go}
use Rattle.pass_elide_proof.proofs.ordinary.loads_stay_aside.Goals as goal

pub returns-clause-loads : goal.returns-clause-loads
returns-clause-loads c = λ e s t u v align ty cell loaded r at. loads_go e s t r u v align ty cell loaded at

pub returns-clause-addresses : goal.returns-clause-addresses
returns-clause-addresses c = λ e s t u v base distance r at. addresses_go e s t r u v base distance at
