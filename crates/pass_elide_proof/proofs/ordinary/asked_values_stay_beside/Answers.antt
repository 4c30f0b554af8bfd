use Rattle.pass_elide_proof.proofs.AskingSteps.{asked_stay_beside, asking_goes}
use Rattle.pass_elide_proof.proofs.ordinary.asked_values_stay_beside.Goals as goal

pub returns-clause-later : goal.returns-clause-later
returns-clause-later c = asked_stay_beside

pub returns-clause-first : goal.returns-clause-first
returns-clause-first c = λ e s t n j result must_tail ty args r made at.
    asking_goes e s t n r made result must_tail ty args j at.asks at.own
