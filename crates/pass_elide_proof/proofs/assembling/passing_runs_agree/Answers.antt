use Rattle.pass_elide_proof.proofs.Passing.{passing_agrees}
use Rattle.pass_elide_proof.proofs.assembling.passing_runs_agree.Goals as goal

pub returns : goal.returns
returns g c = λ e passes entry args a price cost agrees passing.
    passing_agrees e passes entry args g.Q.RelatesStates.corresponds g.Q.RelatesStates.stands a price cost agrees passing
