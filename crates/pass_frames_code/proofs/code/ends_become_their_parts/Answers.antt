use Rattle.pass_frames_code.proofs.code.Ends.{back_is, front_is, last_far, term_is}
use Rattle.pass_frames_code.proofs.code.ends_become_their_parts.Goals as goal
use Rattle.pass_frames_code.specs.Code.{last_state}

pub returns-clause-back : goal.returns-clause-back
returns-clause-back c = λ x is k. back_is x is k (last_state x k) (last_far x is k)

pub returns-clause-term : goal.returns-clause-term
returns-clause-term c = λ x is k t. term_is x is k (last_state x k) (last_far x is k) t

pub returns-clause-front : goal.returns-clause-front
returns-clause-front c = front_is
