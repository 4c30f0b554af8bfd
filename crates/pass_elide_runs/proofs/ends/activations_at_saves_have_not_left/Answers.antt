use Rattle.run_hooks.specs.Away.{point_in}
use Rattle.pass_elide_runs.proofs.NotLeft.{save_stays, suspend_stays}
use Rattle.pass_elide_runs.proofs.ends.activations_at_saves_have_not_left.Goals as goal

pub returns-clause-saves : goal.returns-clause-saves
returns-clause-saves c h s placed rules once is = save_stays h s placed rules (λ after. once.saves
    (point_in s.top) after is) is

pub returns-clause-suspends : goal.returns-clause-suspends
returns-clause-suspends c h s placed rules once is none = suspend_stays h s placed rules (λ after. once.suspends
    (point_in s.top) after is) is none
