use Rattle.run_laws.proofs.transfer.Ready.{fade, joined_there, part_placed, ready_all, stood_extends, used_step}
use Rattle.run_laws.proofs.transfer.steps_use_places.Goals as goal

pub returns-clause-step : goal.returns-clause-step
returns-clause-step c = used_step

pub returns-clause-joined : goal.returns-clause-joined
returns-clause-joined c = joined_there

pub returns-clause-standing : goal.returns-clause-standing
returns-clause-standing c = ready_all

pub returns-clause-extends : goal.returns-clause-extends
returns-clause-extends c = stood_extends

pub returns-clause-parts : goal.returns-clause-parts
returns-clause-parts c = part_placed

pub returns-clause-faded : goal.returns-clause-faded
returns-clause-faded c = fade
