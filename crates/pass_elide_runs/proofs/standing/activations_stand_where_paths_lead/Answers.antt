use Rattle.pass_elide_runs.proofs.Led.{giving_led, states_led}
use Rattle.pass_elide_runs.proofs.standing.activations_stand_where_paths_lead.Goals as goal

pub returns-clause-runs : goal.returns-clause-runs
returns-clause-runs c g entry args n switches = states_led g switches entry args n

pub returns-clause-giving : goal.returns-clause-giving
returns-clause-giving c e entry args n keeps switches = giving_led e keeps switches entry args n
