use Rattle.run_accepted.proofs.Accepted.{edged_alive, edged_globals, edged_places, edged_steps, edged_switches}
use Rattle.run_accepted.proofs.Accepted.{edged_types}
use Rattle.run_accepted.proofs.accepted_edges_keep_rules_of_runs.Goals as goal

pub returns-clause-switches : goal.returns-clause-switches
returns-clause-switches c = edged_switches

pub returns-clause-places : goal.returns-clause-places
returns-clause-places c = edged_places

pub returns-clause-types : goal.returns-clause-types
returns-clause-types c = edged_types

pub returns-clause-alive : goal.returns-clause-alive
returns-clause-alive c = edged_alive

pub returns-clause-steps : goal.returns-clause-steps
returns-clause-steps c = edged_steps

pub returns-clause-globals : goal.returns-clause-globals
returns-clause-globals c = edged_globals
