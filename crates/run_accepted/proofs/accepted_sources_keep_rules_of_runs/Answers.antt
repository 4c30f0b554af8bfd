use Rattle.run_accepted.proofs.Accepted.{alive_rules, places, switches, types}
use Rattle.run_accepted.proofs.accepted_sources_keep_rules_of_runs.Goals as goal

pub returns-clause-switches : goal.returns-clause-switches
returns-clause-switches c = switches

pub returns-clause-places : goal.returns-clause-places
returns-clause-places c = places

pub returns-clause-types : goal.returns-clause-types
returns-clause-types c = types

pub returns-clause-alive : goal.returns-clause-alive
returns-clause-alive c = alive_rules
