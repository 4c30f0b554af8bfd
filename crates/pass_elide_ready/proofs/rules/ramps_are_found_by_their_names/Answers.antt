use Rattle.pass_elide_ready.proofs.Modules.{all_rules, plain}
use Rattle.pass_elide_ready.proofs.Ramps.{gives_no_frames, ramp_found}
use Rattle.pass_elide_ready.proofs.rules.ramps_are_found_by_their_names.Goals as goal

pub returns-clause-none : goal.returns-clause-none
returns-clause-none c m ruled = gives_no_frames m ruled.items (all_rules m ruled)

pub returns-clause-plain : goal.returns-clause-plain
returns-clause-plain c = plain

pub returns-clause-found : goal.returns-clause-found
returns-clause-found c m ruled = ramp_found m ruled.items ruled.short
