use Rattle.pass_elide_proof.proofs.CallersPlaces.{stands_at_end, stands_at_instr, stands_at_ret}
use Rattle.pass_elide_proof.proofs.kept_callers.ready_runs_stand_at_places.Goals as goal

pub returns-clause-instr : goal.returns-clause-instr
returns-clause-instr c = stands_at_instr

pub returns-clause-end : goal.returns-clause-end
returns-clause-end c = stands_at_end

pub returns-clause-ret : goal.returns-clause-ret
returns-clause-ret c = stands_at_ret
