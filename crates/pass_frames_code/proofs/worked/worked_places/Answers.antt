use Rattle.pass_frames_code.specs.Worked as one
use Rattle.pass_frames_code.proofs.worked.worked_places.Goals as goal

pub returns-clause-first : goal.returns-clause-first
returns-clause-first c = one.first_place

pub returns-clause-begin : goal.returns-clause-begin
returns-clause-begin c = one.begin_places

pub returns-clause-own : goal.returns-clause-own
returns-clause-own c = one.own_places

pub returns-clause-others : goal.returns-clause-others
returns-clause-others c = one.other_places

pub returns-clause-costs : goal.returns-clause-costs
returns-clause-costs c = one.jump_costs
