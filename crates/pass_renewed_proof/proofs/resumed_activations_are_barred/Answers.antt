use Rattle.pass_renewed_proof.proofs.Way.{away_unstarted, away_unused, barred_first, barred_more, barred_unstarted, barred_unused, barred_used, resumed_first, resumed_more}
use Rattle.pass_renewed_proof.proofs.resumed_activations_are_barred.Goals as goal

pub returns-clause-first : goal.returns-clause-first
returns-clause-first c = barred_first

pub returns-clause-resumed : goal.returns-clause-resumed
returns-clause-resumed c = resumed_first

pub returns-clause-more : goal.returns-clause-more
returns-clause-more c = barred_more

pub returns-clause-goes_on : goal.returns-clause-goes_on
returns-clause-goes_on c = resumed_more

pub returns-clause-unused : goal.returns-clause-unused
returns-clause-unused c = barred_unused

pub returns-clause-unstarted : goal.returns-clause-unstarted
returns-clause-unstarted c = barred_unstarted

pub returns-clause-away : goal.returns-clause-away
returns-clause-away c = away_unused

pub returns-clause-away_unstarted : goal.returns-clause-away_unstarted
returns-clause-away_unstarted c = away_unstarted

pub returns-clause-used : goal.returns-clause-used
returns-clause-used c = barred_used
