use Rattle.pass_frames_meaning.proofs.once.Lists.{fresh_there, left_made, next_made, placed_made, same_block}
use Rattle.pass_frames_meaning.proofs.once.Lists.{begun_some, placed_some, some_made}
use Rattle.pass_frames_meaning.proofs.once.slots_stay_made_once.Goals as goal

pub returns-clause-same : goal.returns-clause-same
returns-clause-same c = same_block

pub returns-clause-fresh : goal.returns-clause-fresh
returns-clause-fresh c =
    λ f block at slots h name ty align there. fresh_there f block at name ty align there slots h

pub returns-clause-placed : goal.returns-clause-placed
returns-clause-placed c = placed_made

pub returns-clause-next : goal.returns-clause-next
returns-clause-next c = next_made

pub returns-clause-left : goal.returns-clause-left
returns-clause-left c = left_made

pub returns-clause-some : goal.returns-clause-some
returns-clause-some c = some_made

pub returns-clause-own : goal.returns-clause-own
returns-clause-own c = placed_some

pub returns-clause-begun : goal.returns-clause-begun
returns-clause-begun c = begun_some
