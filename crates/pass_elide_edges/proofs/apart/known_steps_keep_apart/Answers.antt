use Rattle.pass_elide_edges.proofs.AllApart.{call_apart, level_apart, moves_on, return_apart}
use Rattle.pass_elide_edges.proofs.apart.known_steps_keep_apart.Goals as goal

pub returns-clause-goes_on : goal.returns-clause-goes_on
returns-clause-goes_on c = λ e s t r k ends alone first apart runs fine next same not_again.
    level_apart e ends alone s t r first apart runs fine _
    (moves_on e s t r.beside runs fine k next) next same not_again

pub returns-clause-calls : goal.returns-clause-calls
returns-clause-calls c = λ e s t r k ends alone first apart runs fine next new high.
    call_apart e ends alone s t r first apart runs fine _ (moves_on e s t r.beside runs fine k next) next new high

pub returns-clause-returns : goal.returns-clause-returns
returns-clause-returns c = λ e s t r k ends alone first apart runs fine next low.
    return_apart e ends alone s t r first apart runs fine _ (moves_on e s t r.beside runs fine k next) next low
