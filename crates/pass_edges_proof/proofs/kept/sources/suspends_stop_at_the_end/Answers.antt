use Rattle.pass_edges_proof.proofs.kept.sources.Stops.{at_end, has_switch, is_end, on_result, stops}
use Rattle.pass_edges_proof.proofs.kept.sources.suspends_stop_at_the_end.Goals as goal

pub returns-clause-switch : goal.returns-clause-switch
returns-clause-switch c = λ k f coroutine shape s d. has_switch k f coroutine shape.switches s d

pub returns-clause-result : goal.returns-clause-result
returns-clause-result c = λ k f coroutine shape s d arg default cases stands i e.
    on_result k f coroutine shape.switches s d arg default cases stands i e

pub returns-clause-stop : goal.returns-clause-stop
returns-clause-stop c = λ k f coroutine shape s d arg default cases stands m.
    stops k f coroutine shape.switches s d arg default cases stands m

pub returns-clause-end : goal.returns-clause-end
returns-clause-end c = λ m k f coroutine rules shape s d arg default cases stands.
    at_end k f coroutine shape.switches s d arg default cases stands rules.definitions

pub returns-clause-first : goal.returns-clause-first
returns-clause-first c = λ m k f coroutine rules shape s d arg default cases stands.
    is_end k f coroutine shape.switches s d arg default cases stands rules.definitions shape.calls
