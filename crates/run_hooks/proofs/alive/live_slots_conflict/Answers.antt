use Rattle.std.proofs.Common.{true}
use Rattle.run_hooks.proofs.alive.Apart.{are_apart, live_conflict}
use Rattle.run_hooks.proofs.alive.Runs.{source_alive}
use Rattle.run_hooks.proofs.alive.live_slots_conflict.Goals as goal
use Rattle.pass_renewed_proof.specs.run_source.Source.{state_at}

pub returns-clause-states : goal.returns-clause-states
returns-clause-states c =
    λ m counts s h i j k x one other there a b live lives_too counted counts_too.
    live_conflict m counts s h i j k x one other there a b live lives_too counted counts_too

pub returns-clause-source : goal.returns-clause-source
returns-clause-source c = λ g entry args n rules places ok.
    are_apart g.code (state_at g entry args n) (source_alive g (λ func v. true) entry args n rules places ok)
