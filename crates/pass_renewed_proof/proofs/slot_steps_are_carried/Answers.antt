use Rattle.pass_renewed_proof.proofs.Ready.{fade, part_placed, used_step}
use Rattle.pass_renewed_proof.proofs.ShownSteps.{step_shown}
use Rattle.pass_renewed_proof.proofs.slot_steps_are_carried.Goals as goal

pub returns-clause-step : goal.returns-clause-step
returns-clause-step c = λ homes hides quiet ps d w x here rights u. used_step homes hides quiet ps d w x here u rights

pub returns-clause-spread : goal.returns-clause-spread
returns-clause-spread c = λ homes hides quiet ps d w x here u spreads. step_shown quiet d w u.shown here
    (λ no. u.new_quiet) spreads

pub returns-clause-parts : goal.returns-clause-parts
returns-clause-parts c = λ homes hides quiet ps d w x here u. part_placed homes hides quiet ps d w x here u

pub returns-clause-faded : goal.returns-clause-faded
returns-clause-faded c = fade
