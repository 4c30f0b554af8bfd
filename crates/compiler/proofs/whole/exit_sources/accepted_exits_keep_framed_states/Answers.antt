use Rattle.compiler.proofs.whole.exit_sources.Accepted.{exits_kept, locals_kept}
use Rattle.pass_proofs.proofs.exits.states.Agreement.{exits_correspond}
use Rattle.compiler.proofs.whole.exit_sources.accepted_exits_keep_framed_states.Goals as goal

pub returns : goal.returns
returns c = λ text m stands accepted share layouts laid n form. exits_correspond n
    (locals_kept text m stands accepted share layouts laid n form)
    (exits_kept text m stands accepted share layouts laid n form) layouts
