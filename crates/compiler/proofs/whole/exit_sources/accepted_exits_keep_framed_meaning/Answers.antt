use Rattle.compiler.proofs.whole.exit_sources.Accepted.{exits_kept, locals_kept}
use Rattle.pass_proofs.proofs.exits.states.Agreement.{exits_agree}
use Rattle.compiler.proofs.whole.exit_sources.accepted_exits_keep_framed_meaning.Goals as goal

pub returns : goal.returns
returns c = λ text m stands accepted share layouts laid n form. exits_agree n (locals_kept text m stands accepted share layouts laid n form) (exits_kept text m stands accepted share layouts laid n form) layouts
