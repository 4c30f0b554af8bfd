use Rattle.pass_elide_apart.proofs.pass_elide_proof.Assembly.{assembled}
use Rattle.pass_elide_apart.proofs.pass_elide_proof.LosingCalls.{loses}
use Rattle.pass_elide_theorem.proofs.theorem.elided_entry_calls_keep_states.Goals as goal
use Rattle.pass_elide_theorem.specs.Carried.{AreCarried}
use Rattle.pass_elide_theorem.specs.Exact.{is_exact}

pub returns-clause-states : goal.returns-clause-states
returns-clause-states c e callees source most entry args ready asked covers call =
    assembled e source most ready.sites ready.waits entry args (is_exact e callees) (AreCarried e)
    (c.carried_states_know_steps.ensures e callees source most entry args ready asked call covers)

pub returns-clause-calls : goal.returns-clause-calls
returns-clause-calls c e callees source most entry args ready asked covers call =
    loses e source most ready.sites ready.waits entry args (is_exact e callees) (AreCarried e)
    (c.carried_states_know_steps.ensures e callees source most entry args ready asked call covers)
