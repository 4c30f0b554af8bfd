use Rattle.pass_elide_theorem.proofs.Steps.{steps_known}
use Rattle.pass_elide_theorem.proofs.theorem.carried_states_know_steps.Goals as goal

pub returns : goal.returns
returns c e callees source most entry args ready asked call covers =
    steps_known e source most ready entry args call callees covers
    (λ m going. c.giving_runs_lack_nothing.ensures e entry args m ready.places ready.more ready.ends ready.runs asked
    going) (c.destroyed_ends_have_freed.ensures e)
    (c.related_states_stay_related.ensures e ready.places ready.handles)
    (c.runs_start_kept.ensures.kept e entry args)
