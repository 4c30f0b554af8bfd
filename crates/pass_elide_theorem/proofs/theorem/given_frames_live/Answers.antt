use Rattle.pass_elide_theorem.proofs.Lasting.{frames_last, frames_last_until}
use Rattle.pass_elide_theorem.proofs.theorem.given_frames_live.Goals as goal

pub returns-clause-always : goal.returns-clause-always
returns-clause-always c e callees source most entry args ready asked covers call fine =
    frames_last e source most ready entry args call callees
    (c.carried_states_know_steps.ensures e callees source most entry args ready asked call covers) fine

pub returns-clause-until : goal.returns-clause-until
returns-clause-until c e callees source most entry args n ready asked covers call fine =
    frames_last_until e source most ready entry args call callees
    (c.carried_states_know_steps.ensures e callees source most entry args ready asked call covers) n fine
