use Rattle.pass_elide_theorem.proofs.Steps.{start_carried}
use Rattle.pass_elide_theorem.proofs.theorem.runs_start_carried.Goals as goal

pub returns : goal.returns
returns c e source most entry args ready call =
    start_carried e source most ready entry args call (c.runs_start_kept.ensures.kept e entry args)
