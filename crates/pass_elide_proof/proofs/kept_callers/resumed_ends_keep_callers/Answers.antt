use Rattle.pass_elide_proof.proofs.CallersEnds.{resumed_ends_keep}
use Rattle.pass_elide_proof.proofs.kept_callers.resumed_ends_keep_callers.Goals as goal

pub returns : goal.returns
returns c =
    λ e t at result must_tail ty args k resumed inside none handles own links h.
    resumed_ends_keep e t at result must_tail ty args k resumed inside none h handles own links
