use Rattle.pass_elide_kept.proofs.RelatedSteps.{stay_kept}
use Rattle.pass_elide_kept.proofs.keeping.related_states_stay_related.Goals as goal

pub returns : goal.returns
returns c =
    λ e places keeps s t ours theirs h runs fine k next.
    stay_kept e places keeps s t ours theirs h runs fine k next
