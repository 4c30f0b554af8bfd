use Rattle.std.proofs.Common.{refl}
use Rattle.pass_elide_proof.proofs.worked.comparisons_with_fields_differ.Goals as goal

pub returns : goal.returns
returns c = record { framed = refl; elided = refl }
