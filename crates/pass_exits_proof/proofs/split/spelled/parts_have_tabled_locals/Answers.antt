use Rattle.pass_exits_proof.proofs.split.spelled.Tabled.{parts_tabled}
use Rattle.pass_exits_proof.proofs.split.spelled.parts_have_tabled_locals.Goals as goal

pub returns : goal.returns
returns c = parts_tabled
