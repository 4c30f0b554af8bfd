use Rattle.pass_elide_lacks.proofs.OneEnd.{ends_in_block}
use Rattle.pass_elide_lacks.proofs.ends.ends_stand_in_the_end_block.Goals as goal

pub returns : goal.returns
returns c e func one = ends_in_block e func one
