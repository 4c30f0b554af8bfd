use Rattle.pass_elide_apart.proofs.OneEnd.{end_in_block}
use Rattle.pass_elide_apart.proofs.behind.one_end_stands_in_the_end_block.Goals as goal

pub returns : goal.returns
returns c = end_in_block
