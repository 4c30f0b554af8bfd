use Rattle.pass_elide_framed.proofs.Answered.{framed_answers}
use Rattle.pass_elide_framed.proofs.Tested.{framed_frees}
use Rattle.pass_elide_framed.proofs.framed.framed_coroutines_ask_in_blocks.Goals as goal

pub returns-clause-asks : goal.returns-clause-asks
returns-clause-asks c = framed_answers

pub returns-clause-frees : goal.returns-clause-frees
returns-clause-frees c = framed_frees
