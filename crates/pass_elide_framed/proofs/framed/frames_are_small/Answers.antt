use Rattle.pass_elide_framed.proofs.Layouts.{coroutines_give_none, frames_nest_none, frames_small, promises_low}
use Rattle.pass_elide_framed.proofs.framed.frames_are_small.Goals as goal

pub returns-clause-small : goal.returns-clause-small
returns-clause-small c = frames_small

pub returns-clause-nests : goal.returns-clause-nests
returns-clause-nests c = frames_nest_none

pub returns-clause-promises : goal.returns-clause-promises
returns-clause-promises c = promises_low

pub returns-clause-gives : goal.returns-clause-gives
returns-clause-gives c = coroutines_give_none
