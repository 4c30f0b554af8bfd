use Rattle.compiler_theorem.proofs.temporaries.Live.{has_live, temporaries_live}
use Rattle.compiler_theorem.proofs.temporaries.temporaries_of_framed_forms_live.Goals as goal

pub returns-clause-live : goal.returns-clause-live
returns-clause-live c = λ l low few a anew r entered n runs. has_live l low few a anew r entered n

pub returns-clause-kinds : goal.returns-clause-kinds
returns-clause-kinds c = λ l low few a anew r entered n runs. temporaries_live l low few a anew r entered n
