use Rattle.compiler_theorem.proofs.apart.Kept.{alive}
use Rattle.compiler_theorem.proofs.apart.slots_of_sources_may_be_alive.Goals as goal

pub returns : goal.returns
returns c = λ l low few a anew r entered n. alive l low few a anew r entered n
