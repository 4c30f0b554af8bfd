use Rattle.pass_elide.proofs.Entries.{coroutine-first}
use Rattle.pass_elide.proofs.laws.coroutines_begin_with_allocas.Goals as goal

pub returns : goal.returns
returns c = coroutine-first
