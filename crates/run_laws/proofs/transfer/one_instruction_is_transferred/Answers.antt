use Rattle.run_laws.specs.memory.Pointers.{IsValue}
use Rattle.run_laws.proofs.transfer.Alone.{reads_itself}
use Rattle.run_laws.proofs.transfer.Carried.{carried_again}
use Rattle.run_laws.specs.transfer.Ready.{IsValueOver}
use Rattle.run_laws.proofs.transfer.one_instruction_is_transferred.Goals as goal

pub returns-clause-reads : goal.returns-clause-reads
returns-clause-reads c = λ homes. reads_itself (IsValue homes)

pub returns-clause-places : goal.returns-clause-places
returns-clause-places c = λ homes ps. reads_itself (IsValueOver homes ps)

pub returns-clause-carried : goal.returns-clause-carried
returns-clause-carried c homes moves code other w x here law law' alike works k = carried_again homes moves code other w x here law law' alike works k
