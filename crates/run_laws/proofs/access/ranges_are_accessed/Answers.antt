use Rattle.run_laws.proofs.access.Done.{copy_done, gep_done, load_done, store_done}
use Rattle.run_laws.proofs.access.ranges_are_accessed.Goals as goal

pub returns-clause-load : goal.returns-clause-load
returns-clause-load c = load_done

pub returns-clause-store : goal.returns-clause-store
returns-clause-store c = store_done

pub returns-clause-copy : goal.returns-clause-copy
returns-clause-copy c = copy_done

pub returns-clause-address : goal.returns-clause-address
returns-clause-address c = gep_done
