use Rattle.run_access_worked.proofs.Stores.{cell_holds, cell_stays, source_accesses, store_accesses, store_done}
use Rattle.run_access_worked.proofs.a_store_is_worked.Goals as goal

pub returns-clause-source : goal.returns-clause-source
returns-clause-source c = source_accesses

pub returns-clause-target : goal.returns-clause-target
returns-clause-target c = store_accesses

pub returns-clause-before : goal.returns-clause-before
returns-clause-before c = cell_holds

pub returns-clause-after : goal.returns-clause-after
returns-clause-after c = cell_stays

pub returns-clause-done : goal.returns-clause-done
returns-clause-done c = store_done
