use Rattle.pass_frames_code.proofs.lines.Cells.{cell_loads, cell_stores}
use Rattle.pass_frames_code.proofs.lines.cells_are_loaded_and_stored.Goals as goal
use Rattle.pass_frames_code.specs.Related.{Anything}
use Rattle.pass_proofs.specs.run_laws.memory.Pointers.{IsValue}

pub returns-clause-load : goal.returns-clause-load
returns-clause-load c = λ c w a n cell ty homes v t h. cell_loads c w a n cell ty (IsValue homes v) t h

pub returns-clause-store : goal.returns-clause-store
returns-clause-store c = λ c w a law v cell n ty t h. cell_stores c w a law v cell n ty Anything t h
