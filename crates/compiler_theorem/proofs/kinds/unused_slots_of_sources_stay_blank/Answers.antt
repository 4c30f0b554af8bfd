use Rattle.compiler_theorem.proofs.kinds.Blank.{begun_blank, blank_kept}
use Rattle.compiler_theorem.proofs.kinds.unused_slots_of_sources_stay_blank.Goals as goal

pub returns-clause-states : goal.returns-clause-states
returns-clause-states c = blank_kept

pub returns-clause-begin : goal.returns-clause-begin
returns-clause-begin c = begun_blank
