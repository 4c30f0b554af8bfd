use Rattle.pass_split_proof.proofs.ready.Layouts.{layouts_found, no_layouts}
use Rattle.pass_split_proof.proofs.ready.layouts_stand_by_their_coroutines.Goals as goal

pub returns-clause-found : goal.returns-clause-found
returns-clause-found c = layouts_found

pub returns-clause-none : goal.returns-clause-none
returns-clause-none c = no_layouts
