use Rattle.pass_elide_proof.proofs.Saves.{save_beside, suspend_beside}
use Rattle.pass_elide_proof.proofs.intrinsics.saves_stay_beside.Goals as goal

pub returns-clause-save : goal.returns-clause-save
returns-clause-save c = save_beside

pub returns-clause-suspend : goal.returns-clause-suspend
returns-clause-suspend c = suspend_beside
