use Rattle.pass_split_proof.proofs.held.Runs.{runs_kept}
use Rattle.pass_split_proof.proofs.held.Steps.{step_kept}
use Rattle.pass_split_proof.proofs.held.frames_in_blocks_are_kept.Goals as goal

pub returns-clause-step : goal.returns-clause-step
returns-clause-step c = step_kept

pub returns-clause-runs : goal.returns-clause-runs
returns-clause-runs c = runs_kept
