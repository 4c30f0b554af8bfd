use Rattle.pass_split_proof.proofs.own_blocks.Runs.{runs_mark_none, runs_own}
use Rattle.pass_split_proof.proofs.own_blocks.Steps.{step_own}
use Rattle.pass_split_proof.proofs.own_blocks.frames_begin_allocated_blocks.Goals as goal

pub returns-clause-step : goal.returns-clause-step
returns-clause-step c = step_own

pub returns-clause-runs : goal.returns-clause-runs
returns-clause-runs c = runs_own

pub returns-clause-marks : goal.returns-clause-marks
returns-clause-marks c = runs_mark_none
