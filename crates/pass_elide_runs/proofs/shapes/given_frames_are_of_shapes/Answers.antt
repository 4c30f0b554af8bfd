use Rattle.pass_elide_proof.specs.Elision.{elided}
use Rattle.pass_elide_runs.proofs.Shaped.{shaped_runs, shaped_step, shapes_of}
use Rattle.pass_elide_runs.proofs.shapes.given_frames_are_of_shapes.Goals as goal
use Rattle.pass_elide_proof.specs.pass_proofs.run_framed.Framed.{framed_state_at}

pub returns-clause-step : goal.returns-clause-step
returns-clause-step c e t keeps h = shaped_step e keeps t h

pub returns-clause-runs : goal.returns-clause-runs
returns-clause-runs c e entry args n keeps =
    shapes_of e (framed_state_at (elided e) entry args n) (shaped_runs e keeps entry args n)

pub returns-clause-blocks : goal.returns-clause-blocks
returns-clause-blocks c e entry args n keeps number y at = ((shaped_runs e keeps entry args n).0 number y at).0

pub returns-clause-means : goal.returns-clause-means
returns-clause-means c = shapes_of
