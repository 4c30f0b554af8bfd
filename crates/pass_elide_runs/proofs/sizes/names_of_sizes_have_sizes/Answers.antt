use Rattle.pass_elide_proof.specs.Elision.{framed}
use Rattle.pass_elide_runs.proofs.SizeNames.{size_in, sizes_in_runs}
use Rattle.pass_elide_runs.proofs.sizes.names_of_sizes_have_sizes.Goals as goal
use Rattle.pass_elide_proof.specs.pass_proofs.run_framed.Framed.{framed_state_at}

pub returns : goal.returns
returns c e entry args n begins small fine =
    size_in e small (framed_state_at (framed e) entry args n) (sizes_in_runs e small begins entry args n fine)
