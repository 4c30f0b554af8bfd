use Rattle.pass_elide_meaning.specs.pass_elide_edges.pass_elide_proof.Elision.{framed}
use Rattle.pass_elide_meaning.specs.pass_elide_edges.pass_elide_proof.pass_proofs.run_framed.Framed.{framed_state_at}
use Rattle.pass_elide_lacks.proofs.RunOut.{no_ret, out_in_runs}
use Rattle.pass_elide_lacks.proofs.ends.resumed_activations_come_to_no_ret.Goals as goal

pub returns-clause-paths : goal.returns-clause-paths
returns-clause-paths c e entry args n k rets fine = out_in_runs (framed e) rets k.switches entry args n fine

pub returns-clause-rets : goal.returns-clause-rets
returns-clause-rets c e entry args n k rets fine =
    no_ret (framed e) rets k.switches (framed_state_at (framed e) entry args n)
    (out_in_runs (framed e) rets k.switches entry args n fine)
