use Rattle.std.proofs.Common.{sym, subst}
use Rattle.std.specs.Prelude.{false}
use Rattle.pass_kept_proof.specs.ir_model.declared.module.Module.{Module}
use Rattle.pass_renewed_proof.proofs.Branching.{entered_block}
use Rattle.pass_renewed_proof.proofs.Leaving.{left_window}
use Rattle.pass_renewed_proof.proofs.leaving_branches_stay_beside.Goals as goal
use Rattle.pass_renewed_proof.specs.Beside.{IsBeside}
use Rattle.pass_kept_proof.specs.run_source.State.{with_left, with_status}
use Rattle.pass_kept_proof.specs.run_source.declared.state.Status.{Status}

pub returns : goal.returns
returns c = λ flags roots g h same keeps s t beside label branching is n x y back there outdone.
    subst (λ (m : Module). IsBeside g.code flags roots (entered_block g.code (with_left (with_status s n x
    Status.Running) false) label) (entered_block m (with_left (with_status t n y Status.Running) false) label)) (sym
    same) (left_window g.code flags roots keeps s t beside label branching is n x y back there outdone)
