use Rattle.std.proofs.Common.{sym, subst}
use Rattle.pass_kept_proof.specs.ir_model.declared.module.Module.{Module}
use Rattle.pass_renewed_proof.proofs.Branching.{branched_beside, entered_block}
use Rattle.pass_renewed_proof.proofs.SameBranches.{same_label}
use Rattle.pass_renewed_proof.proofs.branches_stay_beside.Goals as goal
use Rattle.pass_renewed_proof.specs.Beside.{IsBeside}

pub returns-clause-label : goal.returns-clause-label
returns-clause-label c = λ m flags roots s t beside answers label term e.
    same_label m flags roots s t beside answers label term e

pub returns-clause-entered : goal.returns-clause-entered
returns-clause-entered c = λ flags roots g h same keeps s t beside label branching stays outdone asleep.
    subst (λ (m : Module). IsBeside g.code flags roots (entered_block g.code s label) (entered_block m t label)) (sym
    same) (branched_beside g.code flags roots keeps s t beside label branching stays outdone asleep)
