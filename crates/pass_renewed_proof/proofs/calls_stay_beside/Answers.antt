use Rattle.std.proofs.Common.{sym, subst}
use Rattle.pass_kept_proof.specs.ir_model.Names.{function_at}
use Rattle.pass_kept_proof.specs.ir_model.declared.module.Module.{Module}
use Rattle.pass_renewed_proof.proofs.Calling.{calls_beside}
use Rattle.pass_renewed_proof.proofs.calls_stay_beside.Goals as goal
use Rattle.pass_renewed_proof.specs.Beside.{IsBeside}
use Rattle.pass_kept_proof.specs.run_source.Source.{called, mode_of, push}

pub returns : goal.returns
returns c = λ flags roots g h same keeps answers s t beside result must_tail ty callee args calling outdone asleep func
    vs other tail e.
    let r = calls_beside g.code flags roots keeps s t beside result must_tail ty callee args calling answers func vs
    other tail outdone asleep e in (
      r.0,
      r.1,
      subst (λ (m : Module). IsBeside g.code flags roots (push s (called g.code func vs other (mode_of (function_at
          g.code func)))) (push t (called m func r.0 other (mode_of (function_at m func))))) (sym same) r.2,
    )
