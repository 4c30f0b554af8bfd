use Rattle.compiler_theorem.proofs.rows.sources_agree_with_framed_forms.Goals as goal
use Rattle.compiler_theorem.proofs.theorem.Paying.{runs_paid}
use Rattle.compiler_theorem.proofs.theorem.Rows.{to_framed, to_kept}

pub returns-clause-kept : goal.returns-clause-kept
returns-clause-kept c = λ l low few a anew r call. to_kept a l low few anew r call

pub returns-clause-framed : goal.returns-clause-framed
returns-clause-framed c = λ l low few a anew r call. to_framed a l low few anew r call

pub returns-clause-paid : goal.returns-clause-paid
returns-clause-paid c = λ l low few a anew r call n fine. runs_paid l low few a anew r call n fine
