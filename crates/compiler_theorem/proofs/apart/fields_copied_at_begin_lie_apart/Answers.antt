use Rattle.compiler_theorem.proofs.apart.EarlyHeld.{early_apart, fields_apart}
use Rattle.compiler_theorem.proofs.apart.EarlyOnce.{early_once}
use Rattle.compiler_theorem.proofs.apart.fields_copied_at_begin_lie_apart.Goals as goal
use Rattle.compiler_theorem.proofs.known.Names.{framed}
use Rattle.compiler_theorem.specs.theorem.Asked.{asking}

pub returns-clause-all : goal.returns-clause-all
returns-clause-all c = fields_apart

pub returns-clause-copied : goal.returns-clause-copied
returns-clause-copied c = λ l low few a anew r entered func block at coroutine result must_tail ty args stands before e
    d listed listed_too.
    early_apart l low few a anew r entered func block at coroutine result must_tail ty args stands before e listed d
    listed_too

pub returns-clause-once : goal.returns-clause-once
returns-clause-once c = λ l low few a anew r entered func coroutine.
    early_once ((asking l low a r).b.framing func) (framed l low few a anew r entered func coroutine)
