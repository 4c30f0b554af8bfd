use Rattle.ir_model.specs.declared.operand.Intrinsic.{Intrinsic}
use Rattle.pass_edges_proof.proofs.kept.sources.Closed.{no_return, not_behind_end, not_inside, save_ends, save_shuts}
use Rattle.pass_edges_proof.proofs.kept.sources.Closed.{suspend_ends, suspend_shuts}
use Rattle.pass_edges_proof.proofs.kept.sources.coroutines_keep_places_closed.Goals as goal

pub returns-clause-save_behind : goal.returns-clause-save_behind
returns-clause-save_behind c = λ k f coroutine paths p a d.
    not_behind_end k f coroutine paths.outside Intrinsic.CoroSave save_ends p a d

pub returns-clause-suspend_behind : goal.returns-clause-suspend_behind
returns-clause-suspend_behind c = λ k f coroutine paths p a d.
    not_behind_end k f coroutine paths.outside Intrinsic.CoroSuspend suspend_ends p a d

pub returns-clause-returning : goal.returns-clause-returning
returns-clause-returning c = λ k f coroutine paths p arg e r. no_return k f coroutine paths.outside p arg e r

pub returns-clause-save_inside : goal.returns-clause-save_inside
returns-clause-save_inside c = λ m k f coroutine rules shape paths save s p d pair inside e.
    not_inside m k f coroutine rules shape paths Intrinsic.CoroSave save_shuts save s p d pair inside e

pub returns-clause-suspend_inside : goal.returns-clause-suspend_inside
returns-clause-suspend_inside c = λ m k f coroutine rules shape paths save s p d pair inside e.
    not_inside m k f coroutine rules shape paths Intrinsic.CoroSuspend suspend_shuts save s p d pair inside e
