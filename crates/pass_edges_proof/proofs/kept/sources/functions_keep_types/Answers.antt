use Rattle.pass_edges_proof.proofs.kept.sources.Typed.{calls_fit, ends_fit, instrs_fit, loads_fit, names_given, param_named}
use Rattle.pass_edges_proof.proofs.kept.sources.Typed.{phi_fits, phi_named}
use Rattle.pass_edges_proof.proofs.kept.sources.functions_keep_types.Goals as goal

pub returns-clause-instrs : goal.returns-clause-instrs
returns-clause-instrs c = λ m k f rules block at i e. instrs_fit m k f rules block at i e

pub returns-clause-ends : goal.returns-clause-ends
returns-clause-ends c = λ m k f rules block at t e. ends_fit m k f rules block at t e

pub returns-clause-given : goal.returns-clause-given
returns-clause-given c = λ m k f rules block at n i kind e own. names_given m k f rules block at i e n kind own

pub returns-clause-phis : goal.returns-clause-phis
returns-clause-phis c = λ m k f rules block b at p got e.
    (phi_fits m k f rules block b at p got e, phi_named m k f rules block b at p got e)

pub returns-clause-params : goal.returns-clause-params
returns-clause-params c = λ m k f rules at p e. param_named m k f rules at p e

pub returns-clause-calls : goal.returns-clause-calls
returns-clause-calls c = λ m k f rules block at result must_tail ty callee args e.
    calls_fit m k f rules block at result must_tail ty callee args e

pub returns-clause-loads : goal.returns-clause-loads
returns-clause-loads c = λ m k f rules widths block at name ty p align e.
    loads_fit m k f rules widths block at name ty p align e
