-- Lemmas on unnamed.
use Rattle.std.proofs.Common.{ℕ}
use Rattle.pass_proofs.specs.edges.rules.Phis.{ArePhisEnteredByJumps}
use Rattle.pass_proofs.specs.rule_laws.rules.function_rules.Kept.{KeepsFunctionRules}
use Rattle.ir_model.specs.declared.module.Function.{Function}
use Rattle.ir_model.specs.declared.module.Module.{Module}
use Rattle.compiler.specs.cleanup.unnamed_intrinsics.Unnamed.{NamesNoIntrinsic, names_intrinsic}
use Rattle.pass_proofs.specs.pass_exits.ExitBlocks.{with_exit_blocks}
use Rattle.pass_proofs.proofs.rule_laws.rules.threaded.Carried.{carried}
use Rattle.pass_proofs.proofs.exits.rules.Threaded.{moves, threaded}
use Rattle.compiler.proofs.cleanup.exits.Unnamed.{unnamed_carried}

pub names_none : (m : Module) (k : ℕ) (f : Function) → KeepsFunctionRules m k f → ArePhisEnteredByJumps f → NamesNoIntrinsic k f → NamesNoIntrinsic k (with_exit_blocks f)
names_none m k f rules jumps = carried f (with_exit_blocks f) (moves f) (threaded m k f rules jumps) names_intrinsic names_intrinsic (unnamed_carried f) k
