-- Lemmas on whole, that speak of no pass.
use Rattle.std.proofs.Common.{ℕ}
use Rattle.rule_laws.specs.rules.function_rules.Kept.{KeepsFunctionRules}
use Rattle.ir_laws.specs.pass_front.Front.{with_front_allocas}
use Rattle.ir_laws.specs.ir_model.declared.module.Function.{Function}
use Rattle.ir_laws.specs.ir_model.declared.module.Module.{Module}
use Rattle.rule_laws.proofs.rules.front_rules.Local.{calls_kept, depths_kept, edges_kept, known_kept, local_kept}
use Rattle.rule_laws.proofs.rules.front_rules.Names.{names_once, names_tabled}
use Rattle.rule_laws.proofs.rules.front_rules.Uses.{uses_kept}

pub rules_kept : (m : Module) (func : ℕ) (f : Function) → KeepsFunctionRules m func f → KeepsFunctionRules m func (with_front_allocas f)
rules_kept m func f h = record {
  tabled = names_tabled func f h.tabled;
  definitions = names_once func f h.definitions;
  known = known_kept m func f h;
  depths = depths_kept m func f h h.depths;
  calls = calls_kept m func f h h.calls;
  local = local_kept m func f h h.local;
  edges = edges_kept func f h.edges;
  uses = uses_kept f func h.uses;
}
