-- Lemmas on exited.
use Rattle.std.proofs.Common.{ℕ}
use Rattle.pass_fetch_proof.proofs.rule_laws.rules.function_rules.Signatures.{go_by_signatures}
use Rattle.ir_model.specs.declared.module.Function.{Function}
use Rattle.ir_model.specs.declared.module.Module.{Module}
use Rattle.pass_exits_proof.specs.split.rules.Splittable.{IsSplittable}
use Rattle.pass_exits_proof.proofs.exits.exited.Exited.{exited_module, signatures_same}

pub splittable_exited : (m : Module) (k : ℕ) (f : Function) (begin : ℕ) → IsSplittable m k f begin → IsSplittable (exited_module m) k f begin
splittable_exited m k f begin s =
    record {
      coroutine = s.coroutine;
      rules = go_by_signatures m (exited_module m) k f (signatures_same m) s.rules;
      once = s.once;
      calls = s.calls;
      switches = s.switches;
      named = s.named;
      front = s.front;
      begun = s.begun;
      tokens = s.tokens;
      edges = s.edges;
      returns = s.returns;
      crossing = s.crossing;
    }
