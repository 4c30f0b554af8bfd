-- A renumbered function breaks each rule at the same place.
use Rattle.std.proofs.Common.{ℕ, List, subst, sym}
use Rattle.ir_laws.specs.ir_base.declared.name.Name.{Name}
use Rattle.ir_laws.specs.ir_model.declared.module.Function.{Function}
use Rattle.ir_laws.specs.ir_model.declared.module.Module.{Module}
use Rattle.rule_laws.proofs.rules.order_rules.Called.{calls_same}
use Rattle.rule_laws.proofs.rules.order_rules.Edges.{edges_same}
use Rattle.rule_laws.proofs.rules.order_rules.Local.{allocas_same, closed_same, depths_same, extents_same, marked_same, placed_same, transfers_same}
use Rattle.rule_laws.proofs.rules.order_rules.Names.{definitions_same, known_same}
use Rattle.rule_laws.proofs.rules.order_rules.Uses.{uses_same}
use Rattle.rule_laws.proofs.rules.order_rules.Values.{values_same}
use Rattle.ir_laws.specs.facts.order_rules.Renumbered.{IsRenumbered, StaysApart, renumbered_function}
use Rattle.rule_laws.specs.rules.order_rules.Same.{HaveSameFaults}

renumbered_same : (to : ℕ → ℕ) (names : List Name) → StaysApart to → (m : Module) (k : ℕ) (f : Function) → HaveSameFaults m k f (renumbered_function to names f)
renumbered_same to names apart m k f =
    record {
      definitions = definitions_same to names apart k f;
      known = known_same to names apart m k f;
      depths = depths_same to names m k f;
      calls = calls_same to names m k f;
      values = values_same to names apart m k f;
      closed_calls = closed_same to names m k f;
      extents = extents_same to names m k f;
      transfers = transfers_same to names m k f;
      edges = edges_same to apart names k f;
      uses = λ found. uses_same to apart names f k found;
      allocas = allocas_same to names m k f;
      placed = placed_same to names m k f;
      marks = marked_same to names m k f apart;
    }

pub all_same : (m : Module) (k : ℕ) (f g : Function) → IsRenumbered f g → HaveSameFaults m k f g
all_same m k f g h = subst (HaveSameFaults m k f) (sym h.is) (renumbered_same h.to g.names h.apart m k f)
