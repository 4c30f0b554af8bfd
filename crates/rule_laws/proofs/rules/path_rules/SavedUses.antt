-- Lemmas on saved uses, that speak of no pass.
use Rattle.std.proofs.Common.{List, [], ◌∷◌}
use Rattle.std.specs.Prelude.{None}
use Rattle.rule_uses.specs.Undefined.{IsFirstUndefined, IsUndefined, Later, Nowhere}
use Rattle.rule_uses.specs.Uses.{Use}
use Rattle.ir_laws.specs.ir_model.declared.module.Function.{Function}
use Rattle.ir_laws.specs.run_laws.changed.Changed.{Each}

pub all_defined : (f : Function) (us : List Use) → Each (λ u. IsUndefined f u → ⊥) us → IsFirstUndefined f us None
all_defined f [] h = Nowhere
all_defined f (u ∷ us) h = Later u us None h.0 (all_defined f us h.1)
