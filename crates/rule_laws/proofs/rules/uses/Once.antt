-- Lemmas on once, that speak of no pass.
use Rattle.std.proofs.Common.{◌≡◌, ℕ, ◌≤◌, [], refl, sym, subst}
use Rattle.std.specs.Prelude.{None}
use Rattle.rule_laws.proofs.rules.local_rules.Names.{numbers}
use Rattle.rule_laws.proofs.rules.local_rules.Woven.{none_twice}
use Rattle.ir_laws.proofs.paths.source_rules.Locals.{Apart}
use Rattle.rule_laws.proofs.rules.source_rules.Locals.{names_are}
use Rattle.ir_parts.specs.Locals.{locals_of}
use Rattle.ir_laws.specs.ir_model.declared.module.Function.{Function}
use Rattle.rule_names.specs.Definitions.{first_twice}
use Rattle.rule_laws.proofs.rules.woven_rules.Once.{once_apart}
use Rattle.ir_laws.specs.facts.woven_rules.Pairs.{times}

-- a function whose names stand once defines none twice
pub none_twice_by : (l : ℕ) (g : Function) → ((v : ℕ) → times v (numbers g) ≤ 1) → first_twice [] (locals_of l g) ≡ None
none_twice_by l g h = none_twice [] (locals_of l g) (subst Apart (sym (names_are l g)) (once_apart (numbers g) h)) (λ n m. refl)
