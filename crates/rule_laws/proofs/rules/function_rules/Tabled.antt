-- Lemmas on tabled, that speak of no pass.
use Rattle.std.proofs.Common.{length, subst, sym, ℕ, ◌-◌, ◌<◌}
use Rattle.rule_laws.proofs.rules.local_rules.Names.{is_definition, numbers}
use Rattle.rule_laws.proofs.rules.source_rules.Locals.{names_are}
use Rattle.rule_laws.proofs.rules.source_rules.Shaped.{name_listed}
use Rattle.rule_laws.specs.rules.source_rules.Named.{HasTabledLocals}
use Rattle.ir_laws.specs.flow_solver.Paths.{IsListed}
use Rattle.ir_parts.specs.Locals.{locals_of}
use Rattle.ir_laws.specs.ir_model.declared.module.Function.{Function}

-- ---- definitions, and the numbers that they define

pub numbers_below : (func : ℕ) (f : Function) → HasTabledLocals func f → (n : ℕ) → IsListed n (numbers f) → n < length f.names
numbers_below func f tabled n listed =
    let x = is_definition (locals_of func f) n (subst (IsListed n) (sym (names_are func f)) listed) in
    subst (λ (k : ℕ). k < length f.names) x.1.1 (tabled x.0 x.1.0)

pub tabled_by : (func : ℕ) (f : Function) → ((n : ℕ) → IsListed n (numbers f) → n < length f.names) → HasTabledLocals func f
tabled_by func f below d listed = below d.name (subst (IsListed d.name) (names_are func f) (name_listed d (locals_of func f) listed))
