-- What is among definitions of names below a limit is below it.
use Rattle.std.proofs.Common.{◌≡◌, inl, inr, ℕ, ◌<◌, Bool, true, false, List, [], ◌∷◌, refl, arith, eqb-true}
use Rattle.std.specs.List.{list_any}
use Rattle.std.specs.Prelude.{◌&&◌, ◌||◌, ◌==◌}
use Rattle.ir_laws.proofs.facts.Truth.{and_second}
use Rattle.ir_laws.specs.flow_solver.Paths.{IsListed}
use Rattle.ir_parts.specs.declared.defined.Definition.{Definition}
use Rattle.rule_names.specs.Known.{is_defined, is_kind}

pub defined_low : (label : Bool) (ds : List Definition) (n limit : ℕ) → ((d : Definition) → IsListed d ds → d.name < limit) → is_defined label ds n ≡ true → n < limit
defined_low label [] n limit low e = absurd (cc)
defined_low label (d ∷ ds) n limit low e = on (is_kind label d && (d.name == n)) refl e (defined_low label ds n limit (λ x l. low x (inr l)))
  where
    on : (b : Bool) → (is_kind label d && (d.name == n)) ≡ b → (b || list_any (λ x. is_kind label x && (x.name == n)) ds) ≡ true → (is_defined label ds n ≡ true → n < limit) → n < limit
    on true here h rest =
        let same : d.name ≡ n = eqb-true d.name n (and_second (is_kind label d) (d.name == n) here) in
        let high : d.name < limit = low d (inl refl) in
        omega (arith, same, high)
    on false here h rest = rest h
