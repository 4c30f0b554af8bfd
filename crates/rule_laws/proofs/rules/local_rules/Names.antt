-- Lemmas on names, that speak of no pass.
use Rattle.std.proofs.Common.{◌≡◌, inl, inr, ℕ, ◌+◌, List, [], ◌∷◌, ◌++◌, refl, sym}
use Rattle.std.specs.Prelude.{map}
use Rattle.rule_uses.specs.Undefined.{params_of}
use Rattle.rule_laws.proofs.rules.source_rules.Locals.{block_names, name_of}
use Rattle.ir_laws.proofs.facts.Lists.{row_of}
use Rattle.ir_laws.specs.flow_solver.Paths.{IsListed}
use Rattle.ir_parts.specs.declared.defined.Definition.{Definition}
use Rattle.ir_laws.specs.ir_model.declared.module.Function.{Function}

-- the numbers that a function defines
abbrev pub numbers : Function → List ℕ
numbers f = params_of f ++ row_of block_names f.blocks

pub is_definition : (ds : List Definition) (n : ℕ) → IsListed n (map name_of ds) → (d : Definition) × (IsListed d ds × (d.name ≡ n))
is_definition [] n h = absurd h
is_definition (d ∷ ds) n (inl e) = (d, (inl refl, sym e))
is_definition (d ∷ ds) n (inr h) = let x = is_definition ds n h in (x.0, (inr x.1.0, x.1.1))
