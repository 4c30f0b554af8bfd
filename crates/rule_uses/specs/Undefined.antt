-- Uses that some path from the entry reaches without the definition (rule F2).
use Rattle.std.specs.Prelude.{ℕ, List, [], ◌∷◌, Some, None, Option, map}
use Rattle.flow_blocks.specs.Edges.{block_edges}
use Rattle.ir_base.specs.declared.outcome.Place.{Place}
use Rattle.rule_uses.specs.Uses.{Use, values_at}
use Rattle.flow_solver.specs.Paths.{IsListed}
use Rattle.ir_model.specs.declared.module.Function.{Function}

-- A path of blocks leads from the entry to a block, and no block on it before this one makes the value.
pub data ReachesWithout (f : Function) (value : ℕ) : ℕ → Type 0 where
  Entry : ReachesWithout f value 0
  Next : (from to : ℕ) → ReachesWithout f value from → (IsListed value (values_at f from) → ⊥) → IsListed (from, to) (block_edges f) → ReachesWithout f value to

abbrev pub params_of : Function → List ℕ
params_of f = map (λ p. p.name) f.params

-- Such a path leads to the block of the use, which doesn't make the value before it. Parameters are defined at the entry.
pub record IsUndefined (f : Function) (u : Use) : Type 0 where
  pub reaches : ReachesWithout f u.value u.block
  pub not_before : IsListed u.value u.before → ⊥
  pub no_param : IsListed u.value (params_of f) → ⊥

-- the place of the first of these uses that is undefined, and none where all are defined
pub data IsFirstUndefined (f : Function) : List Use → Option Place → Type 0 where
  Nowhere : IsFirstUndefined f [] None
  Here : (u : Use) (us : List Use) → IsUndefined f u → IsFirstUndefined f (u ∷ us) (Some u.place)
  Later : (u : Use) (us : List Use) (found : Option Place) → (IsUndefined f u → ⊥) → IsFirstUndefined f us found → IsFirstUndefined f (u ∷ us) found
