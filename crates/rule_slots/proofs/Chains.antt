-- Addresses by steps of getelementptrs.
use Rattle.std.proofs.Common.{◌≡◌, ℕ, true, List, [], ◌∷◌, ◌++◌, map, ap, inl, inr}
use Rattle.std.specs.Prelude.{◌⊎◌}
use Rattle.flow_solver.specs.Paths.{IsListed}
use Rattle.ir_model.specs.declared.module.Block.{Block}
use Rattle.ir_model.specs.declared.module.Function.{Function}
use Rattle.ir_paths.specs.Slots.{addresses_of, has_name}
use Rattle.flow_facts.proofs.Chained.{IsAddress, address-complete, address-sound}
use Rattle.flow_facts.specs.Chains.{bases_by, bases_in}
use Rattle.rule_slots.specs.Steps.{steps_by, steps_in, steps_of, swapped}

-- ---- pairs the other way round

front : (x : ℕ × ℕ) (xs ys : List (ℕ × ℕ)) → IsListed x xs → IsListed x (xs ++ ys)
front x [] ys h = absurd h
front x (y ∷ xs) ys (inl e) = inl e
front x (y ∷ xs) ys (inr later) = inr (front x xs ys later)

back : (x : ℕ × ℕ) (xs ys : List (ℕ × ℕ)) → IsListed x ys → IsListed x (xs ++ ys)
back x [] ys h = h
back x (y ∷ xs) ys h = inr (back x xs ys h)

parts : (x : ℕ × ℕ) (xs ys : List (ℕ × ℕ)) → IsListed x (xs ++ ys) → IsListed x xs ⊎ IsListed x ys
parts x [] ys h = inr h
parts x (y ∷ xs) ys (inl e) = inl (inl e)
parts x (y ∷ xs) ys (inr later) =
    elim (parts x xs ys later) [
      | inl a ↦ inl (inr a)
      | inr b ↦ inr b
    ]

turned-to : (u v : ℕ) (xs : List (ℕ × ℕ)) → IsListed (v, u) xs → IsListed (u, v) (map swapped xs)
turned-to u v [] h = absurd h
turned-to u v (x ∷ xs) (inl e) = inl (ap swapped e)
turned-to u v (x ∷ xs) (inr later) = inr (turned-to u v xs later)

turned-from : (u v : ℕ) (xs : List (ℕ × ℕ)) → IsListed (u, v) (map swapped xs) → IsListed (v, u) xs
turned-from u v [] h = absurd h
turned-from u v (x ∷ xs) (inl e) = inl (ap swapped e)
turned-from u v (x ∷ xs) (inr later) = inr (turned-from u v xs later)

to-step : (u v : ℕ) (bs : List Block) → IsListed (v, u) (bases_by bs) → IsListed (u, v) (steps_by bs)
to-step u v [] h = absurd h
to-step u v (b ∷ bs) h = by (to-step u v bs) (parts (v, u) (bases_in b.instrs) (bases_by bs) h)
  where
    by : (IsListed (v, u) (bases_by bs) → IsListed (u, v) (steps_by bs)) → IsListed (v, u) (bases_in b.instrs) ⊎ IsListed (v, u) (bases_by bs) → IsListed (u, v) (steps_by (b ∷ bs))
    by later (inl here) = front (u, v) (steps_in b.instrs) (steps_by bs) (turned-to u v (bases_in b.instrs) here)
    by later (inr there) = back (u, v) (steps_in b.instrs) (steps_by bs) (later there)

from-step : (u v : ℕ) (bs : List Block) → IsListed (u, v) (steps_by bs) → IsListed (v, u) (bases_by bs)
from-step u v [] h = absurd h
from-step u v (b ∷ bs) h = by (from-step u v bs) (parts (u, v) (steps_in b.instrs) (steps_by bs) h)
  where
    by : (IsListed (u, v) (steps_by bs) → IsListed (v, u) (bases_by bs)) → IsListed (u, v) (steps_in b.instrs) ⊎ IsListed (u, v) (steps_by bs) → IsListed (v, u) (bases_by (b ∷ bs))
    by later (inl here) = front (v, u) (bases_in b.instrs) (bases_by bs) (turned-from u v (bases_in b.instrs) here)
    by later (inr there) = back (v, u) (bases_in b.instrs) (bases_by bs) (later there)

-- ---- addresses

module _ (f : Function) (a : ℕ) where
  -- a slot's address is one of them
  pub itself-is : has_name (addresses_of f a) a ≡ true
  itself-is = address-complete f a a IsAddress.Own

  -- and so is what a getelementptr makes of one
  pub step-is : (u v : ℕ) → IsListed (u, v) (steps_of f) → has_name (addresses_of f a) u ≡ true → has_name (addresses_of f a) v ≡ true
  step-is u v listed h = address-complete f a v (IsAddress.Next u v (from-step u v f.blocks listed) (address-sound f a u h))

  chain-by : (P : ℕ → Type 0) → P a → ((u v : ℕ) → IsListed (u, v) (steps_of f) → P u → P v) → (v : ℕ) → IsAddress (bases_by f.blocks) a v → P v
  chain-by P first next _ IsAddress.Own = first
  chain-by P first next _ (IsAddress.Next u v listed rest) = next u v (to-step u v f.blocks listed) (chain-by P first next u rest)

  -- there are no others
  pub addresses-by : (P : ℕ → Type 0) → P a → ((u v : ℕ) → IsListed (u, v) (steps_of f) → P u → P v) → (v : ℕ) → has_name (addresses_of f a) v ≡ true → P v
  addresses-by P first next v h = chain-by P first next v (address-sound f a v h)
