-- What holds of the names of slots and of their addresses.
use Rattle.std.proofs.Common.{◌≡◌, ℕ, zero, suc, ◌⊎◌, inl, inr, Bool, true, false, List, [], ◌∷◌, length, Some, subst}
use Rattle.std.specs.Prelude.{flat_map, slice_get, if◌then◌else◌, ◌==◌}
use Rattle.run_laws.specs.ir_model.declared.instr.Instr.{Instr}
use Rattle.run_laws.specs.ir_model.declared.module.Block.{Block}
use Rattle.run_laws.specs.ir_model.declared.module.Function.{Function}
use Rattle.run_laws.specs.ir_model.declared.operand.Operand.{Operand}
use Rattle.run_laws.proofs.ir_paths.Search.{either, eq_from}
use Rattle.run_laws.specs.ir_paths.Slots.{addresses_of, addresses_within, allocas_in, allocas_of, geps_from, has_name, is_gep}
use Rattle.run_laws.specs.ir_paths.Windows.{points_where}
use Rattle.ir_laws.proofs.facts.Members.{each_joined as each_append, at_each as each_at}
use Rattle.run_laws.specs.changed.Changed.{Each}

module _ (P : ℕ → Type 0) where
  -- the result of an alloca or a getelementptr
  abbrev pub HoldsSlot : Instr → Type 0
  HoldsSlot (Instr.Alloca name ty align) = P name
  HoldsSlot (Instr.Gep name inbounds ty base indices) = P name
  HoldsSlot _ = Unit {0}

  geps_hold : (is_base : ℕ → Bool) (is : List Instr) → Each HoldsSlot is → Each P (geps_from is_base is)
  geps_hold is_base [] h = tt
  geps_hold is_base (Instr.Gep name inbounds ty (Operand.Local v) indices ∷ is) h =
      each_append P (if is_base v then name ∷ [] else []) (geps_from is_base is) (on (is_base v)) (geps_hold is_base is h.1)
    where
      on : (b : Bool) → Each P (if b then name ∷ [] else [])
      on true = (h.0, tt)
      on false = tt
  geps_hold is_base (_ ∷ is) h = geps_hold is_base is h.1

  allocas_hold : (is : List Instr) → Each HoldsSlot is → Each P (allocas_in is)
  allocas_hold [] h = tt
  allocas_hold (Instr.Alloca name ty align ∷ is) h = (h.0, allocas_hold is h.1)
  allocas_hold (_ ∷ is) h = allocas_hold is h.1

  flat_hold : (F : Block → List ℕ) → ((b : Block) → Each HoldsSlot b.instrs → Each P (F b)) → (bs : List Block) → Each (λ (b : Block). Each HoldsSlot b.instrs) bs → Each P (flat_map F bs)
  flat_hold F h [] k = tt
  flat_hold F h (b ∷ bs) k = each_append P (F b) (flat_map F bs) (h b k.0) (flat_hold F h bs k.1)

  each_has : (vs : List ℕ) (a : ℕ) → Each P vs → has_name vs a ≡ true → P a
  each_has [] a h e = absurd (cc)
  each_has (v ∷ vs) a h e = on (either (v == a) (has_name vs a) e) (each_has vs a h.1)
    where
      on : ((v == a) ≡ true) ⊎ (has_name vs a ≡ true) → (has_name vs a ≡ true → P a) → P a
      on (inl s) again = subst P (eq_from v a s) h.0
      on (inr s) again = again s

  module _ (f : Function) (slots : Each (λ (b : Block). Each HoldsSlot b.instrs) f.blocks) where
    pub alloca_holds : (k a : ℕ) → slice_get (allocas_of f) k ≡ Some a → P a
    alloca_holds k a e = each_at P (allocas_of f) k a (flat_hold (λ (b : Block). allocas_in b.instrs) (λ b h. allocas_hold b.instrs h) f.blocks slots) e

    within_hold : (n a : ℕ) → P a → Each P (addresses_within n f a)
    within_hold zero a h = (h, tt)
    within_hold (suc n) a h = (h, flat_hold (λ (b : Block). geps_from (has_name (addresses_within n f a)) b.instrs) (λ b k. geps_hold (has_name (addresses_within n f a)) b.instrs k) f.blocks slots)

    pub addresses_hold : (a : ℕ) → P a → Each P (addresses_of f a)
    addresses_hold a h = within_hold (length (points_where is_gep f)) a h

    pub address_holds : (a v : ℕ) → P a → has_name (addresses_of f a) v ≡ true → P v
    address_holds a v h e = each_has (addresses_of f a) v (addresses_hold a h) e
