-- Where the indices of a getelementptr stand for those of the framed run, it leads as far, or there is no distance.
use Rattle.std.proofs.Common.{◌≡◌, ◌⊎◌, inl, inr, ℕ, ◌*◌, ◌-◌, ◌%◌, ◌^◌, ◌<◌, Bool, List, [], ◌∷◌, refl, sym, ap, ◌∙◌, subst, arith, pos, negsuc}
use Rattle.std.proofs.lemmas.Bool.{lt-ltb}
use Rattle.std.proofs.Math.Nat.{mod-eq_of_lt}
use Rattle.std.specs.Prelude.{None, Option, Some, unwrap_or, if◌then◌else◌}
use Rattle.pass_proofs.specs.ir_model.Layout.{field_type, size_of, unnamed}
use Rattle.pass_proofs.specs.ir_model.Ty.{Ty, Tys, array, int, named, ptr, structure, token}
use Rattle.pass_proofs.specs.ir_model.declared.module.Module.{Module}
use Rattle.pass_proofs.specs.ir_model.declared.operand.Arg.{Arg}
use Rattle.pass_proofs.specs.ir_model.declared.operand.Operand.{Operand}
use Rattle.pass_split_proof.specs.ready.Fields.{AreFieldIndices, AreInnerIndices, IsFieldIndex, number_in, type_inside}
use Rattle.pass_proofs.specs.run_ints.Numbers.{bits_of}
use Rattle.pass_proofs.specs.run_ints.declared.num.Num.{Num}
use Rattle.pass_proofs.specs.run_laws.changed.Changed.{Each}
use Rattle.pass_proofs.specs.run_laws.embedded.Related.{IsSameDistance}
use Rattle.pass_proofs.specs.run_laws.memory.Pointers.{Home, IsValue}
use Rattle.pass_proofs.specs.run_memory.declared.pointer.Pointer.{Pointer}
use Rattle.pass_proofs.specs.run_memory.declared.pointer.Value.{Value}
use Rattle.pass_proofs.specs.run_step.Values.{Env, arg_value, capped, distance, index_of, indices_of, inner_distance, number_at, number_of_width, operand_value, part_at, plus, times}

itself : (d : Option ℕ) → IsSameDistance d d
itself None = tt
itself (Some n) = refl

none_same : (d e : Option ℕ) → d ≡ None → IsSameDistance d e
none_same d e none = subst (λ (x : Option ℕ). IsSameDistance x e) (sym none) tt

plus_none : (e : Option ℕ) → plus e None ≡ None
plus_none None = refl
plus_none (Some e) = refl

inner_none : (m : Module) (t : Ty) (is : List (Option ℕ)) → inner_distance m t None is ≡ None
inner_none m t [] = refl
inner_none m t (i ∷ is) = inner_none m (part_at m (unnamed m t) i).1 is

poison_index : (ty : Ty) → index_of (number_at ty Value.Poison) ≡ None
poison_index (int w) = refl
poison_index _ = refl

pointer_index : (ty : Ty) (p : Pointer) → index_of (number_at ty (Value.Ptr p)) ≡ None
pointer_index (int w) p = refl
pointer_index _ p = refl

index_stands : (homes : List Home) (ty : Ty) (v u : Value) → IsValue homes v u
    → (index_of (number_at ty v) ≡ None) ⊎ (index_of (number_at ty u) ≡ index_of (number_at ty v))
index_stands homes ty Value.Poison u h = inl (poison_index ty)
index_stands homes ty (Value.Int n) u h = inr (ap (λ (x : Value). index_of (number_at ty x)) h)
index_stands homes ty (Value.Ptr p) u h = inl (pointer_index ty p)

-- a literal of a field is itself as an index
literal_index : (k : ℕ) → k < 2 ^ 31
    → index_of (number_of_width 32 (Value.Int (record { width = 32; bits = k % 2 ^ 32 }))) ≡ Some k
literal_index k lt =
    ap (λ (n : ℕ). index_of (number_of_width 32 (Value.Int (record { width = 32; bits = n }))))
    (mod-eq_of_lt (omega arith))
    ∙ ap (λ (b : Bool). index_of (if b then Num.Is (record { width = 32; bits = k }) else Num.Poison))
    (lt-ltb k (2 ^ 32) (omega arith))
    ∙ ap (λ (b : Bool). Some (bits_of 64 (if b then pos k else negsuc (2 ^ 32 - 1 - k))))
    (lt-ltb (2 * k) (2 ^ 32) (omega arith))
    ∙ ap (λ (n : ℕ). Some n) (mod-eq_of_lt (omega arith))

pub field_index : (m : Module) (env : Env) (a : Arg) (k : ℕ) → a.ty ≡ int 32 → a.value ≡ Operand.Number (pos k)
    → k < 2 ^ 31 → index_of (number_at a.ty (arg_value m env a)) ≡ Some k
field_index m env a k t v lt =
    (λ i. index_of (number_at (t i) (operand_value m env (t i) (v i))))
    ∙ literal_index k lt

module _ (homes : List Home) (m n : Module) (env other : Env) where
  abbrev here : Arg → Option ℕ
  here a = index_of (number_at a.ty (arg_value m env a))

  abbrev there : Arg → Option ℕ
  there a = index_of (number_at a.ty (arg_value n other a))

  -- an index leads nowhere, or to the same part in both runs, which is of its type
  data Leads (u : Ty) (a : Arg) : Type 0 where
    Nowhere : (part_at m u (index_of (number_at a.ty (arg_value m env a)))).0 ≡ None → Leads u a
    Inside : index_of (number_at a.ty (arg_value n other a)) ≡ index_of (number_at a.ty (arg_value m env a))
        → (part_at m u (index_of (number_at a.ty (arg_value m env a)))).1 ≡ type_inside u a → Leads u a

  field_leads : (ts : Tys) (a : Arg) (k : ℕ) → a.ty ≡ int 32 → a.value ≡ Operand.Number (pos k) → k < 2 ^ 31
      → Leads (structure ts) a
  field_leads ts a k t v lt =
      let ours = field_index m env a k t v lt in
      let theirs = field_index n other a k t v lt in
      let number : number_in a.value ≡ k = ap number_in v in
      Inside (theirs ∙ sym ours)
      ((λ i. field_type ts (unwrap_or (ours i) 0)) ∙ (λ i. field_type ts (sym number i)))

  leads : (u : Ty) (a : Arg) → IsFieldIndex u a → IsValue homes (arg_value m env a) (arg_value n other a) → Leads u a
  leads (structure ts) a f h = field_leads ts a f.0 f.1 f.2 f.3
  leads (array s u) a f h = on (index_stands homes a.ty (arg_value m env a) (arg_value n other a) h)
    where
      on : (index_of (number_at a.ty (arg_value m env a)) ≡ None) ⊎ (index_of (number_at a.ty (arg_value n other a))
          ≡ index_of (number_at a.ty (arg_value m env a))) → Leads (array s u) a
      on (inl none) = Nowhere (ap (times (capped (size_of m u))) none)
      on (inr same) = Inside same refl
  leads (int w) a f h = Nowhere refl
  leads ptr a f h = Nowhere refl
  leads token a f h = Nowhere refl
  leads (named x) a f h = Nowhere refl

  abbrev Stand : List Arg → Type 0
  Stand args = Each (λ (a : Arg). IsValue homes (arg_value m env a) (arg_value n other a)) args

  inner_same : (t : Ty) (e : Option ℕ) (args : List Arg) → AreFieldIndices m t args
      → Each (λ (a : Arg). IsValue homes (arg_value m env a) (arg_value n other a)) args
      → IsSameDistance (inner_distance m t e (indices_of m env args)) (inner_distance m t e (indices_of n other args))
  inner_same t e [] f h = itself e
  inner_same t e (a ∷ args) f h = on (leads (unnamed m t) a f.0 h.0)
      (λ d. inner_same (type_inside (unnamed m t) a) d args f.1 h.1)
    where
      on : Leads (unnamed m t) a → ((d : Option ℕ) → IsSameDistance
          (inner_distance m (type_inside (unnamed m t) a) d (indices_of m env args))
          (inner_distance m (type_inside (unnamed m t) a) d (indices_of n other args)))
          → IsSameDistance (inner_distance m t e (indices_of m env (a ∷ args)))
          (inner_distance m t e (indices_of n other (a ∷ args)))
      on (Nowhere none) again = none_same (inner_distance m t e (indices_of m env (a ∷ args)))
          (inner_distance m t e (indices_of n other (a ∷ args)))
          (ap (λ (x : Option ℕ). inner_distance m (part_at m (unnamed m t) (here a)).1 x (indices_of m env args))
          (ap (plus e) none ∙ plus_none e)
          ∙ inner_none m (part_at m (unnamed m t) (here a)).1 (indices_of m env args))
      on (Inside same inside) again =
          subst (λ (i : Option ℕ). IsSameDistance (inner_distance m t e (indices_of m env (a ∷ args)))
          (inner_distance m (part_at m (unnamed m t) i).1 (plus e (part_at m (unnamed m t) i).0)
          (indices_of n other args))) (sym same)
          (subst (λ (v : Ty). IsSameDistance
          (inner_distance m v (plus e (part_at m (unnamed m t) (here a)).0) (indices_of m env args))
          (inner_distance m v (plus e (part_at m (unnamed m t) (here a)).0) (indices_of n other args))) (sym inside)
          (again (plus e (part_at m (unnamed m t) (here a)).0)))

  by_first : (ty : Ty) (a : Arg) (args : List Arg) → AreFieldIndices m ty args
      → Each (λ (b : Arg). IsValue homes (arg_value m env b) (arg_value n other b)) args
      → (index_of (number_at a.ty (arg_value m env a)) ≡ None) ⊎ (index_of (number_at a.ty (arg_value n other a))
      ≡ index_of (number_at a.ty (arg_value m env a)))
      → IsSameDistance (distance m ty (indices_of m env (a ∷ args))) (distance m ty (indices_of n other (a ∷ args)))
  by_first ty a args f h (inl none) = none_same (distance m ty (indices_of m env (a ∷ args)))
      (distance m ty (indices_of n other (a ∷ args)))
      (ap (λ (i : Option ℕ). inner_distance m ty (times (capped (size_of m ty)) i) (indices_of m env args)) none
      ∙ inner_none m ty (indices_of m env args))
  by_first ty a args f h (inr same) =
      subst (λ (i : Option ℕ). IsSameDistance
      (inner_distance m ty (times (capped (size_of m ty)) (here a)) (indices_of m env args))
      (inner_distance m ty (times (capped (size_of m ty)) i) (indices_of n other args))) (sym same)
      (inner_same ty (times (capped (size_of m ty)) (here a)) args f h)

  pub same_distance : (ty : Ty) (args : List Arg) → AreInnerIndices m ty args
      → Each (λ (a : Arg). IsValue homes (arg_value m env a) (arg_value n other a)) args
      → ((is : List (Option ℕ)) → distance n ty is ≡ distance m ty is)
      → IsSameDistance (distance m ty (indices_of m env args)) (distance n ty (indices_of n other args))
  same_distance ty [] f h far = subst (λ (d : Option ℕ). IsSameDistance (Some 0) d) (sym (far [])) refl
  same_distance ty (a ∷ args) f h far =
      subst (λ (d : Option ℕ). IsSameDistance (distance m ty (indices_of m env (a ∷ args))) d)
      (sym (far (indices_of n other (a ∷ args))))
      (by_first ty a args f h.1 (index_stands homes a.ty (arg_value m env a) (arg_value n other a) h.0))
