-- Where indices stand for the source's the distance of a getelementptr is the same, if the source has one.
use Rattle.std.proofs.Common.{◌≡◌, ◌⊎◌, inl, inr, ⊎_elim, ℕ, List, [], ◌∷◌, refl, sym, ap, ◌∙◌, subst}
use Rattle.std.specs.Prelude.{None, Option, Some}
use Rattle.pass_proofs.specs.ir_model.Layout.{size_of, unnamed}
use Rattle.pass_proofs.specs.ir_model.Ty.{Ty, array, int, structure}
use Rattle.pass_proofs.specs.ir_model.declared.module.Module.{Module}
use Rattle.pass_proofs.specs.ir_model.declared.operand.Arg.{Arg}
use Rattle.pass_proofs.specs.pass_distances.Ways.{inner_type}
use Rattle.pass_proofs.specs.pass_fetch.Fetching.{fetched_arg, fetched_args, fetched_operand, next_after}
use Rattle.pass_proofs.specs.pass_fetch.declared.fetch.Fetch.{Fetch}
use Rattle.pass_frames_code.proofs.distances.Ways.{IsSamePart, field_index, inner_none, plus_none, same_part}
use Rattle.pass_frames_code.specs.Distances.{AreFields, AreFieldsInside, IsField}
use Rattle.pass_frames_code.specs.Measured.{AreArgsStanding}
use Rattle.pass_proofs.specs.run_laws.embedded.Related.{IsSameDistance}
use Rattle.pass_proofs.specs.run_laws.memory.Pointers.{Home, IsValue}
use Rattle.pass_proofs.specs.run_memory.declared.pointer.Pointer.{Pointer}
use Rattle.pass_proofs.specs.run_memory.declared.pointer.Value.{Value}
use Rattle.pass_proofs.specs.run_step.Values.{Env, arg_value, capped, distance, index_of, indices_of, inner_distance, number_at, part_at, plus, times}

poison_index : (ty : Ty) → index_of (number_at ty Value.Poison) ≡ None
poison_index (int w) = refl
poison_index _ = refl

pointer_index : (ty : Ty) (p : Pointer) → index_of (number_at ty (Value.Ptr p)) ≡ None
pointer_index (int w) p = refl
pointer_index _ p = refl

pub itself : (d : Option ℕ) → IsSameDistance d d
itself None = tt
itself (Some n) = refl

pub none_same : (d e : Option ℕ) → d ≡ None → IsSameDistance d e
none_same d e none = subst (λ (x : Option ℕ). IsSameDistance x e) (sym none) tt

pub index_stands : (homes : List Home) (ty : Ty) (v u : Value) → IsValue homes v u
    → (index_of (number_at ty v) ≡ None) ⊎ (index_of (number_at ty u) ≡ index_of (number_at ty v))
index_stands homes ty Value.Poison u h = inl (poison_index ty)
index_stands homes ty (Value.Int n) u h = inr (ap (λ (x : Value). index_of (number_at ty x)) h)
index_stands homes ty (Value.Ptr p) u h = inl (pointer_index ty p)

module _ (t : List (Option Fetch)) (homes : List Home) (m k : Module) (env other : Env) where
  abbrev here : Arg → Option ℕ
  here a = index_of (number_at a.ty (arg_value m env a))

  abbrev there : ℕ → Arg → Option ℕ
  there n a = index_of (number_at a.ty (arg_value k other (fetched_arg t n a)))

  -- an index inside a type leads to the same part, or there is no distance
  same_index : (u : Ty) (a : Arg) (n : ℕ) → IsField u a
      → IsValue homes (arg_value m env a) (arg_value k other (fetched_arg t n a))
      → ((part_at m u (here a)).0 ≡ None) ⊎ (there n a ≡ here a)
  same_index (structure ts) a n f h =
      inr (field_index k other (fetched_arg t n a) f.0 f.1 (ap (fetched_operand t n) f.2) f.3
      ∙ sym (field_index m env a f.0 f.1 f.2 f.3))
  same_index (array s u) a n f h =
      ⊎_elim (λ none. inl (ap (times (capped (size_of m u))) none)) (λ same. inr same)
      (index_stands homes a.ty (arg_value m env a) (arg_value k other (fetched_arg t n a)) h)
  same_index _ a n f h = inl refl

  inner_stands : (u : Ty) (e : Option ℕ) (n : ℕ) (args : List Arg) → AreFieldsInside m u args
      → AreArgsStanding t homes m k env other n args
      → IsSameDistance (inner_distance m u e (indices_of m env args))
      (inner_distance m u e (indices_of k other (fetched_args t n args)))
  inner_stands u e n [] f h = itself e
  inner_stands u e n (a ∷ args) f h =
      on (same_part m env (unnamed m u) a f.0 (part_at m (unnamed m u) (here a)).0 refl)
      (same_index (unnamed m u) a n f.0 h.0)
      (λ d. inner_stands (inner_type (unnamed m u) a) d (next_after t n a.value) args f.1 h.1)
    where
      lost : (part_at m (unnamed m u) (here a)).0 ≡ None
          → IsSameDistance (inner_distance m u e (indices_of m env (a ∷ args)))
          (inner_distance m u e (indices_of k other (fetched_args t n (a ∷ args))))
      lost none =
          none_same (inner_distance m u e (indices_of m env (a ∷ args)))
          (inner_distance m u e (indices_of k other (fetched_args t n (a ∷ args))))
          (ap (λ (x : Option ℕ). inner_distance m (part_at m (unnamed m u) (here a)).1 x (indices_of m env args))
          (ap (plus e) none ∙ plus_none e)
          ∙ inner_none m (part_at m (unnamed m u) (here a)).1 (indices_of m env args))

      on : ((part_at m (unnamed m u) (here a)).0 ≡ None) ⊎ IsSamePart m env (unnamed m u) a
          → ((part_at m (unnamed m u) (here a)).0 ≡ None) ⊎ (there n a ≡ here a)
          → ((d : Option ℕ)
          → IsSameDistance (inner_distance m (inner_type (unnamed m u) a) d (indices_of m env args))
          (inner_distance m (inner_type (unnamed m u) a) d
          (indices_of k other (fetched_args t (next_after t n a.value) args))))
          → IsSameDistance (inner_distance m u e (indices_of m env (a ∷ args)))
          (inner_distance m u e (indices_of k other (fetched_args t n (a ∷ args))))
      on (inl none) s again = lost none
      on (inr p) (inl none) again = lost none
      on (inr p) (inr same) again =
          subst
          (λ (i : Option ℕ). IsSameDistance (inner_distance m u e (indices_of m env (a ∷ args)))
          (inner_distance m (part_at m (unnamed m u) i).1 (plus e (part_at m (unnamed m u) i).0)
          (indices_of k other (fetched_args t (next_after t n a.value) args)))) (sym same)
          (subst
          (λ (v : Ty).
          IsSameDistance
          (inner_distance m v (plus e (part_at m (unnamed m u) (here a)).0) (indices_of m env args))
          (inner_distance m v (plus e (part_at m (unnamed m u) (here a)).0)
          (indices_of k other (fetched_args t (next_after t n a.value) args)))) (sym p.inside)
          (again (plus e (part_at m (unnamed m u) (here a)).0)))

  -- the whole getelementptr
  pub distance_stands : (ty : Ty) (n : ℕ) (args : List Arg) → AreFields m ty args
      → AreArgsStanding t homes m k env other n args
      → IsSameDistance (distance m ty (indices_of m env args))
      (distance m ty (indices_of k other (fetched_args t n args)))
  distance_stands ty n [] f h = refl
  distance_stands ty n (a ∷ args) f h =
      ⊎_elim
      (λ (none : here a ≡ None).
      none_same (inner_distance m ty (times (capped (size_of m ty)) (here a)) (indices_of m env args))
      (inner_distance m ty (times (capped (size_of m ty)) (there n a))
      (indices_of k other (fetched_args t (next_after t n a.value) args)))
      (ap (λ (i : Option ℕ). inner_distance m ty (times (capped (size_of m ty)) i) (indices_of m env args)) none
      ∙ inner_none m ty (indices_of m env args)))
      (λ (same : there n a ≡ here a).
      subst
      (λ (i : Option ℕ). IsSameDistance
      (inner_distance m ty (times (capped (size_of m ty)) (here a)) (indices_of m env args))
      (inner_distance m ty (times (capped (size_of m ty)) i)
      (indices_of k other (fetched_args t (next_after t n a.value) args)))) (sym same)
      (inner_stands ty (times (capped (size_of m ty)) (here a)) (next_after t n a.value) args f h.1))
      (index_stands homes a.ty (arg_value m env a) (arg_value k other (fetched_arg t n a)) h.0)

pub same_distance : (t : List (Option Fetch)) (homes : List Home) (m k : Module) (env other : Env) (ty : Ty) (n : ℕ)
    (args : List Arg) → ((u : Ty) (is : List (Option ℕ)) → distance k u is ≡ distance m u is) → AreFields m ty args
    → AreArgsStanding t homes m k env other n args
    → IsSameDistance (distance m ty (indices_of m env args)) (distance k ty (indices_of k other (fetched_args t n
    args)))
same_distance t homes m k env other ty n args far f h =
    subst (IsSameDistance (distance m ty (indices_of m env args)))
    (sym (far ty (indices_of k other (fetched_args t n args)))) (distance_stands t homes m k env other ty n args f h)
