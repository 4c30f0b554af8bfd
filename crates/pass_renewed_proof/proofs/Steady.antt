-- The distance of a getelementptr is the same where indices into structures are literals and the other ones stand for those of the source.
use Rattle.std.proofs.Common.{◌≡◌, ℕ, List, [], ◌∷◌, Option, Some, None, refl, sym, ap, ◌∙◌, subst}
use Rattle.std.specs.Prelude.{unwrap_or}
use Rattle.pass_kept_proof.specs.run_memory.declared.pointer.Value.{Value}
use Rattle.pass_kept_proof.specs.ir_model.Layout.{field_offset, field_type, unnamed}
use Rattle.pass_kept_proof.specs.ir_model.Ty.{Ty, array, int, named, ptr, structure, token}
use Rattle.pass_kept_proof.specs.ir_model.declared.module.Module.{Module}
use Rattle.pass_kept_proof.specs.ir_model.declared.operand.Arg.{Arg}
use Rattle.pass_kept_proof.specs.ir_model.declared.operand.Operand.{Operand}
use Rattle.run_laws.specs.memory.Pointers.{Home, IsValue}
use Rattle.pass_kept_proof.specs.run_step.Values.{Env, arg_value, capped, distance, index_of, indices_of, inner_distance, number_at, number_of_width, operand_value, part_at, plus, times}
use Rattle.pass_renewed_proof.specs.SlotRules.{AreSteady, AreSteadyInside, IsNoLocal, IsSteady}
use Rattle.run_laws.specs.embedded.Related.{IsSameDistance}
use Rattle.run_laws.specs.changed.Changed.{Each}

module _ (homes : List Home) (m : Module) (env other : Env) where
  -- an index, which is the same where it isn't poison in the source
  abbrev index_at : Env → Arg → Option ℕ
  index_at e a = index_of (number_at a.ty (arg_value m e a))

  abbrev Stand : Arg → Type 0
  Stand a = IsValue homes (arg_value m env a) (arg_value m other a)

  width_same : (k : ℕ) (v w : Value) → IsValue homes v w → IsSameDistance (index_of (number_of_width k v)) (index_of (number_of_width k w))
  width_same k Value.Poison w h = tt
  width_same k (Value.Ptr p) w h = tt
  width_same k (Value.Int x) w h = subst (λ u. IsSameDistance (index_of (number_of_width k (Value.Int x))) (index_of (number_of_width k u))) (sym h) (itself (index_of (number_of_width k (Value.Int x))))
    where
      itself : (o : Option ℕ) → IsSameDistance o o
      itself None = tt
      itself (Some n) = refl

  number_same : (ty : Ty) (v w : Value) → IsValue homes v w → IsSameDistance (index_of (number_at ty v)) (index_of (number_at ty w))
  number_same (int k) v w h = width_same k v w h
  number_same ptr v w h = tt
  number_same token v w h = tt
  number_same (array n t) v w h = tt
  number_same (structure ts) v w h = tt
  number_same (named n) v w h = tt

  literal_same : (ty : Ty) (x : Operand) → IsNoLocal x → (e : Env) → operand_value m e ty x ≡ operand_value m [] ty x
  literal_same ty (Operand.Local v) h e = absurd h
  literal_same ty (Operand.Global n) h e = refl
  literal_same ty (Operand.Number z) h e = refl
  literal_same ty Operand.True h e = refl
  literal_same ty Operand.False h e = refl
  literal_same ty Operand.Null h e = refl
  literal_same ty Operand.None h e = refl
  literal_same ty Operand.Poison h e = refl

  index_literal : (a : Arg) → IsNoLocal a.value → (e : Env) → index_at e a ≡ index_at [] a
  index_literal a h e = ap (λ v. index_of (number_at a.ty v)) (literal_same a.ty a.value h e)

  nowhere : (is : List (Option ℕ)) (ty : Ty) → inner_distance m ty None is ≡ None
  nowhere [] ty = refl
  nowhere (i ∷ is) ty = nowhere is (part_at m (unnamed m ty) i).1

  times_same : (n : ℕ) (i j : Option ℕ) → IsSameDistance i j → IsSameDistance (times n i) (times n j)
  times_same n None j h = tt
  times_same n (Some k) j h = ap (times n) h

  plus_same : (d e i j : Option ℕ) → IsSameDistance d e → IsSameDistance i j → IsSameDistance (plus d i) (plus e j)
  plus_same None e i j h k = tt
  plus_same (Some x) e None j h k = tt
  plus_same (Some x) e (Some y) j h k = λ i. plus (h i) (k i)

  -- where one index leads
  abbrev IsPart : Option ℕ × Ty → Option ℕ × Ty → Ty → Type 0
  IsPart p q t = IsSameDistance p.0 q.0 × (p.1 ≡ t) × (q.1 ≡ t)

  part_same : (u : Ty) (a : Arg) → IsSteady u a.value → Stand a → IsPart (part_at m u (index_at env a)) (part_at m u (index_at other a)) (part_at m u (index_at [] a)).1
  part_same (array n t) a s h = (times_same _ _ _ (number_same a.ty _ _ h), refl, refl)
  part_same (structure ts) a s h =
      let e = index_literal a s env in
      let k = index_literal a s other in
      (ap (λ i. Some (capped (field_offset m ts (unwrap_or i 0)))) (k ∙ sym e), ap (λ i. field_type ts (unwrap_or i 0)) e, ap (λ i. field_type ts (unwrap_or i 0)) k)
  part_same (int w) a s h = (tt, refl, refl)
  part_same ptr a s h = (tt, refl, refl)
  part_same token a s h = (tt, refl, refl)
  part_same (named n) a s h = (tt, refl, refl)

  inner_same : (args : List Arg) (ty : Ty) (d e : Option ℕ) → IsSameDistance d e → AreSteadyInside m ty args → Each Stand args → IsSameDistance (inner_distance m ty d (indices_of m env args)) (inner_distance m ty e (indices_of m other args))
  inner_same [] ty d e h s k = h
  inner_same (a ∷ args) ty d e h s k =
      let p = part_same (unnamed m ty) a s.0 k.0 in
      on (part_at m (unnamed m ty) (index_at env a)) (part_at m (unnamed m ty) (index_at other a)) p (inner_same args (part_at m (unnamed m ty) (index_at [] a)).1 (plus d (part_at m (unnamed m ty) (index_at env a)).0) (plus e (part_at m (unnamed m ty) (index_at other a)).0) (plus_same d e _ _ h p.0) s.1 k.1)
    where
      on : (q r : Option ℕ × Ty) → IsPart q r (part_at m (unnamed m ty) (index_at [] a)).1 → IsSameDistance (inner_distance m (part_at m (unnamed m ty) (index_at [] a)).1 (plus d q.0) (indices_of m env args)) (inner_distance m (part_at m (unnamed m ty) (index_at [] a)).1 (plus e r.0) (indices_of m other args)) → IsSameDistance (inner_distance m q.1 (plus d q.0) (indices_of m env args)) (inner_distance m r.1 (plus e r.0) (indices_of m other args))
      on q r p h =
          subst (λ t. IsSameDistance (inner_distance m t (plus d q.0) (indices_of m env args)) (inner_distance m r.1 (plus e r.0) (indices_of m other args))) (sym p.1)
          (subst (λ t. IsSameDistance (inner_distance m (part_at m (unnamed m ty) (index_at [] a)).1 (plus d q.0) (indices_of m env args)) (inner_distance m t (plus e r.0) (indices_of m other args))) (sym p.2) h)

  itself : (o : Option ℕ) → IsSameDistance o o
  itself None = tt
  itself (Some n) = refl

  pub distance_same : (ty : Ty) (args : List Arg) → AreSteady m ty args → Each Stand args → IsSameDistance (distance m ty (indices_of m env args)) (distance m ty (indices_of m other args))
  distance_same ty [] s k = itself (Some 0)
  distance_same ty (a ∷ args) s k = inner_same args ty _ _ (times_same _ _ _ (number_same a.ty _ _ k.0)) s k.1
