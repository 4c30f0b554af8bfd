-- The distance of a getelementptr is the same in both runs, where indices into structures are no locals and the other
-- ones stand for those of the first run.
use Rattle.std.proofs.Common.{◌≡◌, ℕ, zero, suc, List, [], ◌∷◌, Option, Some, None, refl, sym, ap, ◌∙◌, subst}
use Rattle.std.specs.Prelude.{unwrap_or}
use Rattle.pass_elide_proof.proofs.Modules.{inits}
use Rattle.pass_elide_proof.specs.Elision.{Elision, elided_code}
use Rattle.pass_elide_proof.specs.Ordinary.{AreSteady, AreSteadyInside, IsSteady}
use Rattle.pass_proofs.specs.ir_model.Layout.{Extent, extent_of, extent_or, field_offset, field_offset_from, field_type, no_fields, size_of, unnamed, with_field}
use Rattle.pass_proofs.specs.ir_model.Ty.{Ty, Tys, array, field, int, named, none, ptr, structure, token}
use Rattle.pass_proofs.specs.ir_model.declared.module.Module.{Module}
use Rattle.pass_proofs.specs.ir_model.declared.operand.Arg.{Arg}
use Rattle.pass_proofs.specs.ir_model.declared.operand.Operand.{Operand}
use Rattle.pass_proofs.specs.run_laws.changed.Changed.{Each}
use Rattle.pass_proofs.specs.run_laws.embedded.Related.{IsSameDistance}
use Rattle.pass_proofs.specs.run_laws.memory.Pointers.{Home, IsValue}
use Rattle.pass_proofs.specs.run_laws.transfer.Alone.{IsNoLocal}
use Rattle.pass_proofs.specs.run_memory.declared.pointer.Value.{Value}
use Rattle.pass_proofs.specs.run_step.Values.{Env, arg_value, capped, distance, index_of, indices_of, inner_distance, number_at, number_of_width, operand_value, part_at, plus, times}

same_itself : (o : Option ℕ) → IsSameDistance o o
same_itself None = tt
same_itself (Some n) = refl

times_same : (n : ℕ) (i j : Option ℕ) → IsSameDistance i j → IsSameDistance (times n i) (times n j)
times_same n None j h = tt
times_same n (Some k) j h = ap (times n) h

plus_same : (d e i j : Option ℕ) → IsSameDistance d e → IsSameDistance i j → IsSameDistance (plus d i) (plus e j)
plus_same None e i j h k = tt
plus_same (Some x) e None j h k = tt
plus_same (Some x) e (Some y) j h k = λ i. plus (h i) (k i)

literal_same : (m : Module) (ty : Ty) (x : Operand) → IsNoLocal x → (env : Env)
    → operand_value m env ty x ≡ operand_value m [] ty x
literal_same m ty (Operand.Local v) h env = absurd h
literal_same m ty (Operand.Global n) h env = refl
literal_same m ty (Operand.Number z) h env = refl
literal_same m ty Operand.True h env = refl
literal_same m ty Operand.False h env = refl
literal_same m ty Operand.Null h env = refl
literal_same m ty Operand.None h env = refl
literal_same m ty Operand.Poison h env = refl

module _ (e : Elision) where
  abbrev m : Module
  m = e.code

  abbrev q : Module
  q = elided_code e

  -- ---- both modules have the same types

  offsets_same : (x : Extent) (ts : Tys) (i : ℕ) → field_offset_from q x ts i ≡ field_offset_from m x ts i
  offsets_same x none i = refl
  offsets_same x (field t ts) zero = refl
  offsets_same x (field t ts) (suc i) = offsets_same (with_field x (extent_or (extent_of m.types t))) ts i

  parts_same : (ty : Ty) (i : Option ℕ) → part_at q ty i ≡ part_at m ty i
  parts_same (array n t) i = refl
  parts_same (structure ts) i =
      λ j. (Some (capped (offsets_same no_fields ts (unwrap_or i 0) j)), field_type ts (unwrap_or i 0))
  parts_same (int w) i = refl
  parts_same ptr i = refl
  parts_same token i = refl
  parts_same (named n) i = refl

  unnamed_same : (ty : Ty) → unnamed q ty ≡ unnamed m ty
  unnamed_same (array n t) = refl
  unnamed_same (structure ts) = refl
  unnamed_same (int w) = refl
  unnamed_same ptr = refl
  unnamed_same token = refl
  unnamed_same (named n) = refl

  inner_moved : (is : List (Option ℕ)) (ty : Ty) (d : Option ℕ) → inner_distance q ty d is ≡ inner_distance m ty d is
  inner_moved [] ty d = refl
  inner_moved (i ∷ is) ty d =
      let part : part_at q (unnamed q ty) i ≡ part_at m (unnamed m ty) i
      = ap (λ (u : Ty). part_at q u i) (unnamed_same ty) ∙ parts_same (unnamed m ty) i in
      ap (λ (p : Option ℕ × Ty). inner_distance q p.1 (plus d p.0) is) part
      ∙ inner_moved is (part_at m (unnamed m ty) i).1 (plus d (part_at m (unnamed m ty) i).0)

  moved_distance : (ty : Ty) (is : List (Option ℕ)) → distance q ty is ≡ distance m ty is
  moved_distance ty [] = refl
  moved_distance ty (i ∷ is) = inner_moved is ty (times (capped (size_of m ty)) i)

  -- ---- indices

  module _ (homes : List Home) (env other : Env) where
    -- an index of the first run, and of the second
    abbrev here : Arg → Option ℕ
    here a = index_of (number_at a.ty (arg_value m env a))

    abbrev there : Arg → Option ℕ
    there a = index_of (number_at a.ty (arg_value q other a))

    abbrev literal : Arg → Option ℕ
    literal a = index_of (number_at a.ty (arg_value m [] a))

    abbrev pub Stand : Arg → Type 0
    Stand a = IsValue homes (arg_value m env a) (arg_value q other a)

    width_same : (k : ℕ) (v w : Value) → IsValue homes v w
        → IsSameDistance (index_of (number_of_width k v)) (index_of (number_of_width k w))
    width_same k Value.Poison w h = tt
    width_same k (Value.Ptr p) w h = tt
    width_same k (Value.Int x) w h =
        subst (λ (u : Value). IsSameDistance (index_of (number_of_width k (Value.Int x)))
        (index_of (number_of_width k u))) (sym h) (same_itself (index_of (number_of_width k (Value.Int x))))

    number_same : (ty : Ty) (v w : Value) → IsValue homes v w
        → IsSameDistance (index_of (number_at ty v)) (index_of (number_at ty w))
    number_same (int k) v w h = width_same k v w h
    number_same ptr v w h = tt
    number_same token v w h = tt
    number_same (array n t) v w h = tt
    number_same (structure ts) v w h = tt
    number_same (named n) v w h = tt

    here_literal : (a : Arg) → IsNoLocal a.value → here a ≡ literal a
    here_literal a h = ap (λ (v : Value). index_of (number_at a.ty v)) (literal_same m a.ty a.value h env)

    there_literal : (a : Arg) → IsNoLocal a.value → there a ≡ literal a
    there_literal a h =
        ap (λ (v : Value). index_of (number_at a.ty v)) (literal_same q a.ty a.value h other ∙ inits e a.ty a.value)

    -- where one index leads
    abbrev IsPart : Option ℕ × Ty → Option ℕ × Ty → Ty → Type 0
    IsPart p r t = IsSameDistance p.0 r.0 × (p.1 ≡ t) × (r.1 ≡ t)

    part_same : (u : Ty) (a : Arg) → IsSteady u a.value → Stand a
        → IsPart (part_at m u (here a)) (part_at m u (there a)) (part_at m u (literal a)).1
    part_same (array n t) a s h =
        (times_same (capped (size_of m t)) (here a) (there a) (number_same a.ty _ _ h), refl, refl)
    part_same (structure ts) a s h =
        let one = here_literal a s in
        let two = there_literal a s in (
          ap (λ (i : Option ℕ). Some (capped (field_offset m ts (unwrap_or i 0)))) (two ∙ sym one),
          ap (λ (i : Option ℕ). field_type ts (unwrap_or i 0)) one,
          ap (λ (i : Option ℕ). field_type ts (unwrap_or i 0)) two,
        )
    part_same (int w) a s h = (tt, refl, refl)
    part_same ptr a s h = (tt, refl, refl)
    part_same token a s h = (tt, refl, refl)
    part_same (named n) a s h = (tt, refl, refl)

    inner_same : (args : List Arg) (ty : Ty) (x y : Option ℕ) → IsSameDistance x y → AreSteadyInside m ty args
        → Each Stand args
        → IsSameDistance (inner_distance m ty x (indices_of m env args))
        (inner_distance m ty y (indices_of q other args))
    inner_same [] ty x y h s k = h
    inner_same (a ∷ args) ty x y h s k =
        let u = unnamed m ty in
        let p = part_same u a s.0 k.0 in
        on (part_at m u (here a)) (part_at m u (there a)) p
        (inner_same args (part_at m u (literal a)).1 (plus x (part_at m u (here a)).0)
        (plus y (part_at m u (there a)).0)
        (plus_same x y (part_at m u (here a)).0 (part_at m u (there a)).0 h p.0) s.1 k.1)
      where
        on : (p r : Option ℕ × Ty) → IsPart p r (part_at m (unnamed m ty) (literal a)).1
            → IsSameDistance (inner_distance m (part_at m (unnamed m ty) (literal a)).1 (plus x p.0)
            (indices_of m env args))
            (inner_distance m (part_at m (unnamed m ty) (literal a)).1 (plus y r.0) (indices_of q other args))
            → IsSameDistance (inner_distance m p.1 (plus x p.0) (indices_of m env args))
            (inner_distance m r.1 (plus y r.0) (indices_of q other args))
        on p r k h =
            subst (λ (t : Ty). IsSameDistance (inner_distance m t (plus x p.0) (indices_of m env args))
            (inner_distance m r.1 (plus y r.0) (indices_of q other args))) (sym k.1)
            (subst (λ (t : Ty). IsSameDistance (inner_distance m (part_at m (unnamed m ty) (literal a)).1 (plus x p.0)
            (indices_of m env args))
            (inner_distance m t (plus y r.0) (indices_of q other args))) (sym k.2) h)

    same_distance : (ty : Ty) (args : List Arg) → AreSteady m ty args → Each Stand args
        → IsSameDistance (distance m ty (indices_of m env args)) (distance m ty (indices_of q other args))
    same_distance ty [] s k = same_itself (Some 0)
    same_distance ty (a ∷ args) s k =
        inner_same args ty (times (capped (size_of m ty)) (here a)) (times (capped (size_of m ty)) (there a))
        (times_same (capped (size_of m ty)) (here a) (there a) (number_same a.ty _ _ k.0)) s k.1

    pub goes_as_far : (ty : Ty) (args : List Arg) → AreSteady m ty args → Each Stand args
        → IsSameDistance (distance m ty (indices_of m env args)) (distance q ty (indices_of q other args))
    goes_as_far ty args s k =
        subst (λ (o : Option ℕ). IsSameDistance (distance m ty (indices_of m env args)) o)
        (sym (moved_distance ty (indices_of q other args))) (same_distance ty args s k)
