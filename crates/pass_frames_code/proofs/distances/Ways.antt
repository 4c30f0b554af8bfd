-- What the indices of a getelementptr add is its distance.
use Rattle.std.proofs.Common.{◌≡◌, ◌⊎◌, inl, inr, ℕ, ◌-◌, ◌+◌, ◌*◌, ◌%◌, ◌^◌, ◌<◌, Bool, List, [], ◌∷◌, refl, sym, ap, ◌∙◌, arith, pos, negsuc}
use Rattle.std.proofs.lemmas.Bool.{lt-ltb}
use Rattle.std.proofs.Math.Nat.{add-mod-mod, mod-add-mod, mod-eq_of_lt}
use Rattle.std.specs.Prelude.{None, Option, Some, unwrap_or, if◌then◌else◌}
use Rattle.pass_proofs.specs.ir_model.Layout.{field_offset, field_type, size_of, unnamed}
use Rattle.pass_proofs.specs.ir_model.Ty.{Ty, array, int, named, ptr, structure, token}
use Rattle.pass_proofs.specs.ir_model.declared.module.Module.{Module}
use Rattle.pass_proofs.specs.ir_model.declared.operand.Arg.{Arg}
use Rattle.pass_proofs.specs.ir_model.declared.operand.Operand.{Operand}
use Rattle.pass_proofs.specs.pass_distances.Ways.{field_number, inner_type, inner_ways, way_at, ways_of}
use Rattle.pass_frames_code.specs.Distances.{AreFields, AreFieldsInside, IsField, added, summed}
use Rattle.pass_proofs.specs.run_ints.Numbers.{bits_of}
use Rattle.pass_proofs.specs.run_ints.declared.num.Num.{Num}
use Rattle.pass_proofs.specs.run_memory.declared.pointer.Value.{Value}
use Rattle.pass_proofs.specs.run_step.Values.{Env, arg_value, capped, distance, index_of, indices_of, inner_distance, number_at, number_of_width, operand_value, part_at, plus, times}

-- sums that wrap go together either way
wrapped_sums : (m a b c : ℕ) → ((a + b) % m + c) % m ≡ (a + (b + c) % m) % m
wrapped_sums m a b c =
    let same : a + b + c ≡ a + (b + c) = omega arith in
    mod-add-mod (a + b) m c ∙ ap (λ (n : ℕ). n % m) same ∙ sym (add-mod-mod a (b + c) m)

plus_assoc : (s : ℕ) (e x : Option ℕ) → plus (plus (Some s) e) x ≡ plus (Some s) (plus e x)
plus_assoc s None x = refl
plus_assoc s (Some e) None = refl
plus_assoc s (Some e) (Some x) = ap (λ (n : ℕ). Some n) (wrapped_sums (2 ^ 64) s e x)

pub plus_none : (e : Option ℕ) → plus e None ≡ None
plus_none None = refl
plus_none (Some e) = refl

-- a poison index leaves no distance
pub inner_none : (m : Module) (t : Ty) (is : List (Option ℕ)) → inner_distance m t None is ≡ None
inner_none m t [] = refl
inner_none m t (i ∷ is) = inner_none m (part_at m (unnamed m t) i).1 is

-- ---- one index inside a type that is no name

-- what an index leads to, by the instructions as by the getelementptr, or there is no distance
pub record IsSamePart (m : Module) (env : Env) (u : Ty) (a : Arg) : Type 0 where
  pub far : (part_at m u (index_of (number_at a.ty (arg_value m env a)))).0 ≡ added m env (way_at m u a)
  pub inside : (part_at m u (index_of (number_at a.ty (arg_value m env a)))).1 ≡ inner_type u a

-- a literal of a field is itself as an index
literal_index : (k : ℕ) → k < 2 ^ 31
    → index_of (number_of_width 32 (Value.Int (record { width = 32; bits = k % 2 ^ 32 }))) ≡ Some k
literal_index k lt =
    ap (λ (n : ℕ). index_of (number_of_width 32 (Value.Int (record { width = 32; bits = n }))))
    (mod-eq_of_lt (omega arith))
    ∙ ap (λ (b : Bool). index_of (if b then Num.Is (record { width = 32; bits = k }) else Num.Poison))
    (lt-ltb k (2 ^ 32) (omega arith))
    ∙ ap (λ (b : Bool). Some (bits_of 64 (if b then pos k else negsuc (2 ^ 32 - 1 - k))))
    (lt-ltb (2 * k) (2 ^ 32) (omega arith))
    ∙ ap (λ (n : ℕ). Some n) (mod-eq_of_lt (omega arith))

pub field_index : (m : Module) (env : Env) (a : Arg) (k : ℕ) → a.ty ≡ int 32 → a.value ≡ Operand.Number (pos k)
    → k < 2 ^ 31 → index_of (number_at a.ty (arg_value m env a)) ≡ Some k
field_index m env a k t v lt =
    (λ i. index_of (number_at (t i) (operand_value m env (t i) (v i))))
    ∙ literal_index k lt

module _ (m : Module) (env : Env) where
  pub same_part : (u : Ty) (a : Arg) → IsField u a → (e : Option ℕ)
      → (part_at m u (index_of (number_at a.ty (arg_value m env a)))).0 ≡ e → (e ≡ None) ⊎ IsSamePart m env u a
  same_part (array n t) a h e d = inr (record { far = refl; inside = refl })
  same_part (structure ts) a h e d =
      let is : index_of (number_at a.ty (arg_value m env a)) ≡ Some h.0 = field_index m env a h.0 h.1 h.2 h.3 in
      let number : field_number a.value ≡ h.0 = ap field_number h.2 in
      inr (record {
        far = (λ i. Some (capped (field_offset m ts (unwrap_or (is i) 0))))
            ∙ (λ i. Some (capped (field_offset m ts (sym number i))));
        inside = (λ i. field_type ts (unwrap_or (is i) 0)) ∙ (λ i. field_type ts (sym number i));
      })
  same_part (int w) a h e d = inl (sym d)
  same_part ptr a h e d = inl (sym d)
  same_part token a h e d = inl (sym d)
  same_part (named g) a h e d = inl (sym d)

  pub inner_sum : (t : Ty) (s : ℕ) (e : Option ℕ) (args : List Arg) (r : ℕ) → AreFieldsInside m t args
      → inner_distance m t e (indices_of m env args) ≡ Some r
      → summed m env (plus (Some s) e) (inner_ways m t args) ≡ plus (Some s) (Some r)
  inner_sum t s e [] r h d = ap (plus (Some s)) d
  inner_sum t s e (a ∷ args) r h d =
      on (same_part (unnamed m t) a h.0 (part_at m (unnamed m t) (index_of (number_at a.ty (arg_value m env a)))).0
      refl) (inner_sum (inner_type (unnamed m t) a) s (plus e (added m env (way_at m (unnamed m t) a))) args r
      h.1)
    where
      on : ((part_at m (unnamed m t) (index_of (number_at a.ty (arg_value m env a)))).0 ≡ None)
          ⊎ IsSamePart m env (unnamed m t) a
          → (inner_distance m (inner_type (unnamed m t) a) (plus e (added m env (way_at m (unnamed m t) a)))
          (indices_of m env args) ≡ Some r
          → summed m env (plus (Some s) (plus e (added m env (way_at m (unnamed m t) a))))
          (inner_ways m (inner_type (unnamed m t) a) args) ≡ plus (Some s) (Some r))
          → summed m env (plus (Some s) e) (inner_ways m t (a ∷ args)) ≡ plus (Some s) (Some r)
      on (inl none) again =
          let lost : inner_distance m (part_at m (unnamed m t) (index_of (number_at a.ty (arg_value m env a)))).1
          (plus e (part_at m (unnamed m t) (index_of (number_at a.ty (arg_value m env a)))).0)
          (indices_of m env args) ≡ None =
          ap (λ (x : Option ℕ). inner_distance m
          (part_at m (unnamed m t) (index_of (number_at a.ty (arg_value m env a)))).1 x (indices_of m env args))
          (ap (plus e) none ∙ plus_none e)
          ∙ inner_none m (part_at m (unnamed m t) (index_of (number_at a.ty (arg_value m env a)))).1
          (indices_of m env args) in
          let not_there : None ≡ Some r = sym lost ∙ d in
          absurd (cc)
      on (inr p) again =
          ap (λ (x : Option ℕ). summed m env x (inner_ways m (inner_type (unnamed m t) a) args))
          (plus_assoc s e (added m env (way_at m (unnamed m t) a)))
          ∙ again ((λ i. inner_distance m (sym p.inside i) (plus e (sym p.far i)) (indices_of m env args)) ∙ d)

  -- ---- the whole getelementptr

  pub distance_sum : (ty : Ty) (args : List Arg) (s d : ℕ) → s < 2 ^ 64 → AreFields m ty args
      → distance m ty (indices_of m env args) ≡ Some d
      → summed m env (Some s) (ways_of m ty args) ≡ plus (Some s) (Some d)
  distance_sum ty [] s d low h e =
      let none : 0 ≡ d = cc in
      ap (λ (n : ℕ). Some n) (sym (mod-eq_of_lt low)) ∙ ap (λ (n : ℕ). Some (n % 2 ^ 64)) (omega arith)
  distance_sum ty (a ∷ args) s d low h e =
      inner_sum ty s (times (capped (size_of m ty)) (index_of (number_at a.ty (arg_value m env a)))) args d h e
