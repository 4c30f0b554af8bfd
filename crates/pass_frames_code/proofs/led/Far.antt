-- Where the operands of a getelementptr stand for the source's it goes as far, if the source's distance isn't poison.
use Rattle.std.proofs.Common.{◌≡◌, ◌⊎◌, inl, inr, ⊎_elim, ℕ, true, List, ◌∷◌, refl, sym, ap, ◌∙◌, subst}
use Rattle.std.specs.Prelude.{None, Option, Some}
use Rattle.pass_proofs.specs.ir_model.Layout.{size_of, unnamed}
use Rattle.pass_proofs.specs.ir_model.Ty.{Ty, array, structure}
use Rattle.pass_proofs.specs.ir_model.declared.instr.Instr.{Instr}
use Rattle.pass_proofs.specs.ir_model.declared.module.Module.{Module}
use Rattle.pass_proofs.specs.ir_model.declared.operand.Arg.{Arg}
use Rattle.pass_proofs.specs.ir_model.declared.operand.Operand.{Operand}
use Rattle.pass_proofs.specs.pass_distances.Ways.{inner_type}
use Rattle.pass_frames_code.proofs.distances.Indices.{index_stands, itself, none_same}
use Rattle.pass_frames_code.proofs.distances.Ways.{IsSamePart, field_index, inner_none, plus_none, same_part}
use Rattle.pass_frames_code.specs.Related.{Building}
use Rattle.pass_frames_code.specs.Stepping.{GoesAsFar, HasFieldIndices}
use Rattle.pass_frames_code.specs.Distances.{AreFields, AreFieldsInside, IsField}
use Rattle.pass_proofs.specs.run_laws.embedded.Related.{IsSameDistance}
use Rattle.pass_proofs.specs.run_laws.memory.Pointers.{Home, IsValue}
use Rattle.pass_proofs.specs.run_laws.transfer.Shapes.{Alloca, ArgStays, Binary, Call, Cast, Empty, Gep, Icmp, InstrStays, Load, Pair, Pairwise, Select, Store}
use Rattle.pass_proofs.specs.run_laws.transfer.Transfer.{AreSameDistances, StandsFor}
use Rattle.pass_proofs.specs.run_step.Step.{AtInstr, Context}
use Rattle.pass_proofs.specs.run_step.Values.{Env, arg_value, capped, distance, index_of, indices_of, inner_distance, number_at, operand_value, part_at, plus, times}

module _ (homes : List Home) (m k : Module) (env other : Env) where
  abbrev R : Operand → Operand → Type 0
  R a c = (ty : Ty) → IsValue homes (operand_value m env ty a) (operand_value k other ty c)

  abbrev here : Arg → Option ℕ
  here a = index_of (number_at a.ty (arg_value m env a))

  abbrev there : Arg → Option ℕ
  there c = index_of (number_at c.ty (arg_value k other c))

  one_index : (a c : Arg) → ArgStays R a c → (here a ≡ None) ⊎ (there c ≡ here a)
  one_index a c h =
      subst
      (λ (ty : Ty). (here a ≡ None) ⊎ (index_of (number_at ty (operand_value k other ty c.value)) ≡ here a)) (sym h.ty)
      (index_stands homes a.ty (arg_value m env a) (operand_value k other a.ty c.value) (h.value a.ty))

  -- an index inside a type leads to the same part, or there is no distance
  same_index : (u : Ty) (a c : Arg) → IsField u a → ArgStays R a c
      → ((part_at m u (here a)).0 ≡ None) ⊎ (there c ≡ here a)
  same_index (structure ts) a c f h =
      ⊎_elim (λ none. let no : None ≡ Some f.0 = sym none ∙ field_index m env a f.0 f.1 f.2 f.3 in absurd (cc))
      (λ same. inr same) (one_index a c h)
  same_index (array s u) a c f h =
      ⊎_elim (λ none. inl (ap (times (capped (size_of m u))) none)) (λ same. inr same) (one_index a c h)
  same_index _ a c f h = inl refl

  inner_stands : (u : Ty) (e : Option ℕ) (args now : List Arg) → AreFieldsInside m u args
      → Pairwise (ArgStays R) args now
      → IsSameDistance (inner_distance m u e (indices_of m env args)) (inner_distance m u e (indices_of k other now))
  inner_stands u e _ _ f Empty = itself e
  inner_stands u e _ _ f (Pair a c args now h rest) =
      on (same_part m env (unnamed m u) a f.0 (part_at m (unnamed m u) (here a)).0 refl)
      (same_index (unnamed m u) a c f.0 h)
      (λ d. inner_stands (inner_type (unnamed m u) a) d args now f.1 rest)
    where
      lost : (part_at m (unnamed m u) (here a)).0 ≡ None
          → IsSameDistance (inner_distance m u e (indices_of m env (a ∷ args)))
          (inner_distance m u e (indices_of k other (c ∷ now)))
      lost none =
          none_same (inner_distance m u e (indices_of m env (a ∷ args)))
          (inner_distance m u e (indices_of k other (c ∷ now)))
          (ap (λ (x : Option ℕ). inner_distance m (part_at m (unnamed m u) (here a)).1 x (indices_of m env args))
          (ap (plus e) none ∙ plus_none e)
          ∙ inner_none m (part_at m (unnamed m u) (here a)).1 (indices_of m env args))

      on : ((part_at m (unnamed m u) (here a)).0 ≡ None) ⊎ IsSamePart m env (unnamed m u) a
          → ((part_at m (unnamed m u) (here a)).0 ≡ None) ⊎ (there c ≡ here a)
          → ((d : Option ℕ)
          → IsSameDistance (inner_distance m (inner_type (unnamed m u) a) d (indices_of m env args))
          (inner_distance m (inner_type (unnamed m u) a) d (indices_of k other now)))
          → IsSameDistance (inner_distance m u e (indices_of m env (a ∷ args)))
          (inner_distance m u e (indices_of k other (c ∷ now)))
      on (inl none) s again = lost none
      on (inr p) (inl none) again = lost none
      on (inr p) (inr same) again =
          subst
          (λ (i : Option ℕ). IsSameDistance (inner_distance m u e (indices_of m env (a ∷ args)))
          (inner_distance m (part_at m (unnamed m u) i).1 (plus e (part_at m (unnamed m u) i).0)
          (indices_of k other now))) (sym same)
          (subst
          (λ (v : Ty).
          IsSameDistance
          (inner_distance m v (plus e (part_at m (unnamed m u) (here a)).0) (indices_of m env args))
          (inner_distance m v (plus e (part_at m (unnamed m u) (here a)).0) (indices_of k other now))) (sym p.inside)
          (again (plus e (part_at m (unnamed m u) (here a)).0)))

  -- the whole getelementptr
  pub distance_goes : (ty : Ty) (args now : List Arg) → AreFields m ty args → Pairwise (ArgStays R) args now
      → IsSameDistance (distance m ty (indices_of m env args)) (distance m ty (indices_of k other now))
  distance_goes ty _ _ f Empty = refl
  distance_goes ty _ _ f (Pair a c args now h rest) =
      ⊎_elim
      (λ (none : here a ≡ None).
      none_same (inner_distance m ty (times (capped (size_of m ty)) (here a)) (indices_of m env args))
      (inner_distance m ty (times (capped (size_of m ty)) (there c)) (indices_of k other now))
      (ap (λ (i : Option ℕ). inner_distance m ty (times (capped (size_of m ty)) i) (indices_of m env args)) none
      ∙ inner_none m ty (indices_of m env args)))
      (λ (same : there c ≡ here a).
      subst
      (λ (i : Option ℕ). IsSameDistance
      (inner_distance m ty (times (capped (size_of m ty)) (here a)) (indices_of m env args))
      (inner_distance m ty (times (capped (size_of m ty)) i) (indices_of k other now))) (sym same)
      (inner_stands ty (times (capped (size_of m ty)) (here a)) args now f rest))
      (one_index a c h)

pub goes_as_far : (homes : List Home) (c d : Context) (env other : Env)
    → ((u : Ty) (is : List (Option ℕ)) → distance d.code u is ≡ distance c.code u is) → (i j : Instr)
    → HasFieldIndices c.code i → InstrStays (StandsFor true (IsValue homes) c d env other) i j
    → AreSameDistances c d env other (AtInstr i) (AtInstr j)
goes_as_far homes c d env other far _ _ f (Binary r op flags ty a b a' b' h k) = tt
goes_as_far homes c d env other far _ _ f (Icmp r pred ty a b a' b' h k) = tt
goes_as_far homes c d env other far _ _ f (Select r y y' a b a' b' h k l) = tt
goes_as_far homes c d env other far _ _ f (Cast r op nneg a a' to h) = tt
goes_as_far homes c d env other far _ _ f (Alloca r ty align) = tt
goes_as_far homes c d env other far _ _ f (Load r ty p p' align h) = tt
goes_as_far homes c d env other far _ _ f (Store a a' p p' align h k) = tt
goes_as_far homes c d env other far _ _ f (Gep r inbounds ty p p' indices now h k) =
    subst (IsSameDistance (distance c.code ty (indices_of c.code env indices)))
    (sym (far ty (indices_of d.code other now)))
    (distance_goes homes c.code d.code env other ty indices now f k)
goes_as_far homes c d env other far _ _ f (Call r must_tail ty callee callee' args now h k) = tt

-- so it does in the framed module, which has the same types
pub far_there : (b : Building) (c : Context) (env : Env) (i : Instr)
    → ((u : Ty) (is : List (Option ℕ)) → distance b.framed_code u is ≡ distance c.code u is)
    → HasFieldIndices c.code i → GoesAsFar b c env i
far_there b c env (Instr.Gep r inbounds ty p indices) far f = λ homes d other j code shape.
    goes_as_far homes c d env other (λ u is. ap (λ (m : Module). distance m u is) code ∙ far u is)
    (Instr.Gep r inbounds ty p indices) j f shape
far_there b c env (Instr.Binary r op flags ty p q) far f = λ homes d other j code shape. tt
far_there b c env (Instr.Icmp r pred ty p q) far f = λ homes d other j code shape. tt
far_there b c env (Instr.Select r k p q) far f = λ homes d other j code shape. tt
far_there b c env (Instr.Cast r op nneg a to) far f = λ homes d other j code shape. tt
far_there b c env (Instr.Alloca r ty align) far f = λ homes d other j code shape. tt
far_there b c env (Instr.Load r ty p align) far f = λ homes d other j code shape. tt
far_there b c env (Instr.Store a p align) far f = λ homes d other j code shape. tt
far_there b c env (Instr.Call r must_tail ty callee args) far f = λ homes d other j code shape. tt
