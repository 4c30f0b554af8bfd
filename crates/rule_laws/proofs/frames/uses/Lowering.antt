-- What stands in the place of an instruction makes what the instruction makes, and uses what the instruction uses, begin's value where it asks for it, or what stands before it there.
use Rattle.std.proofs.Common.{◌≡◌, ◌⊎◌, inl, inr, ℕ, ◌+◌, Bool, true, false, List, [], ◌∷◌, ◌++◌, refl, sym, ap, ◌∙◌, subst}
use Rattle.std.specs.List.{list_all}
use Rattle.std.specs.Prelude.{None, Option, Some, option_to_list, pos, slice_get, ◌&&◌}
use Rattle.ir_laws.specs.ir_base.declared.outcome.Place.{Place}
use Rattle.rule_uses.specs.Uses.{locals_in}
use Rattle.ir_laws.proofs.facts.Truth.{and_first, and_second, holds}
use Rattle.rule_laws.proofs.rules.source_rules.Locals.{made_by}
use Rattle.ir_laws.proofs.facts.Lists.{row_of}
use Rattle.ir_laws.specs.flow_solver.Paths.{IsListed}
use Rattle.ir_parts.specs.Contents.{arg_operands, instr_operands, result_of}
use Rattle.ir_parts.specs.Parts.{OfInstr}
use Rattle.pass_intrinsics.specs.Lowered.{allocates, begin_memory, begin_stores, destroy_call, done_test, freed_by, is_final_at, lowered, number_of_save, operand_at, promise_distance, resume_call, resumed_by, save_or_none, set_address, set_number, set_truth, truth_of}
use Rattle.pass_intrinsics.specs.Shapes.{given_name, is_true}
use Rattle.pass_intrinsics.specs.declared.shape.Part.{Part}
use Rattle.pass_intrinsics.specs.declared.shape.Shape.{Shape}
use Rattle.ir_laws.specs.ir_model.Ty.{Ty}
use Rattle.ir_laws.specs.ir_model.declared.instr.Instr.{Instr}
use Rattle.ir_laws.specs.ir_model.declared.module.Function.{Function}
use Rattle.ir_laws.specs.ir_model.declared.module.Module.{Module}
use Rattle.ir_laws.specs.ir_model.declared.operand.Arg.{Arg}
use Rattle.ir_laws.specs.ir_model.declared.operand.Callee.{Callee}
use Rattle.ir_laws.specs.ir_model.declared.operand.Intrinsic.{Intrinsic}
use Rattle.ir_laws.specs.ir_model.declared.operand.Operand.{Operand}
use Rattle.ir_laws.specs.ir_paths.Windows.{is_call_of}
use Rattle.rule_laws.proofs.rules.uses.Plain.{IsPlain, args_pass, calls_intrinsic, has_no_token, is_no_token, is_plain_kind, operands_scalar, scalar_local}
use Rattle.rule_laws.proofs.frames.uses.Plain.{all_wanted_scalar, operand_given}
use Rattle.rule_laws.proofs.rules.replaced.OwnKinds.{MakesIn}
use Rattle.ir_laws.specs.facts.replaced.Splittable.{asks_begin}
use Rattle.rule_types.specs.Signatures.{are_wanted, calls_otherwise, is_result}
use Rattle.rule_types.specs.Wants.{intrinsic_params, intrinsic_result}
use Rattle.rule_types.specs.declared.wants.Wanted.{Wanted}
use Rattle.rule_values.specs.Instrs.{fits_instr, passes}
use Rattle.rule_values.specs.Kinds.{result_kind, value_kind}
use Rattle.rule_values.specs.declared.kinds.Kind.{Kind}

-- an instruction of a function has the value as an operand, or it asks for begin, whose value it is, or the value is the address that a
-- ramp is given
pub data ComesBy (f : Function) (s : Shape) (part : Part) (i : Instr) (v : ℕ) : Type 0 where
  OfOperand : IsPlain f v → IsListed v (locals_in (instr_operands i)) → ComesBy f s part i v
  OfBegin : v ≡ s.begin → asks_begin i ≡ true → ComesBy f s part i v
  OfGiven : part ≡ Part.GivenRamp → v ≡ given_name s → ComesBy f s part i v

-- each local that instructions use is made before among them, or comes by the instruction in whose place they stand
abbrev pub AreFrom : Function → Shape → Part → Instr → List ℕ → List Instr → Type 0
AreFrom f s part i made [] = Unit {0}
AreFrom f s part i made (j ∷ js) = ((v : ℕ) → IsListed v (locals_in (instr_operands j)) → IsListed v made ⊎ ComesBy f s part i v) × AreFrom f s part i (made_by j ++ made) js

-- what stands in an instruction's place
pub record IsLowered (f : Function) (s : Shape) (part : Part) (i : Instr) : Type 0 where
  pub makes : (n v : ℕ) → result_of i ≡ Some v → IsPlain f v → IsListed v (row_of made_by (lowered s part n i))
  pub uses : (n : ℕ) → AreFrom f s part i [] (lowered s part n i)

-- what the rules say of an instruction
pub record IsRuled (m : Module) (f : Function) (s : Shape) (i : Instr) : Type 0 where
  pub place : Place
  pub fits : fits_instr m (value_kind f) i ≡ true
  pub calls : calls_otherwise m place (OfInstr i) ≡ false
  pub kinds : MakesIn (value_kind f) i
  pub suspend : (v : ℕ) → is_call_of Intrinsic.CoroSuspend i ≡ true → result_of i ≡ Some v → IsPlain f v → ⊥
  pub begin : (v : ℕ) → is_call_of Intrinsic.CoroBegin i ≡ true → result_of i ≡ Some v → v ≡ s.begin
  pub operands : (v : ℕ) → IsListed v (locals_in (instr_operands i)) → is_plain_kind (value_kind f v) ≡ true → IsPlain f v

listed_one : (o : Option ℕ) (v : ℕ) → o ≡ Some v → IsListed v (option_to_list o ++ [])
listed_one None v e = absurd (cc)
listed_one (Some r) v e = let same : v ≡ r = cc in inl same

-- ---- what is made

module _ (m : Module) (f : Function) (s : Shape) (part : Part) where
  -- no integer or pointer is of another kind
  not_plain : (o : Option Kind) (v : ℕ) → value_kind f v ≡ o → is_plain_kind o ≡ false → IsPlain f v → ⊥
  not_plain o v e tokenless p = let t : true ≡ false = sym p.scalar ∙ ap is_plain_kind e ∙ tokenless in absurd (cc)

  no_void : (x : Intrinsic) (ty : Option Ty) (v : ℕ) → ty ≡ None → Some (result_kind (Callee.Intrinsic x) ty) ≡ value_kind f v → IsPlain f v → ⊥
  no_void x ty v none e p = not_plain (Some Kind.Other) v (sym e ∙ ap (λ (t : Option Ty). Some (result_kind (Callee.Intrinsic x) t)) none) refl p

  no_save : (ty : Option Ty) (v : ℕ) → Some (result_kind (Callee.Intrinsic Intrinsic.CoroSave) ty) ≡ value_kind f v → IsPlain f v → ⊥
  no_save None v e p = not_plain (Some Kind.Other) v (sym e) refl p
  no_save (Some t) v e p = not_plain (Some Kind.Saved) v (sym e) refl p

  no_result : (ty : Option Ty) → is_result None ty ≡ true → ty ≡ None
  no_result None e = refl
  no_result (Some t) e = absurd (cc)

  abbrev Made : ℕ → ℕ → Bool → Option Ty → List Arg → Intrinsic → Type 0
  Made n v must_tail ty args x = IsListed v (row_of made_by (lowered s part n (Instr.Call (Some v) must_tail ty (Callee.Intrinsic x) args)))

  call_makes : (n v : ℕ) (must_tail : Bool) (ty : Option Ty) (x : Intrinsic) (args : List Arg) → (is_result (intrinsic_result x) ty && are_wanted (intrinsic_params x) args) ≡ true → IsRuled m f s (Instr.Call (Some v) must_tail ty (Callee.Intrinsic x) args) → IsPlain f v → Made n v must_tail ty args x
  call_makes n v must_tail ty Intrinsic.CoroSizeI32 args w h p = inl refl
  call_makes n v must_tail ty Intrinsic.CoroSizeI64 args w h p = inl refl
  call_makes n v must_tail ty Intrinsic.CoroAlignI32 args w h p = inl refl
  call_makes n v must_tail ty Intrinsic.CoroAlignI64 args w h p = inl refl
  call_makes n v must_tail ty Intrinsic.CoroAlloc args w h p = inl refl
  call_makes n v must_tail ty Intrinsic.CoroBegin args w h p = inl (h.begin v refl refl)
  call_makes n v must_tail ty Intrinsic.CoroFree args w h p = inl refl
  call_makes n v must_tail ty Intrinsic.CoroFrame args w h p = inl refl
  call_makes n v must_tail ty Intrinsic.CoroSave args w h p = absurd (no_save ty v (h.kinds v refl) p)
  call_makes n v must_tail ty Intrinsic.CoroSuspend args w h p = absurd (h.suspend v refl refl p)
  call_makes n v must_tail ty Intrinsic.CoroEnd args w h p = inl refl
  call_makes n v must_tail ty Intrinsic.CoroResume args w h p =
      absurd (no_void Intrinsic.CoroResume ty v (no_result ty (and_first (is_result None ty) (are_wanted (intrinsic_params Intrinsic.CoroResume) args) w)) (h.kinds v refl) p)
  call_makes n v must_tail ty Intrinsic.CoroDestroy args w h p =
      absurd (no_void Intrinsic.CoroDestroy ty v (no_result ty (and_first (is_result None ty) (are_wanted (intrinsic_params Intrinsic.CoroDestroy) args) w)) (h.kinds v refl) p)
  call_makes n v must_tail ty Intrinsic.CoroDone args w h p = inr (inl refl)
  call_makes n v must_tail ty Intrinsic.CoroPromise args w h p = inl refl
  call_makes n v must_tail ty Intrinsic.CoroId args w h p = inl refl
  call_makes n v must_tail ty Intrinsic.LifetimeStart args w h p = inl refl
  call_makes n v must_tail ty Intrinsic.LifetimeEnd args w h p = inl refl
  call_makes n v must_tail ty Intrinsic.MemcpyI64 args w h p = inl refl
  call_makes n v must_tail ty Intrinsic.MemcpyI32 args w h p = inl refl

  result_made : (n v : ℕ) (i : Instr) → IsRuled m f s i → result_of i ≡ Some v → IsPlain f v → IsListed v (row_of made_by (lowered s part n i))
  result_made n v (Instr.Call None must_tail ty callee args) h e p = absurd (cc)
  result_made n v (Instr.Call (Some r) must_tail ty (Callee.Intrinsic x) args) h e p =
      let same : r ≡ v = cc in
      subst (λ (u : ℕ). IsListed u (row_of made_by (lowered s part n (Instr.Call (Some r) must_tail ty (Callee.Intrinsic x) args)))) same
      (call_makes n r must_tail ty x args (holds (is_result (intrinsic_result x) ty && are_wanted (intrinsic_params x) args) h.calls) h (subst (IsPlain f) (sym same) p))
  result_made n v (Instr.Call (Some r) must_tail ty (Callee.Named c) args) h e p = listed_one (Some r) v e
  result_made n v (Instr.Call (Some r) must_tail ty (Callee.Allocator a) args) h e p = listed_one (Some r) v e
  result_made n v (Instr.Call (Some r) must_tail ty (Callee.Local c) args) h e p = listed_one (Some r) v e
  result_made n v i h e p = listed_one (result_of i) v e

  -- ---- what is used

  own_operands : (made : List ℕ) (i : Instr) → ((v : ℕ) → IsListed v (locals_in (instr_operands i)) → IsPlain f v) → AreFrom f s part i made (i ∷ [])
  own_operands made i h = ((λ v l. inr (OfOperand (h v l) l)), tt)

  module _ (r : Option ℕ) (must_tail : Bool) (ty : Option Ty) (args : List Arg) where
    abbrev call : Intrinsic → Instr
    call x = Instr.Call r must_tail ty (Callee.Intrinsic x) args

    abbrev From : Intrinsic → List ℕ → List Instr → Type 0
    From x = AreFrom f s part (call x)

    numbers : (x : Intrinsic) (o : Option ℕ) (w k : ℕ) → From x [] (set_number o w k)
    numbers x None w k = tt
    numbers x (Some v) w k = ((λ u l. absurd l), tt)

    truths : (x : Intrinsic) (o : Option ℕ) (b : Bool) → From x [] (set_truth o (truth_of b))
    truths x None b = tt
    truths x (Some v) true = ((λ u l. absurd l), tt)
    truths x (Some v) false = ((λ u l. absurd l), tt)

    frame : (x : Intrinsic) (made : List ℕ) → asks_begin (call x) ≡ true → (v : ℕ) → IsListed v (s.begin ∷ []) → IsListed v made ⊎ ComesBy f s part (call x) v
    frame x made asks v (inl e) = inr (OfBegin e asks)
    frame x made asks v (inr l) = absurd l

    frames : (x : Intrinsic) (o : Option ℕ) → asks_begin (call x) ≡ true → From x [] (set_address o (Operand.Local s.begin) (pos 0))
    frames x None asks = tt
    frames x (Some v) asks = (frame x [] asks, tt)

    no_frames : (o : Option ℕ) → From Intrinsic.CoroFree [] (set_address o Operand.Null (pos 0))
    no_frames None = tt
    no_frames (Some v) = ((λ u l. absurd l), tt)

    freed : (q : Part) (o : Option ℕ) → From Intrinsic.CoroFree [] (set_address o (freed_by s q) (pos 0))
    freed Part.GivenRamp o = no_frames o
    freed Part.Cleanup o = no_frames o
    freed Part.Ramp o = frames Intrinsic.CoroFree o refl
    freed Part.Resume o = frames Intrinsic.CoroFree o refl
    freed Part.Destroy o = frames Intrinsic.CoroFree o refl

    saved : (n : ℕ) (o : Option ℕ) → From Intrinsic.CoroSave [] (save_or_none s n o)
    saved n None = tt
    saved n (Some j) = (frame Intrinsic.CoroSave [] refl, (made_here, (resumes (is_final_at (slice_get s.suspends j)), tt)))
      where
        made_here : (v : ℕ) → IsListed v (n ∷ []) → IsListed v (n ∷ []) ⊎ ComesBy f s part (call Intrinsic.CoroSave) v
        made_here v l = inl l

        resumes : (b : Bool) (v : ℕ) → IsListed v (locals_in (resumed_by s b ∷ Operand.Local s.begin ∷ [])) → IsListed v (n ∷ []) ⊎ ComesBy f s part (call Intrinsic.CoroSave) v
        resumes true v l = frame Intrinsic.CoroSave (n ∷ []) refl v l
        resumes false v l = frame Intrinsic.CoroSave (n ∷ []) refl v l

    -- an operand at a position where the table has no token
    module _ (x : Intrinsic) (wanted : are_wanted (intrinsic_params x) args ≡ true) (passed : list_all (passes (value_kind f) (Callee.Intrinsic x)) args ≡ true) (plain : (v : ℕ) → IsListed v (locals_in (arg_operands args)) → is_plain_kind (value_kind f v) ≡ true → IsPlain f v) where
      given : (at : ℕ) (made : List ℕ) → has_no_token (intrinsic_params x) at ≡ true → (v : ℕ) → IsListed v (locals_in (operand_at args at ∷ [])) → IsListed v made ⊎ ComesBy f s part (call x) v
      given at made tokenless v l =
          let h = operand_given (value_kind f) (Callee.Intrinsic x) (intrinsic_params x) args at v wanted tokenless passed l in
          inr (OfOperand (plain v h.1 h.0) h.1)

      or_given : (at n : ℕ) (made : List ℕ) → has_no_token (intrinsic_params x) at ≡ true → IsListed n made → (v : ℕ) → IsListed v (n ∷ locals_in (operand_at args at ∷ [])) → IsListed v made ⊎ ComesBy f s part (call x) v
      or_given at n made tokenless l v (inl e) = inl (subst (λ (u : ℕ). IsListed u made) (sym e) l)
      or_given at n made tokenless l v (inr h) = given at made tokenless v h

      begins : (n : ℕ) → has_no_token (intrinsic_params x) 1 ≡ true → From x [] (begin_stores s part n (begin_memory s part args))
      begins n tokenless = (memory part refl, ((λ v l. inl l), ((λ v l. inl l), ((λ v l. on v l), tt))))
        where
          memory : (q : Part) → part ≡ q → (v : ℕ) → IsListed v (locals_in (begin_memory s q args ∷ [])) → IsListed v [] ⊎ ComesBy f s part (call x) v
          memory Part.GivenRamp e v (inl l) = inr (OfGiven e l)
          memory Part.GivenRamp e v (inr l) = absurd l
          memory Part.Ramp e v l = given 1 [] tokenless v l
          memory Part.Resume e v l = given 1 [] tokenless v l
          memory Part.Destroy e v l = given 1 [] tokenless v l
          memory Part.Cleanup e v l = given 1 [] tokenless v l

          on : (v : ℕ) → IsListed v (n ∷ []) → IsListed v (n ∷ s.begin ∷ []) ⊎ ComesBy f s part (call x) v
          on v (inl e) = inl (inl e)
          on v (inr h) = absurd h

      resumes : (n : ℕ) → has_no_token (intrinsic_params x) 0 ≡ true → From x [] (resume_call n (operand_at args 0))
      resumes n tokenless = (given 0 [] tokenless, (or_given 0 n (n ∷ []) tokenless (inl refl), tt))

      destroys : (n : ℕ) → has_no_token (intrinsic_params x) 0 ≡ true → From x [] (destroy_call n (operand_at args 0))
      destroys n tokenless = (given 0 [] tokenless, ((λ v l. inl l), (or_given 0 (n + 1) ((n + 1) ∷ n ∷ []) tokenless (inl refl), tt)))

      tests : (n : ℕ) (o : Option ℕ) → has_no_token (intrinsic_params x) 0 ≡ true → From x [] (done_test n o (operand_at args 0))
      tests n None tokenless = tt
      tests n (Some v) tokenless = (given 0 [] tokenless, ((λ u l. inl l), tt))

      promises : (o : Option ℕ) (b : Bool) → has_no_token (intrinsic_params x) 0 ≡ true → From x [] (set_address o (operand_at args 0) (promise_distance b))
      promises None b tokenless = tt
      promises (Some v) b tokenless = (given 0 [] tokenless, tt)

      kept : list_all (λ (w : Wanted). is_no_token w.ty) (intrinsic_params x) ≡ true → From x [] (call x ∷ [])
      kept tokenless = own_operands [] (call x) (λ v l. plain v l (scalar_local (value_kind f) (arg_operands args) (all_wanted_scalar (value_kind f) (Callee.Intrinsic x) (intrinsic_params x) args wanted tokenless passed) v l))

    module _ (n : ℕ) where
      call_uses : (x : Intrinsic) → (is_result (intrinsic_result x) ty && are_wanted (intrinsic_params x) args) ≡ true → list_all (passes (value_kind f) (Callee.Intrinsic x)) args ≡ true → ((v : ℕ) → IsListed v (locals_in (arg_operands args)) → is_plain_kind (value_kind f v) ≡ true → IsPlain f v) → From x [] (lowered s part n (call x))
      call_uses Intrinsic.CoroSizeI32 w p h = numbers Intrinsic.CoroSizeI32 r 32 s.size
      call_uses Intrinsic.CoroSizeI64 w p h = numbers Intrinsic.CoroSizeI64 r 64 s.size
      call_uses Intrinsic.CoroAlignI32 w p h = numbers Intrinsic.CoroAlignI32 r 32 s.align
      call_uses Intrinsic.CoroAlignI64 w p h = numbers Intrinsic.CoroAlignI64 r 64 s.align
      call_uses Intrinsic.CoroAlloc w p h = truths Intrinsic.CoroAlloc r (allocates part)
      call_uses Intrinsic.CoroBegin w p h = begins Intrinsic.CoroBegin (and_second (is_result (intrinsic_result Intrinsic.CoroBegin) ty) (are_wanted (intrinsic_params Intrinsic.CoroBegin) args) w) p h n refl
      call_uses Intrinsic.CoroFree w p h = freed part r
      call_uses Intrinsic.CoroFrame w p h = frames Intrinsic.CoroFrame r refl
      call_uses Intrinsic.CoroSave w p h = saved n (number_of_save s r)
      call_uses Intrinsic.CoroSuspend w p h = tt
      call_uses Intrinsic.CoroEnd w p h = truths Intrinsic.CoroEnd r false
      call_uses Intrinsic.CoroResume w p h = resumes Intrinsic.CoroResume (and_second (is_result (intrinsic_result Intrinsic.CoroResume) ty) (are_wanted (intrinsic_params Intrinsic.CoroResume) args) w) p h n refl
      call_uses Intrinsic.CoroDestroy w p h = destroys Intrinsic.CoroDestroy (and_second (is_result (intrinsic_result Intrinsic.CoroDestroy) ty) (are_wanted (intrinsic_params Intrinsic.CoroDestroy) args) w) p h n refl
      call_uses Intrinsic.CoroDone w p h = tests Intrinsic.CoroDone (and_second (is_result (intrinsic_result Intrinsic.CoroDone) ty) (are_wanted (intrinsic_params Intrinsic.CoroDone) args) w) p h n r refl
      call_uses Intrinsic.CoroPromise w p h = promises Intrinsic.CoroPromise (and_second (is_result (intrinsic_result Intrinsic.CoroPromise) ty) (are_wanted (intrinsic_params Intrinsic.CoroPromise) args) w) p h r (is_true (operand_at args 2)) refl
      call_uses Intrinsic.CoroId w p h = kept Intrinsic.CoroId (and_second (is_result (intrinsic_result Intrinsic.CoroId) ty) (are_wanted (intrinsic_params Intrinsic.CoroId) args) w) p h refl
      call_uses Intrinsic.LifetimeStart w p h = kept Intrinsic.LifetimeStart (and_second (is_result (intrinsic_result Intrinsic.LifetimeStart) ty) (are_wanted (intrinsic_params Intrinsic.LifetimeStart) args) w) p h refl
      call_uses Intrinsic.LifetimeEnd w p h = kept Intrinsic.LifetimeEnd (and_second (is_result (intrinsic_result Intrinsic.LifetimeEnd) ty) (are_wanted (intrinsic_params Intrinsic.LifetimeEnd) args) w) p h refl
      call_uses Intrinsic.MemcpyI64 w p h = kept Intrinsic.MemcpyI64 (and_second (is_result (intrinsic_result Intrinsic.MemcpyI64) ty) (are_wanted (intrinsic_params Intrinsic.MemcpyI64) args) w) p h refl
      call_uses Intrinsic.MemcpyI32 w p h = kept Intrinsic.MemcpyI32 (and_second (is_result (intrinsic_result Intrinsic.MemcpyI32) ty) (are_wanted (intrinsic_params Intrinsic.MemcpyI32) args) w) p h refl

  plain_operands : (i : Instr) → calls_intrinsic i ≡ false → IsRuled m f s i → (v : ℕ) → IsListed v (locals_in (instr_operands i)) → IsPlain f v
  plain_operands i tokenless h v l = h.operands v l (scalar_local (value_kind f) (instr_operands i) (operands_scalar (value_kind f) m i tokenless h.fits) v l)

  operands_from : (n : ℕ) (i : Instr) → IsRuled m f s i → AreFrom f s part i [] (lowered s part n i)
  operands_from n (Instr.Call r must_tail ty (Callee.Intrinsic x) args) h =
      call_uses r must_tail ty args n x (holds (is_result (intrinsic_result x) ty && are_wanted (intrinsic_params x) args) h.calls) (args_pass (value_kind f) r ty (Callee.Intrinsic x) args h.fits) h.operands
  operands_from n (Instr.Call r must_tail ty (Callee.Named c) args) h = own_operands [] (Instr.Call r must_tail ty (Callee.Named c) args) (plain_operands (Instr.Call r must_tail ty (Callee.Named c) args) refl h)
  operands_from n (Instr.Call r must_tail ty (Callee.Allocator a) args) h = own_operands [] (Instr.Call r must_tail ty (Callee.Allocator a) args) (plain_operands (Instr.Call r must_tail ty (Callee.Allocator a) args) refl h)
  operands_from n (Instr.Call r must_tail ty (Callee.Local c) args) h = own_operands [] (Instr.Call r must_tail ty (Callee.Local c) args) (plain_operands (Instr.Call r must_tail ty (Callee.Local c) args) refl h)
  operands_from n (Instr.Binary r op flags ty left right) h = own_operands [] (Instr.Binary r op flags ty left right) (plain_operands (Instr.Binary r op flags ty left right) refl h)
  operands_from n (Instr.Icmp r pred ty left right) h = own_operands [] (Instr.Icmp r pred ty left right) (plain_operands (Instr.Icmp r pred ty left right) refl h)
  operands_from n (Instr.Select r c a b) h = own_operands [] (Instr.Select r c a b) (plain_operands (Instr.Select r c a b) refl h)
  operands_from n (Instr.Cast r op nneg arg to) h = own_operands [] (Instr.Cast r op nneg arg to) (plain_operands (Instr.Cast r op nneg arg to) refl h)
  operands_from n (Instr.Alloca r ty align) h = own_operands [] (Instr.Alloca r ty align) (plain_operands (Instr.Alloca r ty align) refl h)
  operands_from n (Instr.Load r ty x align) h = own_operands [] (Instr.Load r ty x align) (plain_operands (Instr.Load r ty x align) refl h)
  operands_from n (Instr.Store arg x align) h = own_operands [] (Instr.Store arg x align) (plain_operands (Instr.Store arg x align) refl h)
  operands_from n (Instr.Gep r inbounds ty base indices) h = own_operands [] (Instr.Gep r inbounds ty base indices) (plain_operands (Instr.Gep r inbounds ty base indices) refl h)

  pub ruled_lowered : (i : Instr) → IsRuled m f s i → IsLowered f s part i
  ruled_lowered i h = record { makes = λ n v e p. result_made n v i h e p; uses = λ n. operands_from n i h }
