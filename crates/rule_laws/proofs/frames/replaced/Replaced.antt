-- What is lowered in the place of an instruction: the instruction itself, or what replaces a call of an intrinsic.
use Rattle.std.proofs.Common.{◌≡◌, ◌⊎◌, inl, inr, ℕ, ◌+◌, ◌<◌, Bool, true, false, List, [], ◌∷◌, length, refl, sym, ap, ◌∙◌}
use Rattle.std.specs.Prelude.{ℤ, pos, None, Option, Some, slice_get, ◌&&◌}
use Rattle.ir_laws.proofs.facts.Truth.{equal_numbers, and_first, and_second}
use Rattle.pass_intrinsics.specs.Lowered.{allocates, begin_memory, destroyed_by, done_test, freed_by, is_final_at, lowered, number_of_save, operand_at, promise_distance, resumed_by, save_or_none, set_address, set_number, set_truth, store_pointer, truth_of}
use Rattle.pass_intrinsics.specs.Shapes.{is_true}
use Rattle.pass_intrinsics.specs.declared.shape.Part.{Part}
use Rattle.pass_intrinsics.specs.declared.shape.Shape.{Shape}
use Rattle.ir_laws.specs.ir_model.Ty.{Ty, int, ptr}
use Rattle.ir_laws.specs.ir_model.declared.instr.Instr.{Instr}
use Rattle.ir_laws.specs.ir_model.declared.operand.Arg.{Arg}
use Rattle.ir_laws.specs.ir_model.declared.operand.Callee.{Callee}
use Rattle.ir_laws.specs.ir_model.declared.operand.Intrinsic.{Intrinsic}
use Rattle.ir_laws.specs.ir_model.declared.operand.Operand.{Operand}
use Rattle.rule_locals.specs.Intrinsics.{is_inner}
use Rattle.rule_laws.specs.frames.replaced.Replaced.{Address, BackToFrame, Calls, First, Frame, Given, IsDistance, IsPointer, Loads, New, NoFrame, Nothing, Number, OfDestroy, OfFrame, OfIndex, OfParameter, OfPromise, OfResult, Replaces, StoresCleanup, StoresDestroy, StoresIndex, StoresNull, StoresResume, Tests, Truth}
use Rattle.ir_laws.specs.run_laws.changed.Changed.{Each}
use Rattle.rule_types.specs.Signatures.{are_wanted, is_result}
use Rattle.rule_types.specs.Wants.{intrinsic_params, intrinsic_result, is_basic, any, is_int, meets, want}
use Rattle.rule_types.specs.declared.wants.Basic.{Basic}
use Rattle.rule_types.specs.declared.wants.Demand.{Demand}
use Rattle.rule_types.specs.declared.wants.Wanted.{Wanted}
use Rattle.rule_values.specs.Kinds.{result_kind}
use Rattle.rule_values.specs.declared.kinds.Kind.{Kind}
use Rattle.rule_laws.proofs.rules.replaced.Replaced.{is_the_ptr}

-- ---- types by the table

is_the_int : (w : ℕ) (t : Ty) → is_int w t ≡ true → t ≡ int w
is_the_int w (int v) e = ap (λ (k : ℕ). int k) (equal_numbers v w e)
is_the_int w _ e = absurd (cc)

int_result : (w : ℕ) (b : Basic) → ((t : Ty) → is_basic b t ≡ true → t ≡ int w) → (ty : Option Ty) → is_result (Some b) ty ≡ true → ty ≡ Some (int w)
int_result w b h None e = absurd (cc)
int_result w b h (Some t) e = ap (λ (u : Ty). Some u) (h t e)

ptr_result : (ty : Option Ty) → is_result (Some Basic.Ptr) ty ≡ true → ty ≡ Some ptr
ptr_result None e = absurd (cc)
ptr_result (Some t) e = ap (λ (u : Ty). Some u) (is_the_ptr t e)

-- an argument at a position where a pointer is wanted
pointer_at : (w : Wanted) (a : Arg) → w.ty ≡ Basic.Ptr → (is_basic w.ty a.ty && meets w.value a.value) ≡ true → a.ty ≡ ptr
pointer_at w a e h = is_the_ptr a.ty (sym (ap (λ (b : Basic). is_basic b a.ty) e) ∙ and_first (is_basic w.ty a.ty) (meets w.value a.value) h)

module _ (s : Shape) (part : Part) (n : ℕ) where
  -- the first argument, where it is a pointer
  first_given : (x : Intrinsic) (w : Wanted) (ws : List Wanted) (args : List Arg) → w.ty ≡ Basic.Ptr → are_wanted (w ∷ ws) args ≡ true → IsPointer s part n x args (operand_at args 0)
  first_given x w ws [] e h = absurd (cc)
  first_given x w ws (a ∷ args) e h = Given a (inl refl) (pointer_at w a e (and_first (is_basic w.ty a.ty && meets w.value a.value) (are_wanted ws args) h))

  second_given : (x : Intrinsic) (v w : Wanted) (ws : List Wanted) (args : List Arg) → w.ty ≡ Basic.Ptr → are_wanted (v ∷ w ∷ ws) args ≡ true → IsPointer s part n x args (operand_at args 1)
  second_given x v w ws [] e h = absurd (cc)
  second_given x v w ws (b ∷ []) e h = let t : false ≡ true = and_second (is_basic v.ty b.ty && meets v.value b.value) false h in absurd (cc)
  second_given x v w ws (b ∷ a ∷ args) e h =
      Given a (inr (inl refl)) (pointer_at w a e (and_first (is_basic w.ty a.ty && meets w.value a.value) (are_wanted ws args) (and_second (is_basic v.ty b.ty && meets v.value b.value) (are_wanted (w ∷ ws) (a ∷ args)) h)))

  module _ (saves : (r : Option ℕ) (j : ℕ) → number_of_save s r ≡ Some j → j < length s.suspends) (r : Option ℕ) (ty : Option Ty) (args : List Arg) where
    abbrev In : Intrinsic → Instr → Type 0
    In x = Replaces s part n x r ty args

    numbers : (x : Intrinsic) (w k : ℕ) → result_kind (Callee.Intrinsic x) ty ≡ Kind.Int w → (w ≡ 32) ⊎ (w ≡ 64) → (k ≡ s.size) ⊎ (k ≡ s.align) → Each (In x) (set_number r w k)
    numbers x w k e a b = on r refl
      where
        on : (o : Option ℕ) → r ≡ o → Each (In x) (set_number o w k)
        on None d = tt
        on (Some v) d = (Number v w k d e a b, tt)

    truths : (x : Intrinsic) (b : Bool) → result_kind (Callee.Intrinsic x) ty ≡ Kind.Int 1 → Each (In x) (set_truth r (truth_of b))
    truths x b e = on r refl
      where
        on : (o : Option ℕ) → r ≡ o → Each (In x) (set_truth o (truth_of b))
        on None d = tt
        on (Some v) d = (Truth v b d e, tt)

    addresses : (x : Intrinsic) (p : Operand) (z : ℤ) → result_kind (Callee.Intrinsic x) ty ≡ Kind.Ptr → IsPointer s part n x args p → IsDistance s z → Each (In x) (set_address r p z)
    addresses x p z e h k = on r refl
      where
        on : (o : Option ℕ) → r ≡ o → Each (In x) (set_address o p z)
        on None d = tt
        on (Some v) d = (Address v p z (OfResult v d e) h k, tt)

    stored : (x : Intrinsic) (b : Bool) → is_inner x ≡ true → In x (store_pointer (resumed_by s b) (Operand.Local s.begin))
    stored x true h = StoresNull (Operand.Local s.begin) (Frame h)
    stored x false h = StoresResume (Operand.Local s.begin) h (Frame h)

    saved : (x : Intrinsic) (o : Option ℕ) → is_inner x ≡ true → ((j : ℕ) → o ≡ Some j → j < length s.suspends) → Each (In x) (save_or_none s n o)
    saved x None of h = tt
    saved x (Some j) of h = (Address n (Operand.Local s.begin) (pos s.index) New (Frame of) OfIndex, (StoresIndex j (Operand.Local n) (h j refl) First, (stored x (is_final_at (slice_get s.suspends j)) of, tt)))

    tests : (x : Intrinsic) (p : Operand) → result_kind (Callee.Intrinsic x) ty ≡ Kind.Int 1 → IsPointer s part n x args p → Each (In x) (done_test n r p)
    tests x p e h = on r refl
      where
        on : (o : Option ℕ) → r ≡ o → Each (In x) (done_test n o p)
        on None d = tt
        on (Some v) d = (Loads n p (inl refl) h, (Tests v d e, tt))

    -- the memory of begin, what a destroy calls, and what is freed
    memory : (q : Part) → part ≡ q → IsPointer s part n Intrinsic.CoroBegin args (operand_at args 1) → IsPointer s part n Intrinsic.CoroBegin args (begin_memory s q args)
    memory Part.GivenRamp e given = OfParameter e refl
    memory Part.Ramp e given = given
    memory Part.Resume e given = given
    memory Part.Destroy e given = given
    memory Part.Cleanup e given = given

    destroyed : (q : Part) → part ≡ q → In Intrinsic.CoroBegin (store_pointer (Operand.Global (destroyed_by s q)) (Operand.Local n))
    destroyed Part.GivenRamp e = StoresCleanup (Operand.Local n) e refl First
    destroyed Part.Ramp e = StoresDestroy (Operand.Local n) refl First
    destroyed Part.Resume e = StoresDestroy (Operand.Local n) refl First
    destroyed Part.Destroy e = StoresDestroy (Operand.Local n) refl First
    destroyed Part.Cleanup e = StoresDestroy (Operand.Local n) refl First

    freed : (q : Part) → IsPointer s part n Intrinsic.CoroFree args (freed_by s q)
    freed Part.GivenRamp = NoFrame
    freed Part.Cleanup = NoFrame
    freed Part.Ramp = Frame refl
    freed Part.Resume = Frame refl
    freed Part.Destroy = Frame refl

    distance : (b : Bool) → IsDistance s (promise_distance b)
    distance true = BackToFrame
    distance false = OfPromise

    -- the intrinsics that stay
    abbrev pub IsKeptOne : Intrinsic → Type 0
    IsKeptOne x = (x ≡ Intrinsic.CoroId) ⊎ ((x ≡ Intrinsic.LifetimeStart) ⊎ ((x ≡ Intrinsic.LifetimeEnd) ⊎ ((x ≡ Intrinsic.MemcpyI64) ⊎ (x ≡ Intrinsic.MemcpyI32))))

    -- what is lowered in the place of a call that is of the types of the table
    pub replaced : (must_tail : Bool) (x : Intrinsic) → (is_result (intrinsic_result x) ty && are_wanted (intrinsic_params x) args) ≡ true → Each (In x) (lowered s part n (Instr.Call r must_tail ty (Callee.Intrinsic x) args)) ⊎ IsKeptOne x
    replaced must_tail Intrinsic.CoroId e = inr (inl refl)
    replaced must_tail Intrinsic.CoroSizeI32 e = inl (numbers Intrinsic.CoroSizeI32 32 s.size (ap (result_kind (Callee.Intrinsic Intrinsic.CoroSizeI32)) (int_result 32 Basic.I32 (is_the_int 32) ty (and_first (is_result (Some Basic.I32) ty) (are_wanted [] args) e))) (inl refl) (inl refl))
    replaced must_tail Intrinsic.CoroSizeI64 e = inl (numbers Intrinsic.CoroSizeI64 64 s.size (ap (result_kind (Callee.Intrinsic Intrinsic.CoroSizeI64)) (int_result 64 Basic.I64 (is_the_int 64) ty (and_first (is_result (Some Basic.I64) ty) (are_wanted [] args) e))) (inr refl) (inl refl))
    replaced must_tail Intrinsic.CoroAlignI32 e = inl (numbers Intrinsic.CoroAlignI32 32 s.align (ap (result_kind (Callee.Intrinsic Intrinsic.CoroAlignI32)) (int_result 32 Basic.I32 (is_the_int 32) ty (and_first (is_result (Some Basic.I32) ty) (are_wanted [] args) e))) (inl refl) (inr refl))
    replaced must_tail Intrinsic.CoroAlignI64 e = inl (numbers Intrinsic.CoroAlignI64 64 s.align (ap (result_kind (Callee.Intrinsic Intrinsic.CoroAlignI64)) (int_result 64 Basic.I64 (is_the_int 64) ty (and_first (is_result (Some Basic.I64) ty) (are_wanted [] args) e))) (inr refl) (inr refl))
    replaced must_tail Intrinsic.CoroAlloc e = inl (truths Intrinsic.CoroAlloc (allocates part) (ap (result_kind (Callee.Intrinsic Intrinsic.CoroAlloc)) (int_result 1 Basic.I1 (is_the_int 1) ty (and_first (is_result (Some Basic.I1) ty) (are_wanted (intrinsic_params Intrinsic.CoroAlloc) args) e))))
    replaced must_tail Intrinsic.CoroBegin e =
        let given = second_given Intrinsic.CoroBegin (any Basic.Token) (any Basic.Ptr) [] args refl (and_second (is_result (Some Basic.Ptr) ty) (are_wanted (intrinsic_params Intrinsic.CoroBegin) args) e) in
        inl (
          Address s.begin (begin_memory s part args) (pos 0) (OfFrame refl) (memory part refl given) Nothing,
          (StoresResume (Operand.Local s.begin) refl (Frame refl), (Address n (Operand.Local s.begin) (pos 8) New (Frame refl) OfDestroy, (destroyed part refl, tt))),
        )
    replaced must_tail Intrinsic.CoroFree e = inl (addresses Intrinsic.CoroFree (freed_by s part) (pos 0) (ap (result_kind (Callee.Intrinsic Intrinsic.CoroFree)) (ptr_result ty (and_first (is_result (Some Basic.Ptr) ty) (are_wanted (intrinsic_params Intrinsic.CoroFree) args) e))) (freed part) Nothing)
    replaced must_tail Intrinsic.CoroFrame e = inl (addresses Intrinsic.CoroFrame (Operand.Local s.begin) (pos 0) (ap (result_kind (Callee.Intrinsic Intrinsic.CoroFrame)) (ptr_result ty (and_first (is_result (Some Basic.Ptr) ty) (are_wanted [] args) e))) (Frame refl) Nothing)
    replaced must_tail Intrinsic.CoroSave e = inl (saved Intrinsic.CoroSave (number_of_save s r) refl (λ j d. saves r j d))
    replaced must_tail Intrinsic.CoroSuspend e = inl tt
    replaced must_tail Intrinsic.CoroEnd e = inl (truths Intrinsic.CoroEnd false (ap (result_kind (Callee.Intrinsic Intrinsic.CoroEnd)) (int_result 1 Basic.I1 (is_the_int 1) ty (and_first (is_result (Some Basic.I1) ty) (are_wanted (intrinsic_params Intrinsic.CoroEnd) args) e))))
    replaced must_tail Intrinsic.CoroResume e =
        let given = first_given Intrinsic.CoroResume (any Basic.Ptr) [] args refl (and_second (is_result None ty) (are_wanted (intrinsic_params Intrinsic.CoroResume) args) e) in
        inl (Loads n (operand_at args 0) (inl refl) given, (Calls n (operand_at args 0) (inl refl) given, tt))
    replaced must_tail Intrinsic.CoroDestroy e =
        let given = first_given Intrinsic.CoroDestroy (any Basic.Ptr) [] args refl (and_second (is_result None ty) (are_wanted (intrinsic_params Intrinsic.CoroDestroy) args) e) in
        inl (Address n (operand_at args 0) (pos 8) New given OfDestroy, (Loads (n + 1) (Operand.Local n) (inr refl) First, (Calls (n + 1) (operand_at args 0) (inr refl) given, tt)))
    replaced must_tail Intrinsic.CoroDone e =
        inl (tests Intrinsic.CoroDone (operand_at args 0) (ap (result_kind (Callee.Intrinsic Intrinsic.CoroDone)) (int_result 1 Basic.I1 (is_the_int 1) ty (and_first (is_result (Some Basic.I1) ty) (are_wanted (intrinsic_params Intrinsic.CoroDone) args) e))) (first_given Intrinsic.CoroDone (any Basic.Ptr) [] args refl (and_second (is_result (Some Basic.I1) ty) (are_wanted (intrinsic_params Intrinsic.CoroDone) args) e)))
    replaced must_tail Intrinsic.CoroPromise e =
        inl (addresses Intrinsic.CoroPromise (operand_at args 0) (promise_distance (is_true (operand_at args 2))) (ap (result_kind (Callee.Intrinsic Intrinsic.CoroPromise)) (ptr_result ty (and_first (is_result (Some Basic.Ptr) ty) (are_wanted (intrinsic_params Intrinsic.CoroPromise) args) e)))
        (first_given Intrinsic.CoroPromise (any Basic.Ptr) (want Basic.I32 Demand.Align ∷ want Basic.I1 Demand.Flag ∷ []) args refl (and_second (is_result (Some Basic.Ptr) ty) (are_wanted (intrinsic_params Intrinsic.CoroPromise) args) e)) (distance (is_true (operand_at args 2))))
    replaced must_tail Intrinsic.LifetimeStart e = inr (inr (inl refl))
    replaced must_tail Intrinsic.LifetimeEnd e = inr (inr (inr (inl refl)))
    replaced must_tail Intrinsic.MemcpyI64 e = inr (inr (inr (inr (inl refl))))
    replaced must_tail Intrinsic.MemcpyI32 e = inr (inr (inr (inr (inr refl))))
