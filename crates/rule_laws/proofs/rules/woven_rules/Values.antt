-- Values fit their types in the result where they do in the function (rule Y1), and markers mark slots (K13).
use Rattle.std.proofs.Common.{◌≡◌, ℕ, ◌<◌, Bool, true, false, List, [], ◌∷◌, refl, sym, ap, ◌∙◌, subst}
use Rattle.std.specs.List.{list_all}
use Rattle.std.specs.Prelude.{None, Option, not, ◌&&◌, ◌||◌}
use Rattle.ir_laws.specs.ir_base.declared.outcome.Place.{Place}
use Rattle.rule_laws.proofs.rules.local_rules.Fitting.{either, no_either}
use Rattle.rule_laws.proofs.rules.local_rules.Names.{numbers}
use Rattle.ir_laws.proofs.facts.Truth.{and_both, and_first, and_second, holds, first_no, second_no}
use Rattle.ir_laws.proofs.facts.Members.{each_right, each_passes}
use Rattle.ir_laws.specs.flow_solver.Paths.{IsListed}
use Rattle.ir_parts.specs.Contents.{arg_operands, callee_operands, part_operands}
use Rattle.ir_parts.specs.Parts.{Ending, OfInstr, OfPhi, Part, Signature, first_part, parts_of}
use Rattle.ir_laws.specs.ir_model.Ty.{Ty}
use Rattle.ir_laws.specs.ir_model.declared.instr.Instr.{Instr}
use Rattle.ir_laws.specs.ir_model.declared.module.Function.{Function}
use Rattle.ir_laws.specs.ir_model.declared.module.Module.{Module}
use Rattle.ir_laws.specs.ir_model.declared.operand.Arg.{Arg}
use Rattle.ir_laws.specs.ir_model.declared.operand.Callee.{Callee}
use Rattle.ir_laws.specs.ir_model.declared.operand.Intrinsic.{Intrinsic}
use Rattle.ir_laws.specs.ir_model.declared.operand.Operand.{Operand}
use Rattle.rule_locals.specs.Instrs.{on_instr}
use Rattle.rule_locals.specs.Markers.{first_other_mark, is_marker, marks, marks_otherwise, marks_size, marks_slot, slot_size}
use Rattle.rule_names.specs.Known.{first_unknown, is_label, is_value, knows_operand, names_unknown}
use Rattle.ir_laws.specs.run_laws.changed.Changed.{Each}
use Rattle.rule_types.specs.Signatures.{are_wanted, calls_otherwise, first_otherwise, is_result}
use Rattle.rule_types.specs.Wants.{intrinsic_params, intrinsic_result, is_int, is_ptr, meets, want}
use Rattle.rule_types.specs.declared.wants.Basic.{Basic}
use Rattle.rule_types.specs.declared.wants.Demand.{Demand}
use Rattle.rule_values.specs.Fits.{fits_arg}
use Rattle.rule_values.specs.Instrs.{fits_call, fits_instr, fits_result, is_passed, passes}
use Rattle.rule_values.specs.Kinds.{value_kind}
use Rattle.rule_values.specs.declared.kinds.Kind.{Kind}
use Rattle.rule_values.specs.Values.{breaks_values, first_wrong_value, has_scalar, is_scalar_or_void}
use Rattle.rule_laws.proofs.rules.woven_rules.Alike.{IsAlike, Local as AlikeLocal, Other as AlikeOther, fits_alike, instr_alike, phi_alike, term_alike}
use Rattle.rule_laws.proofs.rules.woven_rules.Carried.{Carries, carried}
use Rattle.rule_laws.proofs.rules.woven_rules.ValueKinds.{old_size}
use Rattle.rule_laws.proofs.rules.woven_rules.Laid.{AreLaidBlocks, IsLike, KeptOne, NoPromise, Remains, Renamed, Stayed, valued_old}
use Rattle.rule_laws.proofs.rules.woven_rules.Operands.{instr_turns, phi_turns, term_turns}
use Rattle.rule_laws.proofs.rules.woven_rules.Rules.{of_copies, operands_known, stays_valued, value_valued}
use Rattle.rule_laws.specs.rules.woven_rules.Blocks.{IsWoven, MarkStays, is_copy, may_stand}
use Rattle.rule_laws.specs.rules.woven_rules.Parts.{Call, CalleeStays, Direct, Indirect}
use Rattle.rule_laws.specs.rules.woven_rules.Weaving.{Weaving, goes_in}

module _ (w : Weaving) (m : Module) (f g : Function) (k : ℕ) (h : IsWoven w m f g) (below : (v : ℕ) → IsListed v (numbers f) → v < w.first) (blocks : AreLaidBlocks w m f g 0 f.blocks g.blocks) where
  abbrev Like : Operand → Operand → Type 0
  Like = IsLike w f g

  abbrev kinds : ℕ → Option Kind
  kinds = value_kind f

  abbrev now : ℕ → Option Kind
  now = value_kind g

  abbrev IsKnownHere : Operand → Type 0
  IsKnownHere x = knows_operand m (is_value k f) x ≡ true

  abbrev unknown : Place → Part → Bool
  unknown = names_unknown m (is_value k f) (is_label k f)

  -- ---- operands are of the same kinds

  same_alike : (x : Operand) → IsKnownHere x → goes_in w x ≡ false → IsAlike kinds now x x
  same_alike (Operand.Local v) e stays = AlikeLocal v v (stays_valued w m f g k h below blocks v stays e)
  same_alike (Operand.Global n) e stays = AlikeOther (Operand.Global n) refl
  same_alike (Operand.Number z) e stays = AlikeOther (Operand.Number z) refl
  same_alike Operand.True e stays = AlikeOther Operand.True refl
  same_alike Operand.False e stays = AlikeOther Operand.False refl
  same_alike Operand.Null e stays = AlikeOther Operand.Null refl
  same_alike Operand.None e stays = AlikeOther Operand.None refl
  same_alike Operand.Poison e stays = AlikeOther Operand.Poison refl

  alike : (x y : Operand) → IsKnownHere x → Like x y → IsAlike kinds now x y
  alike _ _ e (Stayed x stays) = same_alike x e stays
  alike _ _ e (Renamed v n same) = AlikeLocal v n same

  known_each : (p : Place) (x : Part) → unknown p x ≡ false → Each IsKnownHere (part_operands x)
  known_each p x e = each_passes (knows_operand m (is_value k f)) (part_operands x) (operands_known w m f g k h below blocks p x e)

  -- ---- coro.id without its promise

  rest_passes : (c : Callee) (args : List Arg) → Each (λ (a : Arg). goes_in w a.value ≡ false) args → Each IsKnownHere (arg_operands args) → list_all (passes kinds c) args ≡ true → list_all (passes now c) args ≡ true
  rest_passes c [] stays known e = refl
  rest_passes c (a ∷ args) stays known e =
      and_both (passes now c a) (list_all (passes now c) args)
      (ap (λ (b : Bool). is_passed c a.ty && b) (fits_alike m kinds now a.ty a.value a.value (same_alike a.value known.0 stays.0)) ∙ and_first (passes kinds c a) (list_all (passes kinds c) args) e)
      (rest_passes c args stays.1 known.1 (and_second (passes kinds c a) (list_all (passes kinds c) args) e))

  no_promise : (r : Option ℕ) (must_tail : Bool) (ty : Option Ty) (a p : Arg) (args : List Arg) → Each (λ (b : Arg). goes_in w b.value ≡ false) (a ∷ args) → Each IsKnownHere (a.value ∷ p.value ∷ arg_operands args) → is_ptr p.ty ≡ true → fits_call kinds r ty (Callee.Intrinsic Intrinsic.CoroId) (a ∷ p ∷ args) ≡ true → fits_call now r ty (Callee.Intrinsic Intrinsic.CoroId) (a ∷ record p { value = Operand.Null } ∷ args) ≡ true
  no_promise r must_tail ty a p args stays known pointer e =
      let c : Callee = Callee.Intrinsic Intrinsic.CoroId in
      let all : list_all (passes kinds c) (a ∷ p ∷ args) ≡ true = and_second (fits_result c ty r) (list_all (passes kinds c) (a ∷ p ∷ args)) e in
      let more : list_all (passes kinds c) (p ∷ args) ≡ true = and_second (passes kinds c a) (list_all (passes kinds c) (p ∷ args)) all in
      and_both (fits_result c ty r) (passes now c a && (passes now c (record p { value = Operand.Null }) && list_all (passes now c) args))
      (and_first (fits_result c ty r) (list_all (passes kinds c) (a ∷ p ∷ args)) e)
      (and_both (passes now c a) (passes now c (record p { value = Operand.Null }) && list_all (passes now c) args)
      (ap (λ (b : Bool). is_passed c a.ty && b) (fits_alike m kinds now a.ty a.value a.value (same_alike a.value known.0 stays.0)) ∙ and_first (passes kinds c a) (list_all (passes kinds c) (p ∷ args)) all)
      (and_both (passes now c (record p { value = Operand.Null })) (list_all (passes now c) args)
      (and_both (is_passed c p.ty) (is_ptr p.ty) (and_first (is_passed c p.ty) (fits_arg kinds p) (and_first (passes kinds c p) (list_all (passes kinds c) args) more)) pointer)
      (rest_passes c args stays.1 known.1.1 (and_second (passes kinds c p) (list_all (passes kinds c) args) more))))

  -- coro.id takes a pointer as its promise
  promise_type : (ty : Option Ty) (a p : Arg) (args : List Arg) → (is_result (intrinsic_result Intrinsic.CoroId) ty && are_wanted (intrinsic_params Intrinsic.CoroId) (a ∷ p ∷ args)) ≡ true → is_ptr p.ty ≡ true
  promise_type ty a p args e =
      let all : ((is_int 32 a.ty && meets Demand.AlignOrZero a.value) && ((is_ptr p.ty && true) && are_wanted (want Basic.Ptr Demand.Null ∷ want Basic.Ptr Demand.Null ∷ []) args)) ≡ true = and_second (is_result (intrinsic_result Intrinsic.CoroId) ty) (are_wanted (intrinsic_params Intrinsic.CoroId) (a ∷ p ∷ args)) e in
      and_first (is_ptr p.ty) true
      (and_first (is_ptr p.ty && true) (are_wanted (want Basic.Ptr Demand.Null ∷ want Basic.Ptr Demand.Null ∷ []) args)
      (and_second (is_int 32 a.ty && meets Demand.AlignOrZero a.value) ((is_ptr p.ty && true) && are_wanted (want Basic.Ptr Demand.Null ∷ want Basic.Ptr Demand.Null ∷ []) args) all))

  -- ---- Y1

  abbrev old : Place → Part → Bool
  old = either (either (breaks_values m kinds f.result) (calls_otherwise m)) unknown

  remains_fit : (p q : Place) (i j : Instr) → Remains w f g i j → old p (OfInstr i) ≡ false → breaks_values m now f.result q (OfInstr j) ≡ false
  remains_fit p q _ _ (KeptOne i j s mark) e =
      let values = first_no (breaks_values m kinds f.result p (OfInstr i)) (calls_otherwise m p (OfInstr i)) (first_no (breaks_values m kinds f.result p (OfInstr i) || calls_otherwise m p (OfInstr i)) (unknown p (OfInstr i)) e) in
      let known = known_each p (OfInstr i) (second_no (breaks_values m kinds f.result p (OfInstr i) || calls_otherwise m p (OfInstr i)) (unknown p (OfInstr i)) e) in
      ap not (instr_alike m kinds now i j (instr_turns IsKnownHere Like (IsAlike kinds now) alike i j known s)) ∙ values
  remains_fit p q _ _ (NoPromise r must_tail ty a x args s) e =
      let i : Instr = Instr.Call r must_tail ty (Callee.Intrinsic Intrinsic.CoroId) (a ∷ x ∷ args) in
      let both = first_no (breaks_values m kinds f.result p (OfInstr i) || calls_otherwise m p (OfInstr i)) (unknown p (OfInstr i)) e in
      let values = first_no (breaks_values m kinds f.result p (OfInstr i)) (calls_otherwise m p (OfInstr i)) both in
      let calls = second_no (breaks_values m kinds f.result p (OfInstr i)) (calls_otherwise m p (OfInstr i)) both in
      let known = known_each p (OfInstr i) (second_no (breaks_values m kinds f.result p (OfInstr i) || calls_otherwise m p (OfInstr i)) (unknown p (OfInstr i)) e) in
      ap not (no_promise r must_tail ty a x args s known (promise_type ty a x args (holds (is_result (intrinsic_result Intrinsic.CoroId) ty && are_wanted (intrinsic_params Intrinsic.CoroId) (a ∷ x ∷ args)) calls)) (holds (fits_instr m kinds i) values))

  values_carried : Carries w m f g old (breaks_values m now f.result)
  values_carried =
      record {
        signature = λ p e.
            (λ i. not (is_scalar_or_void (h.result i) && list_all has_scalar (h.params i)))
            ∙ first_no (breaks_values m kinds f.result p (Signature f)) (calls_otherwise m p (Signature f)) (first_no (breaks_values m kinds f.result p (Signature f) || calls_otherwise m p (Signature f)) (unknown p (Signature f)) e);
        head = λ p b c d e. refl;
        phi = λ p x y s once e.
            let values = first_no (breaks_values m kinds f.result p (OfPhi x)) (calls_otherwise m p (OfPhi x)) (first_no (breaks_values m kinds f.result p (OfPhi x) || calls_otherwise m p (OfPhi x)) (unknown p (OfPhi x)) e) in
            let known = known_each p (OfPhi x) (second_no (breaks_values m kinds f.result p (OfPhi x) || calls_otherwise m p (OfPhi x)) (unknown p (OfPhi x)) e) in
            ap not (phi_alike m kinds now x y (phi_turns IsKnownHere (λ (from : ℕ). Like) (λ (from : ℕ). IsAlike kinds now) (λ from. alike) x y known s)) ∙ values;
        put = λ block q j e s. ap not s.fits;
        remain = λ p q i j same s e. remains_fit p q i j s e;
        ending = λ p q t u s e.
            let values = first_no (breaks_values m kinds f.result p (Ending t)) (calls_otherwise m p (Ending t)) (first_no (breaks_values m kinds f.result p (Ending t) || calls_otherwise m p (Ending t)) (unknown p (Ending t)) e) in
            let known = known_each p (Ending t) (second_no (breaks_values m kinds f.result p (Ending t) || calls_otherwise m p (Ending t)) (unknown p (Ending t)) e) in
            ap not (term_alike m kinds now f.result t u (term_turns IsKnownHere Like (IsAlike kinds now) alike t u known s)) ∙ values;
      }

  pub values_woven : first_wrong_value m k f ≡ None → first_otherwise m k f ≡ None → first_unknown m k f ≡ None → first_wrong_value m k g ≡ None
  values_woven a b c =
      subst (λ (ty : Option Ty). first_part (breaks_values m now ty) (parts_of k g) ≡ None) (sym h.result)
      (carried w m f g old (breaks_values m now f.result) values_carried k blocks
      (no_either (either (breaks_values m kinds f.result) (calls_otherwise m)) unknown (parts_of k f) (no_either (breaks_values m kinds f.result) (calls_otherwise m) (parts_of k f) a b) c))

  -- ---- K13

  slot_kept : (n x : Operand) → goes_in w x ≡ false → IsKnownHere x → marks_slot (slot_size m g) n x ≡ marks_slot (slot_size m f) n x
  slot_kept n (Operand.Local v) stays e = ap (marks_size n) (old_size w m f g v (valued_old w m f g h below v (value_valued w m f g k h below blocks v e)) stays h)
  slot_kept n _ stays e = refl

  marks_kept : (args : List Arg) → Each (λ (x : Operand). goes_in w x ≡ false) (arg_operands args) → Each IsKnownHere (arg_operands args) → marks (slot_size m g) args ≡ marks (slot_size m f) args
  marks_kept [] s e = refl
  marks_kept (a ∷ []) s e = refl
  marks_kept (a ∷ b ∷ []) s e = slot_kept a.value b.value s.1.0 e.1.0
  marks_kept (a ∷ b ∷ c ∷ args) s e = refl

  abbrev marked : Place → Part → Bool
  marked = on_instr (marks_otherwise (slot_size m f))

  marks_remain : (p q : Place) (i j : Instr) → Remains w f g i j → either marked unknown p (OfInstr i) ≡ false → marks_otherwise (slot_size m g) q j ≡ false
  marks_remain p q _ _ (NoPromise r must_tail ty a x args s) e = refl
  marks_remain p q _ _ (KeptOne _ _ (Call r must_tail ty c d args rest s t) mark) e = on (is_marker c) refl
    where
      callee_same : (c d : Callee) → CalleeStays Like c d → is_marker d ≡ is_marker c
      callee_same _ _ (Direct c e) = refl
      callee_same _ _ (Indirect v n e) = refl

      on : (b : Bool) → is_marker c ≡ b → marks_otherwise (slot_size m g) q (Instr.Call r must_tail ty d rest) ≡ false
      on true is =
          let x : MarkStays w (Instr.Call r must_tail ty c args) (Instr.Call r must_tail ty d rest) = mark is in
          let known = known_each p (OfInstr (Instr.Call r must_tail ty c args)) (second_no (marks_otherwise (slot_size m f) p (Instr.Call r must_tail ty c args)) (unknown p (OfInstr (Instr.Call r must_tail ty c args))) e) in
          let was = first_no (marks_otherwise (slot_size m f) p (Instr.Call r must_tail ty c args)) (unknown p (OfInstr (Instr.Call r must_tail ty c args))) e in
          ap (marks_otherwise (slot_size m g) q) x.same
          ∙ ap (λ (b : Bool). is_marker c && not b)
          (marks_kept args (each_right (λ (x : Operand). goes_in w x ≡ false) (callee_operands c) (arg_operands args) x.slot) (each_right IsKnownHere (callee_operands c) (arg_operands args) known))
          ∙ was
      on false is = ap (λ (b : Bool). b && not (marks (slot_size m g) rest)) (callee_same c d s ∙ is)
  marks_remain p q _ _ (KeptOne _ _ _ mark) e = refl

  mark_put : (block : ℕ) (q : Place) (j : Instr) → may_stand block j ≡ true → marks_otherwise (slot_size m g) q j ≡ false
  mark_put block q (Instr.Call r must_tail ty c args) e = of_copies (λ (d : Callee). marks_otherwise (slot_size m g) q (Instr.Call r must_tail ty d args) ≡ false) refl refl c (and_second (not must_tail) (is_copy c) e)
  mark_put block q _ e = refl

  marks_carried : Carries w m f g (either marked unknown) (on_instr (marks_otherwise (slot_size m g)))
  marks_carried =
      record {
        signature = λ p e. refl;
        head = λ p b c d e. refl;
        phi = λ p x y s once e. refl;
        put = λ block q j e s. mark_put block q j s.stands;
        remain = λ p q i j same s e. marks_remain p q i j s e;
        ending = λ p q t u s e. refl;
      }

  pub marks_woven : first_other_mark m k f ≡ None → first_unknown m k f ≡ None → first_other_mark m k g ≡ None
  marks_woven a b = carried w m f g (either marked unknown) (on_instr (marks_otherwise (slot_size m g))) marks_carried k blocks (no_either marked unknown (parts_of k f) a b)
