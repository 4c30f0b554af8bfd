-- Y1: operands and results fit their types in what a function becomes, where values are of the kinds that are told of them.
use Rattle.std.proofs.Common.{◌≡◌, ◌⊎◌, inl, inr, ℕ, ◌+◌, ◌<◌, ◌≤◌, ◌^◌, Bool, true, false, List, [], ◌∷◌, length, refl, sym, ap, ◌∙◌, subst, arith}
use Rattle.std.proofs.lemmas.Bool.{lt-ltb}
use Rattle.std.specs.List.{list_all}
use Rattle.std.specs.Prelude.{ℤ, None, Option, Some, is_some, map, nat_lt, not, pos, ◌&&◌}
use Rattle.pass_fetch_proof.specs.ir_base.declared.outcome.Place.{Place}
use Rattle.pass_split.specs.Parts.{entry_term}
use Rattle.pass_split.specs.Pieces.{redirected_case, redirected_term}
use Rattle.pass_fetch_proof.proofs.rule_laws.rules.local_rules.Defined.{value_defined}
use Rattle.pass_fetch_proof.proofs.rule_laws.rules.local_rules.Fitting.{either}
use Rattle.pass_fetch_proof.proofs.ir_laws.facts.Truth.{and_both, and_first, and_second, holds, first_no, second_no}
use Rattle.pass_fetch_proof.specs.flow_solver.Paths.{IsListed}
use Rattle.pass_fetch_proof.specs.ir_parts.Contents.{arg_operands, ending_operands, instr_operands, part_operands}
use Rattle.pass_fetch_proof.specs.ir_parts.Parts.{Ending, Head, OfInstr, OfPhi, Part as FunctionPart}
use Rattle.pass_fetch_proof.specs.pass_intrinsics.Cuts.{goes_on}
use Rattle.pass_fetch_proof.specs.pass_intrinsics.Lowered.{address, lowered, number_of_save}
use Rattle.pass_fetch_proof.specs.pass_intrinsics.Shapes.{index_bytes, index_name, slot_name}
use Rattle.pass_fetch_proof.specs.pass_intrinsics.declared.shape.Part.{Part}
use Rattle.pass_fetch_proof.specs.pass_intrinsics.declared.shape.Shape.{Shape}
use Rattle.ir_model.specs.Ty.{Ty, int, ptr}
use Rattle.ir_model.specs.TypeView.{bits_of}
use Rattle.ir_model.specs.declared.instr.Case.{Case}
use Rattle.ir_model.specs.declared.instr.Incoming.{Incoming}
use Rattle.ir_model.specs.declared.instr.Instr.{Instr}
use Rattle.ir_model.specs.declared.instr.Phi.{Phi}
use Rattle.ir_model.specs.declared.instr.Terminator.{Terminator}
use Rattle.ir_model.specs.declared.module.Function.{Function}
use Rattle.ir_model.specs.declared.module.Module.{Module}
use Rattle.ir_model.specs.declared.operand.Arg.{Arg}
use Rattle.ir_model.specs.declared.operand.Callee.{Callee}
use Rattle.ir_model.specs.declared.operand.Intrinsic.{Intrinsic}
use Rattle.ir_model.specs.declared.operand.Operand.{Operand}
use Rattle.pass_fetch_proof.specs.ir_locals.Tables.{or_first}
use Rattle.pass_fetch_proof.specs.rule_names.Known.{is_label, is_value, knows_operand, names_unknown}
use Rattle.pass_fetch_proof.specs.rule_laws.frames.same_names.Parts.{HasPartsOf}
use Rattle.pass_exits_proof.proofs.split.rules.Carried.{Carries, IsPhiOf}
use Rattle.pass_fetch_proof.proofs.ir_laws.paths.replaced.Known.{listed_mapped, of_listed}
use Rattle.pass_fetch_proof.proofs.rule_laws.rules.replaced.Known.{operands_before}
use Rattle.pass_exits_proof.proofs.split.rules.Local.{Lowers, Replaced, Same, lowers}
use Rattle.pass_fetch_proof.proofs.rule_laws.frames.replaced.Modules.{has_functions, instr_there}
use Rattle.pass_exits_proof.proofs.split.rules.PartKinds.{AreNewKinds}
use Rattle.pass_fetch_proof.specs.rule_laws.frames.replaced.Kinds.{kinds_with}
use Rattle.pass_fetch_proof.specs.rule_laws.frames.replaced.Parted.{IsSmall}
use Rattle.pass_fetch_proof.specs.rule_laws.frames.replaced.Replaced.{Address, BackToFrame, Calls, First, Frame, Given, IsDistance, IsPointer, Loads, NoFrame, Nothing, Number, OfDestroy, OfIndex, OfParameter, OfPromise, Replaces, Second, StoresCleanup, StoresDestroy, StoresIndex, StoresNull, StoresResume, Tests, Truth}
use Rattle.pass_fetch_proof.specs.run_laws.changed.Changed.{Each}
use Rattle.pass_fetch_proof.specs.rule_types.Signatures.{calls_otherwise}
use Rattle.pass_fetch_proof.specs.rule_values.Fits.{fits, fits_arg, fits_integer, fits_kind, is_literal, is_scalar}
use Rattle.pass_fetch_proof.specs.rule_values.Instrs.{fits_call, fits_called, fits_instr, fits_result, is_passed, passes}
use Rattle.pass_fetch_proof.specs.rule_values.Kinds.{value_kind}
use Rattle.pass_fetch_proof.specs.rule_values.Switches.{any_twice, bits_in, case_word, fits_case}
use Rattle.pass_fetch_proof.specs.rule_values.Values.{breaks_values, fits_ending, fits_part, fits_phi, takes}
use Rattle.pass_fetch_proof.specs.rule_values.declared.kinds.Kind.{Kind}
use Rattle.pass_fetch_proof.proofs.rule_laws.rules.woven_rules.Alike.{IsAlike, Local as AlikeLocal, Other as AlikeOther, fits_alike, instr_alike, term_alike}
use Rattle.pass_fetch_proof.proofs.ir_laws.facts.Members.{each_passes, each_turns}
use Rattle.pass_fetch_proof.proofs.rule_laws.rules.woven_rules.Operands.{instr_itself, term_itself}
use Rattle.pass_fetch_proof.proofs.rule_laws.rules.replaced.PartValues.{is_return, misfits}

-- ---- terminators with other labels

cases_fit : (s : Shape) (kinds : ℕ → Option Kind) (t : Ty) (cases : List Case) → list_all (fits_case kinds t) (map (redirected_case s) cases) ≡ list_all (fits_case kinds t) cases
cases_fit s kinds t [] = refl
cases_fit s kinds t (k ∷ cases) = ap (λ (b : Bool). fits_case kinds t k && b) (cases_fit s kinds t cases)

case_words : (s : Shape) (w : ℕ) (cases : List Case) → map (case_word w) (map (redirected_case s) cases) ≡ map (case_word w) cases
case_words s w [] = refl
case_words s w (k ∷ cases) = ap (λ (ws : List ℕ). case_word w k ∷ ws) (case_words s w cases)

redirected_fits : (s : Shape) (kinds : ℕ → Option Kind) (ty : Option Ty) (t : Terminator) → fits_ending kinds ty (redirected_term s t) ≡ fits_ending kinds ty t
redirected_fits s kinds ty (Terminator.Jump label) = refl
redirected_fits s kinds ty (Terminator.Branch c a b) = refl
redirected_fits s kinds ty (Terminator.Switch arg default cases) = λ i. fits_integer kinds arg && (cases_fit s kinds arg.ty cases i && not (any_twice [] (case_words s (bits_in arg.ty) cases i)))
redirected_fits s kinds ty (Terminator.Ret value) = refl
redirected_fits s kinds ty Terminator.Unreachable = refl

redirected_return : (s : Shape) (t : Terminator) → is_return (Ending (redirected_term s t)) ≡ is_return (Ending t)
redirected_return s (Terminator.Jump label) = refl
redirected_return s (Terminator.Branch c a b) = refl
redirected_return s (Terminator.Switch arg default cases) = refl
redirected_return s (Terminator.Ret value) = refl
redirected_return s Terminator.Unreachable = refl

-- ---- numbers

below_fits : (z w : ℕ) → z < 2 ^ 32 → (w ≡ 32) ⊎ (w ≡ 64) → nat_lt z (2 ^ w) ≡ true
below_fits z w low (inl e) = subst (λ (k : ℕ). nat_lt z (2 ^ k) ≡ true) (sym e) (lt-ltb z (2 ^ 32) low)
below_fits z w low (inr e) = subst (λ (k : ℕ). nat_lt z (2 ^ k) ≡ true) (sym e) (lt-ltb z (2 ^ 64) (omega (arith, low)))

zero_fits : (w : ℕ) → (w ≡ 32) ⊎ (w ≡ 64) → nat_lt 0 (2 ^ w) ≡ true
zero_fits w h = below_fits 0 w (omega arith) h

distance_fits : (s : Shape) → IsSmall s → (z : ℤ) → IsDistance s z → is_literal 64 z ≡ true
distance_fits s small _ Nothing = refl
distance_fits s small _ OfDestroy = refl
distance_fits s small _ OfPromise = refl
distance_fits s small _ BackToFrame = refl
distance_fits s small _ OfIndex = lt-ltb s.index (2 ^ 64) small.index

module _ (m n : Module) (h : HasPartsOf m n) (k : ℕ) (f : Function) (s : Shape) (part : Part) (saves : (r : Option ℕ) (j : ℕ) → number_of_save s r ≡ Some j → j < length s.suspends) (low : ℕ) (new : ℕ → Kind) (extra : Place → FunctionPart → Bool) (kinds : AreNewKinds f s part low new extra) (small : IsSmall s) (index_fits : (j : ℕ) → j < length s.suspends → is_literal (bits_of s.width) (pos j) ≡ true) where
  abbrev K : ℕ → Option Kind
  K = kinds_with f new

  abbrev was : ℕ → Option Kind
  was = value_kind f

  abbrev values : ℕ → Bool
  values = is_value k f

  abbrev Before : Operand → Type 0
  Before x = knows_operand m values x ≡ true

  -- ---- operands that the function knows

  known_kind : (o : Option Kind) (v : ℕ) → is_some o ≡ true → or_first o (Some (new v)) ≡ o
  known_kind None v e = absurd (cc)
  known_kind (Some a) v e = refl

  alike : (x : Operand) → Before x → IsAlike was K x x
  alike (Operand.Local v) e = AlikeLocal v v (known_kind (was v) v (sym (value_defined v k f) ∙ e))
  alike (Operand.Global x) e = AlikeOther (Operand.Global x) refl
  alike (Operand.Number z) e = AlikeOther (Operand.Number z) refl
  alike Operand.True e = AlikeOther Operand.True refl
  alike Operand.False e = AlikeOther Operand.False refl
  alike Operand.Null e = AlikeOther Operand.Null refl
  alike Operand.None e = AlikeOther Operand.None refl
  alike Operand.Poison e = AlikeOther Operand.Poison refl

  each_alike : (xs : List Operand) → list_all (knows_operand m values) xs ≡ true → Each (λ (x : Operand). IsAlike was K x x) xs
  each_alike xs e = each_turns Before (λ (x : Operand). IsAlike was K x x) alike xs (each_passes (knows_operand m values) xs e)

  same_fits : (i : Instr) → list_all (knows_operand m values) (instr_operands i) ≡ true → fits_instr m was i ≡ true → fits_instr n K i ≡ true
  same_fits i e d = instr_there m n (has_functions m n h) K i ∙ instr_alike m was K i i (instr_itself (IsAlike was K) i (each_alike (instr_operands i) e)) ∙ d

  -- ---- what replaces a call

  module _ (c : ℕ) (a : low ≤ c) (p : Place) (x : Intrinsic) (r : Option ℕ) (must_tail : Bool) (ty : Option Ty) (args : List Arg) (own : extra p (OfInstr (Instr.Call r must_tail ty (Callee.Intrinsic x) args)) ≡ false) (known : Each Before (arg_operands args)) (passed : Each (λ (b : Arg). passes was (Callee.Intrinsic x) b ≡ true) args) where
    given_fits : (b : Arg) → IsListed b args → b.ty ≡ ptr → fits K ptr b.value ≡ true
    given_fits b l e =
        let all : passes was (Callee.Intrinsic x) b ≡ true = of_listed (λ (b : Arg). passes was (Callee.Intrinsic x) b ≡ true) args b passed l in
        fits_alike m was K ptr b.value b.value (alike b.value (of_listed Before (arg_operands args) b.value known (listed_mapped (λ (y : Arg). y.value) args b l)))
        ∙ sym (ap (λ (t : Ty). fits was t b.value) e) ∙ and_second (is_passed (Callee.Intrinsic x) b.ty) (fits_arg was b) all

    pointer_fits : (y : Operand) → IsPointer s part c x args y → fits K ptr y ≡ true
    pointer_fits _ (Given b l e) = given_fits b l e
    pointer_fits _ (Frame e) = ap (λ (o : Option Kind). fits_kind o ptr) (kinds.frame p r must_tail ty x args own e)
    pointer_fits _ (OfParameter d e) = ap (λ (o : Option Kind). fits_kind o ptr) (kinds.given d)
    pointer_fits _ NoFrame = refl
    pointer_fits _ First = ap (λ (o : Option Kind). fits_kind o ptr) (kinds.fresh c a)
    pointer_fits _ Second = ap (λ (o : Option Kind). fits_kind o ptr) (kinds.fresh (c + 1) (omega (arith, a)))

    fresh_fits : (v : ℕ) → (v ≡ c) ⊎ (v ≡ c + 1) → fits K ptr (Operand.Local v) ≡ true
    fresh_fits v (inl e) = ap (λ (u : ℕ). fits K ptr (Operand.Local u)) e ∙ pointer_fits (Operand.Local c) First
    fresh_fits v (inr e) = ap (λ (u : ℕ). fits K ptr (Operand.Local u)) e ∙ pointer_fits (Operand.Local (c + 1)) Second

    frame_numbers : (z : ℕ) → (z ≡ s.size) ⊎ (z ≡ s.align) → z < 2 ^ 32
    frame_numbers z (inl e) = subst (λ (y : ℕ). y < 2 ^ 32) (sym e) small.size
    frame_numbers z (inr e) = subst (λ (y : ℕ). y < 2 ^ 32) (sym e) small.align

    put_fits : (j : Instr) → Replaces s part c x r ty args j → fits_instr n K j ≡ true
    put_fits _ (Number v w z b d e g) = and_both (nat_lt z (2 ^ w)) (nat_lt 0 (2 ^ w)) (below_fits z w (frame_numbers z g) e) (zero_fits w e)
    put_fits _ (Truth v true b d) = refl
    put_fits _ (Truth v false b d) = refl
    put_fits _ (Address v y z b d e) =
        and_both (fits K ptr y) ((is_literal 64 z && true) && true) (pointer_fits y d) (ap (λ (t : Bool). (t && true) && true) (distance_fits s small z e))
    put_fits _ (StoresResume y b d) = pointer_fits y d
    put_fits _ (StoresDestroy y b d) = pointer_fits y d
    put_fits _ (StoresCleanup y b d e) = pointer_fits y e
    put_fits _ (StoresNull y d) = pointer_fits y d
    put_fits _ (StoresIndex j y b d) = and_both (is_literal (bits_of s.width) (pos j)) (fits K ptr y) (index_fits j b) (pointer_fits y d)
    put_fits _ (Loads v y b d) = pointer_fits y d
    put_fits _ (Calls v y b d) = and_both (fits K ptr (Operand.Local v)) (fits K ptr y && true) (fresh_fits v b) (and_both (fits K ptr y) true (pointer_fits y d) refl)
    put_fits _ (Tests v b d) = and_both (fits K ptr (Operand.Local c)) true (pointer_fits (Operand.Local c) First) refl

  -- ---- the rule

  abbrev labels : ℕ → Bool
  labels = is_label k f

  abbrev old : Place → FunctionPart → Bool
  old = either (either (either (breaks_values m was f.result) (calls_otherwise m)) (names_unknown m values labels)) extra

  module _ (aside : Bool) (ty : Option Ty) (returns : (aside ≡ true) ⊎ (ty ≡ f.result)) (switch : goes_on part ≡ true → (flags : List Bool) → fits_ending K ty (entry_term s flags part) ≡ true) (void : goes_on part ≡ true → ty ≡ None) where
    not_fitting : (b : Bool) (q : Place) (y : FunctionPart) → fits_part n K ty y ≡ true → misfits aside n K ty q y ≡ false
    not_fitting b q y e = ap (λ (t : Bool). not (aside && is_return y) && not t) e ∙ none (not (aside && is_return y))
      where
        none : (t : Bool) → (t && false) ≡ false
        none true = refl
        none false = refl

    instr_fits : (p q : Place) (c : ℕ) (i : Instr) → low ≤ c → old p (OfInstr i) ≡ false → Each (λ (j : Instr). misfits aside n K ty q (OfInstr j) ≡ false) (lowered s part c i)
    instr_fits p q c i a e = on (lowers m s part saves c p i calls)
      where
        three : either (either (breaks_values m was f.result) (calls_otherwise m)) (names_unknown m values labels) p (OfInstr i) ≡ false
        three = first_no (either (either (breaks_values m was f.result) (calls_otherwise m)) (names_unknown m values labels) p (OfInstr i)) (extra p (OfInstr i)) e

        two : either (breaks_values m was f.result) (calls_otherwise m) p (OfInstr i) ≡ false
        two = first_no (either (breaks_values m was f.result) (calls_otherwise m) p (OfInstr i)) (names_unknown m values labels p (OfInstr i)) three

        fit : fits_instr m was i ≡ true
        fit = holds (fits_instr m was i) (first_no (breaks_values m was f.result p (OfInstr i)) (calls_otherwise m p (OfInstr i)) two)

        calls : calls_otherwise m p (OfInstr i) ≡ false
        calls = second_no (breaks_values m was f.result p (OfInstr i)) (calls_otherwise m p (OfInstr i)) two

        known : list_all (knows_operand m values) (instr_operands i) ≡ true
        known = operands_before m values labels p (OfInstr i) (second_no (either (breaks_values m was f.result) (calls_otherwise m) p (OfInstr i)) (names_unknown m values labels p (OfInstr i)) three)

        on : Lowers s part c i → Each (λ (j : Instr). misfits aside n K ty q (OfInstr j) ≡ false) (lowered s part c i)
        on (Same d) = subst (Each (λ (j : Instr). misfits aside n K ty q (OfInstr j) ≡ false)) (sym d) (not_fitting aside q (OfInstr i) (same_fits i known fit), tt)
        on (Replaced x r must_tail t args d put) =
            let call : Instr = Instr.Call r must_tail t (Callee.Intrinsic x) args in
            let own : extra p (OfInstr call) ≡ false = ap (λ (j : Instr). extra p (OfInstr j)) (sym d) ∙ second_no (either (either (breaks_values m was f.result) (calls_otherwise m)) (names_unknown m values labels) p (OfInstr i)) (extra p (OfInstr i)) e in
            let operands : Each Before (arg_operands args) = each_passes (knows_operand m values) (arg_operands args) (ap (λ (j : Instr). list_all (knows_operand m values) (instr_operands j)) (sym d) ∙ known) in
            let all : fits_call was r t (Callee.Intrinsic x) args ≡ true = ap (fits_instr m was) (sym d) ∙ fit in
            let passed : list_all (passes was (Callee.Intrinsic x)) args ≡ true = and_second (fits_called was (Callee.Intrinsic x) args) (list_all (passes was (Callee.Intrinsic x)) args) (and_second (fits_result (Callee.Intrinsic x) t r) (fits_called was (Callee.Intrinsic x) args && list_all (passes was (Callee.Intrinsic x)) args) all) in
            each_turns (Replaces s part c x r t args) (λ (j : Instr). misfits aside n K ty q (OfInstr j) ≡ false)
            (λ j z. not_fitting aside q (OfInstr j) (put_fits c a p x r must_tail t args own operands (each_passes (passes was (Callee.Intrinsic x)) args passed) j z)) (lowered s part c i) put

    three_before : (p : Place) (x : FunctionPart) → old p x ≡ false → either (either (breaks_values m was f.result) (calls_otherwise m)) (names_unknown m values labels) p x ≡ false
    three_before p x e = first_no (either (either (breaks_values m was f.result) (calls_otherwise m)) (names_unknown m values labels) p x) (extra p x) e

    fit_before : (p : Place) (x : FunctionPart) → old p x ≡ false → fits_part m was f.result x ≡ true
    fit_before p x e =
        holds (fits_part m was f.result x)
        (first_no (breaks_values m was f.result p x) (calls_otherwise m p x)
        (first_no (either (breaks_values m was f.result) (calls_otherwise m) p x) (names_unknown m values labels p x) (three_before p x e)))

    known_before : (p : Place) (x : FunctionPart) → old p x ≡ false → list_all (knows_operand m values) (part_operands x) ≡ true
    known_before p x e = operands_before m values labels p x (second_no (either (breaks_values m was f.result) (calls_otherwise m) p x) (names_unknown m values labels p x) (three_before p x e))

    takes_fits : (t : Ty) (is : List Incoming) → list_all (knows_operand m values) (map (λ (i : Incoming). i.value) is) ≡ true → list_all (takes was t) is ≡ true → list_all (takes K t) is ≡ true
    takes_fits t [] e d = refl
    takes_fits t (i ∷ is) e d =
        and_both (takes K t i) (list_all (takes K t) is)
        (fits_alike m was K t i.value i.value (alike i.value (and_first (knows_operand m values i.value) (list_all (knows_operand m values) (map (λ (j : Incoming). j.value) is)) e)) ∙ and_first (takes was t i) (list_all (takes was t) is) d)
        (takes_fits t is (and_second (knows_operand m values i.value) (list_all (knows_operand m values) (map (λ (j : Incoming). j.value) is)) e) (and_second (takes was t i) (list_all (takes was t) is) d))

    phi_fits : (p q : Place) (x y : Phi) → IsPhiOf x y → old p (OfPhi x) ≡ false → misfits aside n K ty q (OfPhi y) ≡ false
    phi_fits p q x y of e =
        let fit : fits_phi was x.ty x.incoming ≡ true = fit_before p (OfPhi x) e in
        not_fitting aside q (OfPhi y)
        (ap (λ (t : Ty). fits_phi K t y.incoming) of.ty
        ∙ and_both (is_scalar x.ty) (list_all (takes K x.ty) y.incoming) (and_first (is_scalar x.ty) (list_all (takes was x.ty) x.incoming) fit)
        (of.values (fits K x.ty) (takes_fits x.ty x.incoming (known_before p (OfPhi x) e) (and_second (is_scalar x.ty) (list_all (takes was x.ty) x.incoming) fit))))

    same_term : (u : Terminator) → is_return (Ending u) ≡ false → fits_ending K ty u ≡ fits_ending K f.result u
    same_term (Terminator.Jump label) r = refl
    same_term (Terminator.Branch c a b) r = refl
    same_term (Terminator.Switch arg default cases) r = refl
    same_term (Terminator.Ret value) r = absurd (cc)
    same_term Terminator.Unreachable r = refl

    term_fits : (p q : Place) (t : Terminator) → old p (Ending t) ≡ false → misfits aside n K ty q (Ending (redirected_term s t)) ≡ false
    term_fits p q t e = on returns
      where
        alike_term : fits_ending K f.result t ≡ true
        alike_term = term_alike m was K f.result t t (term_itself (IsAlike was K) t (each_alike (ending_operands t) (known_before p (Ending t) e))) ∙ fit_before p (Ending t) e

        -- what a return gives is asked of returns alone
        other : is_return (Ending t) ≡ false → fits_ending K ty t ≡ fits_ending K f.result t
        other r = same_term t r

        on : (aside ≡ true) ⊎ (ty ≡ f.result) → misfits aside n K ty q (Ending (redirected_term s t)) ≡ false
        on (inr same) = not_fitting aside q (Ending (redirected_term s t)) (redirected_fits s K ty t ∙ ap (λ (o : Option Ty). fits_ending K o t) same ∙ alike_term)
        on (inl left) = either_way (is_return (Ending t)) refl
          where
            either_way : (b : Bool) → is_return (Ending t) ≡ b → misfits aside n K ty q (Ending (redirected_term s t)) ≡ false
            either_way true r = λ i. not (left i && (redirected_return s t ∙ r) i) && breaks_values n K ty q (Ending (redirected_term s t))
            either_way false r = not_fitting aside q (Ending (redirected_term s t)) (redirected_fits s K ty t ∙ other r ∙ alike_term)

    pub values_carried : Carries s part low old (misfits aside n K ty)
    values_carried =
        record {
          head = λ p b. not_fitting aside p (Head b) refl;
          phi = phi_fits;
          instr = λ p q c i a again e. instr_fits p q c i a e;
          ending = term_fits;
          jump = λ q l. not_fitting aside q (Ending (Terminator.Jump l)) refl;
          return = λ e q. not_fitting aside q (Ending (Terminator.Ret None)) (ap (λ (o : Option Ty). fits_ending K o (Terminator.Ret None)) (void e));
          stop = λ q. not_fitting aside q (Ending Terminator.Unreachable) refl;
          index = λ e q. (
            not_fitting aside q (OfInstr (address (slot_name s) (Operand.Local s.begin) (pos s.index)))
                (and_both (fits K ptr (Operand.Local s.begin)) ((is_literal 64 (pos s.index) && true) && true) (ap (λ (o : Option Kind). fits_kind o ptr) (kinds.begin e)) (ap (λ (t : Bool). (t && true) && true) (distance_fits s small (pos s.index) OfIndex))),
            (not_fitting aside q (OfInstr (Instr.Load (index_name s) (int (bits_of s.width)) (Operand.Local (slot_name s)) (index_bytes s.width))) (ap (λ (o : Option Kind). fits_kind o ptr) (kinds.slot e)), tt),
          );
          switch = λ e flags q. not_fitting aside q (Ending (entry_term s flags part)) (switch e flags);
        }
