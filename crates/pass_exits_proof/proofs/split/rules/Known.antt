-- N2: the types, functions and globals that a part names are known.
use Rattle.std.proofs.Common.{◌≡◌, ℕ, ◌+◌, ◌<◌, Bool, true, false, List, [], ◌∷◌, ◌++◌, length, refl, sym, ap, ◌∙◌, subst}
use Rattle.std.specs.List.{list_all}
use Rattle.std.specs.Prelude.{Option, Some, map, not, pos, if◌then◌else◌, ◌&&◌, ◌||◌}
use Rattle.pass_fetch_proof.specs.ir_base.declared.ops.BinOp.{BinOp}
use Rattle.pass_fetch_proof.specs.ir_base.declared.outcome.Place.{Place}
use Rattle.pass_split.specs.Parts.{case_of, cases_from, entry_term, is_entered}
use Rattle.pass_split.specs.Pieces.{redirected_term}
use Rattle.pass_fetch_proof.proofs.rule_laws.rules.local_rules.Fitting.{either}
use Rattle.pass_fetch_proof.proofs.ir_laws.facts.Truth.{and_both, first_no, second_no}
use Rattle.pass_fetch_proof.specs.ir_parts.Contents.{arg_operands, ending_operands, ending_types, instr_operands, instr_types, part_labels, part_operands, part_types}
use Rattle.pass_fetch_proof.specs.ir_parts.Parts.{Ending, OfInstr, OfPhi, Part as FunctionPart}
use Rattle.pass_fetch_proof.specs.pass_intrinsics.Lowered.{address, call_pointer, load_pointer, lowered, no_flags, number_arg, number_of_save, store_pointer, truth_of}
use Rattle.pass_fetch_proof.specs.pass_intrinsics.Shapes.{index_bytes}
use Rattle.pass_fetch_proof.specs.pass_intrinsics.declared.shape.Part.{Part}
use Rattle.pass_fetch_proof.specs.pass_intrinsics.declared.shape.Shape.{Shape}
use Rattle.pass_fetch_proof.specs.pass_intrinsics.declared.shape.SuspendPoint.{SuspendPoint}
use Rattle.ir_model.specs.Ty.{Ty, int}
use Rattle.ir_model.specs.TypeView.{bits_of}
use Rattle.ir_model.specs.declared.instr.Case.{Case}
use Rattle.ir_model.specs.declared.instr.Incoming.{Incoming}
use Rattle.ir_model.specs.declared.instr.Instr.{Instr}
use Rattle.ir_model.specs.declared.module.Module.{Module}
use Rattle.ir_model.specs.declared.operand.Arg.{Arg}
use Rattle.ir_model.specs.declared.operand.Callee.{Callee}
use Rattle.ir_model.specs.declared.operand.Intrinsic.{Intrinsic}
use Rattle.ir_model.specs.declared.operand.Operand.{Operand}
use Rattle.pass_fetch_proof.specs.rule_locals.Intrinsics.{is_inner}
use Rattle.pass_fetch_proof.specs.rule_names.Known.{knows_address, knows_called, knows_name, knows_operand, knows_type, names_unknown}
use Rattle.pass_fetch_proof.specs.rule_laws.frames.same_names.Parts.{HasPartsOf}
use Rattle.pass_exits_proof.proofs.split.rules.Carried.{Carries}
use Rattle.pass_exits_proof.proofs.split.rules.Local.{Lowers, Replaced, Same, lowers, same_term_operands, same_term_types}
use Rattle.pass_fetch_proof.proofs.rule_laws.frames.replaced.Modules.{address_known, all_known, callee_known, has_functions}
use Rattle.pass_fetch_proof.specs.rule_laws.rules.replaced.Instructions.{names_strange}
use Rattle.pass_fetch_proof.specs.rule_laws.frames.replaced.Replaced.{Address, Calls, First, Frame, Given, IsPointer, Loads, NoFrame, Number, OfParameter, Replaces, Second, StoresCleanup, StoresDestroy, StoresIndex, StoresNull, StoresResume, Tests, Truth}
use Rattle.pass_fetch_proof.specs.run_laws.changed.Changed.{Each}
use Rattle.pass_fetch_proof.specs.rule_types.Signatures.{calls_otherwise}
use Rattle.pass_fetch_proof.proofs.ir_laws.facts.Members.{all_pass, each_passes, each_turns}
use Rattle.pass_fetch_proof.proofs.ir_laws.paths.replaced.Known.{listed_mapped, of_listed}
use Rattle.pass_fetch_proof.proofs.rule_laws.rules.replaced.Known.{called_before, operands_before, types_before}

-- ---- lists

all_mapped : {A B : Type 0} (t : B → Bool) (g : A → B) (xs : List A) → list_all t (map g xs) ≡ list_all (λ x. t (g x)) xs
all_mapped t g [] = refl
all_mapped t g (x ∷ xs) = ap (λ (b : Bool). t (g x) && b) (all_mapped t g xs)

all_true : {A : Type 0} (xs : List A) → list_all (λ (x : A). true) xs ≡ true
all_true [] = refl
all_true (x ∷ xs) = all_true xs

-- the names of the parts that are stored are known
pub record KnowsParts (n : Module) (s : Shape) (part : Part) : Type 0 where
  pub resume : knows_name n s.resume_name ≡ true
  pub destroy : knows_name n s.destroy_name ≡ true
  pub cleanup : part ≡ Part.GivenRamp → knows_name n s.cleanup_name ≡ true

module _ (m n : Module) (h : HasPartsOf m n) (values labels : ℕ → Bool) where
  abbrev Known : Operand → Type 0
  Known x = knows_operand n (λ v. true) x ≡ true

  abbrev Before : Operand → Type 0
  Before x = knows_operand m values x ≡ true

  known_again : (x : Operand) → Before x → Known x
  known_again (Operand.Local v) e = refl
  known_again (Operand.Global x) e = address_known m n (has_functions m n h) x e
  known_again (Operand.Number z) e = refl
  known_again Operand.True e = refl
  known_again Operand.False e = refl
  known_again Operand.Null e = refl
  known_again Operand.None e = refl
  known_again Operand.Poison e = refl

  all_again : (xs : List Operand) → list_all (knows_operand m values) xs ≡ true → list_all (knows_operand n (λ v. true)) xs ≡ true
  all_again xs e = all_pass (knows_operand n (λ v. true)) xs (each_turns Before Known known_again xs (each_passes (knows_operand m values) xs e))

  pub now_known : (q : Place) (y : FunctionPart) → list_all (knows_type n) (part_types y) ≡ true → list_all (knows_operand n (λ v. true)) (part_operands y) ≡ true → knows_called n y ≡ true → names_strange n q y ≡ false
  now_known q y a b c =
      ap not
      (and_both (list_all (knows_type n) (part_types y)) (list_all (knows_operand n (λ v. true)) (part_operands y) && (list_all (λ (l : ℕ). true) (part_labels y) && knows_called n y)) a
      (and_both (list_all (knows_operand n (λ v. true)) (part_operands y)) (list_all (λ (l : ℕ). true) (part_labels y) && knows_called n y) b
      (and_both (list_all (λ (l : ℕ). true) (part_labels y)) (knows_called n y) (all_true (part_labels y)) c)))

  called_again : (i : Instr) → knows_called m (OfInstr i) ≡ true → knows_called n (OfInstr i) ≡ true
  called_again (Instr.Call r must_tail ty callee args) e = callee_known m n (has_functions m n h) callee e
  called_again _ e = refl

  same_again : (p q : Place) (i : Instr) → names_unknown m values labels p (OfInstr i) ≡ false → names_strange n q (OfInstr i) ≡ false
  same_again p q i e =
      now_known q (OfInstr i) (all_known m n (has_functions m n h) (instr_types i) ∙ types_before m values labels p (OfInstr i) e) (all_again (instr_operands i) (operands_before m values labels p (OfInstr i) e)) (called_again i (called_before m values labels p (OfInstr i) e))

  module _ (s : Shape) (part : Part) (saves : (r : Option ℕ) (j : ℕ) → number_of_save s r ≡ Some j → j < length s.suspends) (extra : Place → FunctionPart → Bool) (stores : (p : Place) (r : Option ℕ) (must_tail : Bool) (ty : Option Ty) (x : Intrinsic) (args : List Arg) → extra p (OfInstr (Instr.Call r must_tail ty (Callee.Intrinsic x) args)) ≡ false → is_inner x ≡ true → KnowsParts n s part) where
    pointer_known : (k : ℕ) (y : Intrinsic) (args : List Arg) (x : Operand) → Each Before (arg_operands args) → IsPointer s part k y args x → Known x
    pointer_known k y args _ b (Given a l e) = known_again a.value (of_listed Before (arg_operands args) a.value b (listed_mapped (λ (c : Arg). c.value) args a l))
    pointer_known k y args _ b (Frame e) = refl
    pointer_known k y args _ b (OfParameter d e) = refl
    pointer_known k y args _ b NoFrame = refl
    pointer_known k y args _ b First = refl
    pointer_known k y args _ b Second = refl

    one_known : (x : Operand) → Known x → list_all (knows_operand n (λ v. true)) (x ∷ []) ≡ true
    one_known x e = and_both (knows_operand n (λ v. true) x) true e refl

    named_known : (b c : Bool) → b ≡ true → (b || c) ≡ true
    named_known true c e = refl
    named_known false c e = absurd (cc)

    truth_known : (b : Bool) → Known (truth_of b)
    truth_known true = refl
    truth_known false = refl

    put_known : (q : Place) (k : ℕ) (x : Intrinsic) (r : Option ℕ) (ty : Option Ty) (args : List Arg) → (is_inner x ≡ true → KnowsParts n s part) → Each Before (arg_operands args) → (j : Instr) → Replaces s part k x r ty args j → names_strange n q (OfInstr j) ≡ false
    put_known q k x r ty args owns b _ (Number v w z a c d e) = refl
    put_known q k x r ty args owns b _ (Truth v t a c) = on t
      where
        on : (t : Bool) → names_strange n q (OfInstr (Instr.Binary v BinOp.And no_flags (int 1) (truth_of t) (truth_of t))) ≡ false
        on true = refl
        on false = refl
    put_known q k x r ty args owns b _ (Address v p z a c d) = now_known q (OfInstr (address v p z)) refl (and_both (knows_operand n (λ u. true) p) true (pointer_known k x args p b c) refl) refl
    put_known q k x r ty args owns b _ (StoresResume p o a) =
        now_known q (OfInstr (store_pointer (Operand.Global s.resume_name) p)) refl (and_both (knows_address n s.resume_name) (knows_operand n (λ u. true) p && true) (named_known (knows_name n s.resume_name) _ (owns o).resume) (one_known p (pointer_known k x args p b a))) refl
    put_known q k x r ty args owns b _ (StoresDestroy p o a) =
        now_known q (OfInstr (store_pointer (Operand.Global s.destroy_name) p)) refl (and_both (knows_address n s.destroy_name) (knows_operand n (λ u. true) p && true) (named_known (knows_name n s.destroy_name) _ (owns o).destroy) (one_known p (pointer_known k x args p b a))) refl
    put_known q k x r ty args owns b _ (StoresCleanup p e o a) =
        now_known q (OfInstr (store_pointer (Operand.Global s.cleanup_name) p)) refl (and_both (knows_address n s.cleanup_name) (knows_operand n (λ u. true) p && true) (named_known (knows_name n s.cleanup_name) _ ((owns o).cleanup e)) (one_known p (pointer_known k x args p b a))) refl
    put_known q k x r ty args owns b _ (StoresNull p a) = now_known q (OfInstr (store_pointer Operand.Null p)) refl (one_known p (pointer_known k x args p b a)) refl
    put_known q k x r ty args owns b _ (StoresIndex j p a c) = now_known q (OfInstr (Instr.Store (number_arg (bits_of s.width) (pos j)) p (index_bytes s.width))) refl (one_known p (pointer_known k x args p b c)) refl
    put_known q k x r ty args owns b _ (Loads v p a c) = now_known q (OfInstr (load_pointer v p)) refl (one_known p (pointer_known k x args p b c)) refl
    put_known q k x r ty args owns b _ (Calls v p a c) = now_known q (OfInstr (call_pointer v p)) refl (one_known p (pointer_known k x args p b c)) refl
    put_known q k x r ty args owns b _ (Tests v a c) = refl

    instr_known : (p q : Place) (k : ℕ) (i : Instr) → names_unknown m values labels p (OfInstr i) ≡ false → calls_otherwise m p (OfInstr i) ≡ false → extra p (OfInstr i) ≡ false → Each (λ (j : Instr). names_strange n q (OfInstr j) ≡ false) (lowered s part k i)
    instr_known p q k i e calls own = on (lowers m s part saves k p i calls)
      where
        on : Lowers s part k i → Each (λ (j : Instr). names_strange n q (OfInstr j) ≡ false) (lowered s part k i)
        on (Same d) = subst (Each (λ (j : Instr). names_strange n q (OfInstr j) ≡ false)) (sym d) (same_again p q i e, tt)
        on (Replaced x r must_tail ty args d put) =
            let before : Each Before (arg_operands args) = each_passes (knows_operand m values) (arg_operands args) (ap (λ (j : Instr). list_all (knows_operand m values) (instr_operands j)) (sym d) ∙ operands_before m values labels p (OfInstr i) e) in
            each_turns (Replaces s part k x r ty args) (λ (j : Instr). names_strange n q (OfInstr j) ≡ false) (λ j c. put_known q k x r ty args (stores p r must_tail ty x args (ap (λ (j : Instr). extra p (OfInstr j)) (sym d) ∙ own)) before j c) (lowered s part k i) put

    cases_known : (flags : List Bool) (j : ℕ) (ps : List SuspendPoint) → list_all (knows_type n) (map (λ (k : Case). k.arg.ty) (cases_from s flags part j ps)) ≡ true
    cases_known flags j [] = refl
    cases_known flags j (p ∷ ps) = on (is_entered flags part p) (cases_known flags (j + 1) ps)
      where
        on : (b : Bool) → list_all (knows_type n) (map (λ (k : Case). k.arg.ty) (cases_from s flags part (j + 1) ps)) ≡ true → list_all (knows_type n) (map (λ (k : Case). k.arg.ty) ((if b then case_of s j ∷ [] else []) ++ cases_from s flags part (j + 1) ps)) ≡ true
        on true e = e
        on false e = e

    words_known : (flags : List Bool) (j : ℕ) (ps : List SuspendPoint) → list_all (knows_operand n (λ v. true)) (map (λ (k : Case). k.arg.value) (cases_from s flags part j ps)) ≡ true
    words_known flags j [] = refl
    words_known flags j (p ∷ ps) = on (is_entered flags part p) (words_known flags (j + 1) ps)
      where
        on : (b : Bool) → list_all (knows_operand n (λ v. true)) (map (λ (k : Case). k.arg.value) (cases_from s flags part (j + 1) ps)) ≡ true → list_all (knows_operand n (λ v. true)) (map (λ (k : Case). k.arg.value) ((if b then case_of s j ∷ [] else []) ++ cases_from s flags part (j + 1) ps)) ≡ true
        on true e = e
        on false e = e

    abbrev old : Place → FunctionPart → Bool
    old = either (either (names_unknown m values labels) (calls_otherwise m)) extra

    pub known_carried : Carries s part 0 old (names_strange n)
    known_carried =
        record {
          head = λ p b. refl;
          phi = λ p q x y of e.
              let before = first_no (names_unknown m values labels p (OfPhi x)) false (first_no (names_unknown m values labels p (OfPhi x) || false) (extra p (OfPhi x)) e) in
              let test : Operand → Bool = knows_operand n (λ v. true) in
              now_known q (OfPhi y) (ap (λ (t : Ty). list_all (knows_type n) (t ∷ [])) of.ty ∙ all_known m n (has_functions m n h) (x.ty ∷ []) ∙ types_before m values labels p (OfPhi x) before)
              (all_mapped test (λ (i : Incoming). i.value) y.incoming
              ∙ of.values test (sym (all_mapped test (λ (i : Incoming). i.value) x.incoming) ∙ all_again (part_operands (OfPhi x)) (operands_before m values labels p (OfPhi x) before))) refl;
          instr = λ p q k i low again e.
              let both = first_no (names_unknown m values labels p (OfInstr i) || calls_otherwise m p (OfInstr i)) (extra p (OfInstr i)) e in
              instr_known p q k i (first_no (names_unknown m values labels p (OfInstr i)) (calls_otherwise m p (OfInstr i)) both) (second_no (names_unknown m values labels p (OfInstr i)) (calls_otherwise m p (OfInstr i)) both)
              (second_no (names_unknown m values labels p (OfInstr i) || calls_otherwise m p (OfInstr i)) (extra p (OfInstr i)) e);
          ending = λ p q t e.
              let before = first_no (names_unknown m values labels p (Ending t)) false (first_no (names_unknown m values labels p (Ending t) || false) (extra p (Ending t)) e) in
              now_known q (Ending (redirected_term s t)) (ap (list_all (knows_type n)) (same_term_types s t) ∙ all_known m n (has_functions m n h) (ending_types t) ∙ types_before m values labels p (Ending t) before)
              (ap (list_all (knows_operand n (λ v. true))) (same_term_operands s t) ∙ all_again (ending_operands t) (operands_before m values labels p (Ending t) before)) refl;
          jump = λ q l. refl;
          return = λ e q. refl;
          stop = λ q. refl;
          index = λ e q. (refl, (refl, tt));
          switch = λ e flags q. now_known q (Ending (entry_term s flags part)) (cases_known flags 0 s.suspends) (words_known flags 0 s.suspends) refl;
        }
