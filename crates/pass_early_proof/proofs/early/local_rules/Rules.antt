-- The rules of functions and of globals that no part breaks in the source, and so none in the result.
use Rattle.std.proofs.Common.{◌≡◌, ℕ, suc, ◌+◌, Bool, true, false, List, [], ◌∷◌, ◌++◌, refl, sym, ap, ◌∙◌, subst, arith}
use Rattle.std.proofs.lemmas.Option.{slice_get-map}
use Rattle.std.specs.List.{list_all}
use Rattle.std.specs.Prelude.{Some, None, Option, map, not, option_map, slice_get, ◌&&◌, ◌||◌, if◌then◌else◌}
use Rattle.rule_laws.specs.ir_base.declared.name.Name.{Name}
use Rattle.rule_laws.specs.ir_base.declared.outcome.Item.{Item}
use Rattle.rule_laws.specs.ir_base.declared.outcome.Place.{Place}
use Rattle.pass_early_proof.proofs.early.local_rules.Carried.{Carries, StaysOut, carried, on_instrs}
use Rattle.pass_early_proof.proofs.early.local_rules.Turned.{Any, Begins, Saves, Stays, Turns, TurnsTo, turned_function}
use Rattle.rule_laws.specs.rules.local_rules.Local.{BreaksNoLocalRule, BreaksNoLocalRuleIn}
use Rattle.pass_early.specs.Early.{early_function, early_module}
use Rattle.pass_early.specs.Renaming.{renamed, renamed_arg, renamed_callee, renamed_incoming, renamed_instr, renamed_phi, renamed_return, renamed_term}
use Rattle.pass_early.specs.declared.renaming.Renaming.{Renaming}
use Rattle.rule_laws.specs.ir_parts.Contents.{arg_operands, callee_operands, ending_operands, instr_operands, part_operands, return_operands}
use Rattle.rule_laws.specs.ir_parts.Parts.{OfInstr, OfPhi, first_part, item_place, or_place, parts_of, place_if}
use Rattle.ir_model.specs.Names.{declaration_named, first_where, function_named, same_name}
use Rattle.ir_model.specs.Ty.{Ty}
use Rattle.ir_model.specs.declared.instr.Incoming.{Incoming}
use Rattle.ir_model.specs.declared.instr.Instr.{Instr}
use Rattle.ir_model.specs.declared.instr.Phi.{Phi}
use Rattle.ir_model.specs.declared.instr.Terminator.{Terminator}
use Rattle.ir_model.specs.declared.module.Declaration.{Declaration}
use Rattle.ir_model.specs.declared.module.Function.{Function}
use Rattle.ir_model.specs.declared.module.GlobalItem.{GlobalItem}
use Rattle.ir_model.specs.declared.module.Module.{Module}
use Rattle.ir_model.specs.declared.module.TypeItem.{TypeItem}
use Rattle.ir_model.specs.declared.operand.Arg.{Arg}
use Rattle.ir_model.specs.declared.operand.Callee.{Callee}
use Rattle.ir_model.specs.declared.operand.Intrinsic.{Intrinsic}
use Rattle.ir_model.specs.declared.operand.Operand.{Operand}
use Rattle.rule_laws.specs.rule_locals.Addresses.{calls_indirectly, is_no_function, points_to_functions}
use Rattle.rule_laws.specs.rule_locals.Calls.{calls_closed, is_closed, is_closed_at, is_closed_declaration}
use Rattle.rule_laws.specs.rule_locals.Entries.{allocates_late, is_past_entry}
use Rattle.rule_laws.specs.rule_locals.Extents.{breaks_extents, misaligned_globals}
use Rattle.rule_laws.specs.rule_locals.Instrs.{on_instr}
use Rattle.rule_laws.specs.rule_locals.Intrinsics.{calls_inner}
use Rattle.rule_laws.specs.rule_locals.Markers.{first_other_mark}
use Rattle.rule_laws.specs.rule_locals.Transfers.{breaks_transfers}
use Rattle.rule_laws.specs.rule_names.Definitions.{second_definitions}
use Rattle.rule_laws.specs.rule_names.Items.{Sentence, first_function, first_item, first_place}
use Rattle.rule_laws.specs.rule_names.Known.{allocator_name, unknown_names}
use Rattle.rule_laws.specs.rule_names.declared.stage.Stage.{Stage}
use Rattle.rule_laws.specs.run_laws.changed.Changed.{Each}
use Rattle.rule_laws.specs.rule_types.Signatures.{are_wanted, calls_otherwise, fits_callee, fits_declaration, fits_function, fits_named, fits_position, is_result, other_types, same_list, same_result}
use Rattle.rule_laws.specs.rule_types.Wants.{allocator_params, allocator_result, intrinsic_params, intrinsic_result, is_basic, meets}
use Rattle.rule_laws.specs.rule_types.declared.wants.Demand.{Demand}
use Rattle.rule_laws.specs.rule_types.declared.wants.Wanted.{Wanted}
use Rattle.rule_laws.specs.rule_values.Initials.{fits_initial, wrong_initials}
use Rattle.rule_laws.specs.rule_values.Values.{first_wrong_value}
use Rattle.rule_laws.proofs.ir_laws.facts.Truth.{and_both, and_first, and_second, first_no as or_first_out, holds, second_no as or_second_out}
use Rattle.rule_laws.proofs.rules.local_rules.Rules.{second_out}
use Rattle.rule_laws.proofs.rules.plain_rules.Places.{first_place_out as first_out, no_place_in as both_out, not_placed}

pub all_mapped : {A B C : Type 0} (t : B → Bool) (u : C → Bool) (f : A → B) (g : A → C) → ((x : A) → t (f x) ≡ true → u (g x) ≡ true) → (xs : List A) → list_all t (map f xs) ≡ true → list_all u (map g xs) ≡ true
all_mapped t u f g h [] e = refl
all_mapped t u f g h (x ∷ xs) e =
    and_both (u (g x)) (list_all u (map g xs)) (h x (and_first (t (f x)) (list_all t (map f xs)) e)) (all_mapped t u f g h xs (and_second (t (f x)) (list_all t (map f xs)) e))

-- ---- the operands of the result

module _ (r : Renaming) where
  values_renamed : (args : List Arg) → arg_operands (map (renamed_arg r) args) ≡ map (renamed r) (arg_operands args)
  values_renamed [] = refl
  values_renamed (a ∷ args) = λ k. renamed r a.value ∷ values_renamed args k

  pub incoming_renamed : (xs : List Incoming) → map (λ i. i.value) (map (renamed_incoming r) xs) ≡ map (renamed r) (map (λ i. i.value) xs)
  incoming_renamed [] = refl
  incoming_renamed (x ∷ xs) = λ k. renamed r x.value ∷ incoming_renamed xs k

  called_renamed : (callee : Callee) (args : List Arg) → callee_operands (renamed_callee r callee) ++ arg_operands (map (renamed_arg r) args) ≡ map (renamed r) (callee_operands callee ++ arg_operands args)
  called_renamed (Callee.Named name) args = values_renamed args
  called_renamed (Callee.Allocator a) args = values_renamed args
  called_renamed (Callee.Intrinsic j) args = values_renamed args
  called_renamed (Callee.Local v) args = λ k. renamed r (Operand.Local v) ∷ values_renamed args k

  pub operands_renamed : (i : Instr) → instr_operands (renamed_instr r i) ≡ map (renamed r) (instr_operands i)
  operands_renamed (Instr.Binary result op flags ty left right) = refl
  operands_renamed (Instr.Icmp result pred ty left right) = refl
  operands_renamed (Instr.Select result c a b) = refl
  operands_renamed (Instr.Cast result op nneg arg to) = refl
  operands_renamed (Instr.Alloca result ty align) = refl
  operands_renamed (Instr.Load result ty address align) = refl
  operands_renamed (Instr.Store arg address align) = refl
  operands_renamed (Instr.Gep result inbounds ty base indices) = λ k. renamed r base ∷ values_renamed indices k
  operands_renamed (Instr.Call result must_tail ty callee args) = called_renamed callee args

  -- a test that operands pass, and what they become
  module _ (t u : Operand → Bool) (over : (x : Operand) → t x ≡ true → u (renamed r x) ≡ true) where
    all_renamed : (xs : List Operand) → list_all t xs ≡ true → list_all u (map (renamed r) xs) ≡ true
    all_renamed [] e = refl
    all_renamed (x ∷ xs) e = and_both (u (renamed r x)) (list_all u (map (renamed r) xs)) (over x (and_first (t x) (list_all t xs) e)) (all_renamed xs (and_second (t x) (list_all t xs) e))

    pub all_in_phi : (p : Phi) → list_all t (part_operands (OfPhi p)) ≡ true → list_all u (part_operands (OfPhi (renamed_phi r p))) ≡ true
    all_in_phi p e = ap (list_all u) (incoming_renamed p.incoming) ∙ all_renamed (map (λ i. i.value) p.incoming) e

    pub all_in_instr : (i : Instr) → list_all t (instr_operands i) ≡ true → list_all u (instr_operands (renamed_instr r i)) ≡ true
    all_in_instr i e = ap (list_all u) (operands_renamed i) ∙ all_renamed (instr_operands i) e

    pub all_in_args : (args : List Arg) → list_all t (arg_operands args) ≡ true → list_all u (arg_operands (map (renamed_arg r) args)) ≡ true
    all_in_args args e = ap (list_all u) (values_renamed args) ∙ all_renamed (arg_operands args) e

    all_in_return : (o : Option Arg) → list_all t (return_operands o) ≡ true → list_all u (return_operands (renamed_return r o)) ≡ true
    all_in_return None e = refl
    all_in_return (Some a) e = all_renamed (a.value ∷ []) e

    pub all_in_term : ((x : Operand) → t x ≡ true → u x ≡ true) → (b : Terminator) → list_all t (ending_operands b) ≡ true → list_all u (ending_operands (renamed_term r b)) ≡ true
    all_in_term stays (Terminator.Jump label) e = refl
    all_in_term stays (Terminator.Branch c a b) e = all_renamed (c ∷ []) e
    all_in_term stays (Terminator.Switch arg default cases) e =
        and_both (u (renamed r arg.value)) (list_all u (map (λ k. k.arg.value) cases)) (over arg.value (and_first (t arg.value) (list_all t (map (λ k. k.arg.value) cases)) e))
        (all_mapped t u (λ k. k.arg.value) (λ k. k.arg.value) (λ k. stays k.arg.value) cases (and_second (t arg.value) (list_all t (map (λ k. k.arg.value) cases)) e))
    all_in_term stays (Terminator.Ret value) e = all_in_return value e
    all_in_term stays Terminator.Unreachable e = refl

-- ---- names and types of functions

module _ (m : Module) where
  abbrev m2 : Module
  m2 = early_module m

  function_same : (n : Name) (fs : List Function) → first_where (λ f. same_name f.name n) (map early_function fs) ≡ first_where (λ f. same_name f.name n) fs
  function_same n [] = refl
  function_same n (f ∷ fs) = λ k. if same_name ((turned_function f).name k) n then Some 0 else option_map suc (function_same n fs k)

  pub named_same : (n : Name) → function_named m2 n ≡ function_named m n
  named_same n = function_same n m.functions

  -- ---- Y3

  closed_same : (n : Name) → is_closed m2 n ≡ is_closed m n
  closed_same n = ap (is_closed_at m2 n) (named_same n) ∙ on (function_named m n)
    where
      declared : (o : Option ℕ) → is_closed_declaration m2 n o ≡ is_closed_declaration m n o
      declared None = refl
      declared (Some k) = refl

      on : (o : Option ℕ) → is_closed_at m2 n o ≡ is_closed_at m n o
      on None = declared (declaration_named m n)
      on (Some k) = refl

  module _ (r : Renaming) (fresh : ℕ → Type 0) where
    calls_closed_same : (p q : Place) (i : Instr) → calls_closed m2 q (renamed_instr r i) ≡ calls_closed m p i
    calls_closed_same p q (Instr.Binary result op flags ty left right) = refl
    calls_closed_same p q (Instr.Icmp result pred ty left right) = refl
    calls_closed_same p q (Instr.Select result c a b) = refl
    calls_closed_same p q (Instr.Cast result op nneg arg to) = refl
    calls_closed_same p q (Instr.Alloca result ty align) = refl
    calls_closed_same p q (Instr.Load result ty address align) = refl
    calls_closed_same p q (Instr.Store arg address align) = refl
    calls_closed_same p q (Instr.Gep result inbounds ty base indices) = refl
    calls_closed_same p q (Instr.Call result must_tail ty (Callee.Named name) args) = closed_same name
    calls_closed_same p q (Instr.Call result must_tail ty (Callee.Allocator a) args) = refl
    calls_closed_same p q (Instr.Call result must_tail ty (Callee.Intrinsic j) args) = refl
    calls_closed_same p q (Instr.Call result must_tail ty (Callee.Local v) args) = refl

    closed_over : (p : Place) (i : Instr) (js : List Instr) → Turns r fresh i js → calls_closed m p i ≡ false → Each (StaysOut (on_instr (calls_closed m2)) p) js
    closed_over p i _ (Stays _) e = (λ q d. calls_closed_same p q i ∙ e, tt)
    closed_over p _ _ (Begins n result must_tail ty args) e = (λ q d. refl, tt)
    closed_over p _ _ (Saves n result must_tail ty a args number none) e = (λ q d. refl, (λ q d. refl, tt))

    -- ---- Y4

    extents_same : (p q : Place) (i : Instr) → breaks_extents Stage.Source m2 q (renamed_instr r i) ≡ breaks_extents Stage.Source m p i
    extents_same p q (Instr.Binary result op flags ty left right) = refl
    extents_same p q (Instr.Icmp result pred ty left right) = refl
    extents_same p q (Instr.Select result c a b) = refl
    extents_same p q (Instr.Cast result op nneg arg to) = refl
    extents_same p q (Instr.Alloca result ty align) = refl
    extents_same p q (Instr.Load result ty address align) = refl
    extents_same p q (Instr.Store arg address align) = refl
    extents_same p q (Instr.Gep result inbounds ty base indices) = refl
    extents_same p q (Instr.Call result must_tail ty callee args) = refl

    extents_over : (p : Place) (i : Instr) (js : List Instr) → Turns r fresh i js → breaks_extents Stage.Source m p i ≡ false → Each (StaysOut (on_instr (breaks_extents Stage.Source m2)) p) js
    extents_over p i _ (Stays _) e = (λ q d. extents_same p q i ∙ e, tt)
    extents_over p _ _ (Begins n result must_tail ty args) e = (λ q d. refl, tt)
    extents_over p _ _ (Saves n result must_tail ty a args number none) e = (λ q d. refl, (λ q d. refl, tt))

    -- ---- Y5

    transfers_same : (f g : Function) (p q : Place) (i : Instr) → breaks_transfers Stage.Source g q (renamed_instr r i) ≡ breaks_transfers Stage.Source f p i
    transfers_same f g p q (Instr.Binary result op flags ty left right) = refl
    transfers_same f g p q (Instr.Icmp result pred ty left right) = refl
    transfers_same f g p q (Instr.Select result c a b) = refl
    transfers_same f g p q (Instr.Cast result op nneg arg to) = refl
    transfers_same f g p q (Instr.Alloca result ty align) = refl
    transfers_same f g p q (Instr.Load result ty address align) = refl
    transfers_same f g p q (Instr.Store arg address align) = refl
    transfers_same f g p q (Instr.Gep result inbounds ty base indices) = refl
    transfers_same f g p q (Instr.Call result must_tail ty callee args) = refl

    transfers_over : (f g : Function) (p : Place) (i : Instr) (js : List Instr) → Turns r fresh i js → breaks_transfers Stage.Source f p i ≡ false → Each (StaysOut (on_instr (breaks_transfers Stage.Source g)) p) js
    transfers_over f g p i _ (Stays _) e = (λ q d. transfers_same f g p q i ∙ e, tt)
    transfers_over f g p _ _ (Begins n result must_tail ty args) e = (λ q d. e, tt)
    transfers_over f g p _ _ (Saves n result must_tail ty a args number none) e = (λ q d. refl, (λ q d. e, tt))

    -- ---- F3

    late_same : (p q : Place) (i : Instr) → q.block ≡ p.block → allocates_late q (renamed_instr r i) ≡ allocates_late p i
    late_same p q (Instr.Binary result op flags ty left right) d = refl
    late_same p q (Instr.Icmp result pred ty left right) d = refl
    late_same p q (Instr.Select result c a b) d = refl
    late_same p q (Instr.Cast result op nneg arg to) d = refl
    late_same p q (Instr.Alloca result ty align) d = ap is_past_entry d
    late_same p q (Instr.Load result ty address align) d = refl
    late_same p q (Instr.Store arg address align) d = refl
    late_same p q (Instr.Gep result inbounds ty base indices) d = refl
    late_same p q (Instr.Call result must_tail ty callee args) d = refl

    late_over : (p : Place) (i : Instr) (js : List Instr) → Turns r fresh i js → allocates_late p i ≡ false → Each (StaysOut (on_instr allocates_late) p) js
    late_over p i _ (Stays _) e = (λ q d. late_same p q i d ∙ e, tt)
    late_over p _ _ (Begins n result must_tail ty args) e = (λ q d. refl, tt)
    late_over p _ _ (Saves n result must_tail ty a args number none) e = (λ q d. refl, (λ q d. refl, tt))

    -- ---- K1

    inner_same : (b : Bool) (p q : Place) (i : Instr) → calls_inner b q (renamed_instr r i) ≡ calls_inner b p i
    inner_same b p q (Instr.Binary result op flags ty left right) = refl
    inner_same b p q (Instr.Icmp result pred ty left right) = refl
    inner_same o p q (Instr.Select result c a b) = refl
    inner_same b p q (Instr.Cast result op nneg arg to) = refl
    inner_same b p q (Instr.Alloca result ty align) = refl
    inner_same b p q (Instr.Load result ty address align) = refl
    inner_same b p q (Instr.Store arg address align) = refl
    inner_same b p q (Instr.Gep result inbounds ty base indices) = refl
    inner_same b p q (Instr.Call result must_tail ty (Callee.Named name) args) = refl
    inner_same b p q (Instr.Call result must_tail ty (Callee.Allocator a) args) = refl
    inner_same b p q (Instr.Call result must_tail ty (Callee.Intrinsic j) args) = refl
    inner_same b p q (Instr.Call result must_tail ty (Callee.Local v) args) = refl

    inner_over : (b : Bool) (p : Place) (i : Instr) (js : List Instr) → Turns r fresh i js → calls_inner b p i ≡ false → Each (StaysOut (on_instr (calls_inner b)) p) js
    inner_over b p i _ (Stays _) e = (λ q d. inner_same b p q i ∙ e, tt)
    inner_over b p _ _ (Begins n result must_tail ty args) e = (λ q d. e, tt)
    inner_over b p _ _ (Saves n result must_tail ty a args number none) e = (λ q d. e, (λ q d. e, tt))

    -- ---- P1

    no_function_stays : (x : Operand) → is_no_function m x ≡ true → is_no_function m2 x ≡ true
    no_function_stays (Operand.Local v) e = e
    no_function_stays (Operand.Global n) e = e
    no_function_stays (Operand.Number z) e = e
    no_function_stays Operand.True e = e
    no_function_stays Operand.False e = e
    no_function_stays Operand.Null e = e
    no_function_stays Operand.None e = e
    no_function_stays Operand.Poison e = e

    no_function_renamed : (x : Operand) → is_no_function m x ≡ true → is_no_function m2 (renamed r x) ≡ true
    no_function_renamed (Operand.Local v) e = e
    no_function_renamed (Operand.Global n) e = e
    no_function_renamed (Operand.Number z) e = e
    no_function_renamed Operand.True e = e
    no_function_renamed Operand.False e = e
    no_function_renamed Operand.Null e = e
    no_function_renamed Operand.None e = e
    no_function_renamed Operand.Poison e = e

    indirect_same : (i : Instr) → calls_indirectly (OfInstr (renamed_instr r i)) ≡ calls_indirectly (OfInstr i)
    indirect_same (Instr.Binary result op flags ty left right) = refl
    indirect_same (Instr.Icmp result pred ty left right) = refl
    indirect_same (Instr.Select result c a b) = refl
    indirect_same (Instr.Cast result op nneg arg to) = refl
    indirect_same (Instr.Alloca result ty align) = refl
    indirect_same (Instr.Load result ty address align) = refl
    indirect_same (Instr.Store arg address align) = refl
    indirect_same (Instr.Gep result inbounds ty base indices) = refl
    indirect_same (Instr.Call result must_tail ty (Callee.Named name) args) = refl
    indirect_same (Instr.Call result must_tail ty (Callee.Allocator a) args) = refl
    indirect_same (Instr.Call result must_tail ty (Callee.Intrinsic j) args) = refl
    indirect_same (Instr.Call result must_tail ty (Callee.Local v) args) = refl

    -- a part breaks P1 where its operands are of functions, or it calls indirectly
    no_pointer : (a b c d : Bool) → (a ≡ true → c ≡ true) → d ≡ b → (not a || b) ≡ false → (not c || d) ≡ false
    no_pointer a b c d h k e =
        let first : c ≡ true = h (holds a (or_first_out (not a) b e)) in
        (λ i. not (first i) || k i) ∙ or_second_out (not a) b e

    pointers_over : (p : Place) (i : Instr) (js : List Instr) → Turns r fresh i js → points_to_functions m p (OfInstr i) ≡ false → Each (StaysOut (points_to_functions m2) p) js
    pointers_over p i _ (Stays _) e =
        (λ q d. no_pointer (list_all (is_no_function m) (instr_operands i)) (calls_indirectly (OfInstr i)) (list_all (is_no_function m2) (instr_operands (renamed_instr r i))) (calls_indirectly (OfInstr (renamed_instr r i))) (all_in_instr r (is_no_function m) (is_no_function m2) no_function_renamed i) (indirect_same i) e, tt)
    pointers_over p _ _ (Begins n result must_tail ty args) e =
        (λ q d. no_pointer (list_all (is_no_function m) (arg_operands args)) false (list_all (is_no_function m2) (arg_operands (map (renamed_arg r) args))) false (all_in_args r (is_no_function m) (is_no_function m2) no_function_renamed args) refl e, tt)
    pointers_over p _ _ (Saves n result must_tail ty a args number none) e = (
      λ q d. refl,
      (
        λ q d. no_pointer (list_all (is_no_function m) (a.value ∷ arg_operands args)) false (list_all (is_no_function m2) (arg_operands (map (renamed_arg r) args))) false
            (λ h. all_in_args r (is_no_function m) (is_no_function m2) no_function_renamed args (and_second (is_no_function m a.value) (list_all (is_no_function m) (arg_operands args)) h)) refl e,
        tt,
      ),
    )

    pointers_carried : (f g : Function) → Carries r fresh f g (points_to_functions m) (points_to_functions m2)
    pointers_carried f g =
        record {
          signature = λ p e. refl;
          head = λ p b c d e. refl;
          phi = λ p x e. no_pointer (list_all (is_no_function m) (part_operands (OfPhi x))) false (list_all (is_no_function m2) (part_operands (OfPhi (renamed_phi r x)))) false (all_in_phi r (is_no_function m) (is_no_function m2) no_function_renamed x) refl e;
          instr = pointers_over;
          ending = λ p q t e. no_pointer (list_all (is_no_function m) (ending_operands t)) false (list_all (is_no_function m2) (ending_operands (renamed_term r t))) false (all_in_term r (is_no_function m) (is_no_function m2) no_function_renamed no_function_stays t) refl e;
        }

  -- ---- Y2

  fits_same : (ty : Option Ty) (ts : List Ty) (n : Name) → fits_named m2 ty ts n ≡ fits_named m ty ts n
  fits_same ty ts n = ap (fits_position m2 ty ts n) (named_same n) ∙ on (function_named m n)
    where
      of_function : (o : Option Function) → fits_function ty ts (option_map early_function o) ≡ fits_function ty ts o
      of_function None = refl
      of_function (Some f) = λ k. same_result ty ((turned_function f).result k) && same_list ts (map (λ p. p.ty) ((turned_function f).params k))

      declared : (o : Option ℕ) → fits_declaration m2 ty ts o ≡ fits_declaration m ty ts o
      declared None = refl
      declared (Some k) = refl

      on : (o : Option ℕ) → fits_position m2 ty ts n o ≡ fits_position m ty ts n o
      on None = declared (declaration_named m n)
      on (Some k) = ap (fits_function ty ts) (slice_get-map early_function m.functions k) ∙ of_function (slice_get m.functions k)

  module _ (r : Renaming) (fresh : ℕ → Type 0) where
    types_same : (args : List Arg) → map (λ a. a.ty) (map (renamed_arg r) args) ≡ map (λ a. a.ty) args
    types_same [] = refl
    types_same (a ∷ args) = λ k. a.ty ∷ types_same args k

    meets_same : (d : Demand) (x : Operand) → meets d (renamed r x) ≡ meets d x
    meets_same Demand.Any (Operand.Local v) = refl
    meets_same Demand.Number (Operand.Local v) = refl
    meets_same Demand.Flag (Operand.Local v) = refl
    meets_same Demand.Align (Operand.Local v) = refl
    meets_same Demand.AlignOrZero (Operand.Local v) = refl
    meets_same Demand.False (Operand.Local v) = refl
    meets_same Demand.Null (Operand.Local v) = refl
    meets_same Demand.None (Operand.Local v) = refl
    meets_same d (Operand.Global n) = refl
    meets_same d (Operand.Number z) = refl
    meets_same d Operand.True = refl
    meets_same d Operand.False = refl
    meets_same d Operand.Null = refl
    meets_same d Operand.None = refl
    meets_same d Operand.Poison = refl

    wanted_same : (ws : List Wanted) (args : List Arg) → are_wanted ws (map (renamed_arg r) args) ≡ are_wanted ws args
    wanted_same [] [] = refl
    wanted_same [] (a ∷ args) = refl
    wanted_same (w ∷ ws) [] = refl
    wanted_same (w ∷ ws) (a ∷ args) = λ k. (is_basic w.ty a.ty && meets_same w.value a.value k) && wanted_same ws args k

    callee_same : (ty : Option Ty) (args : List Arg) (callee : Callee) → fits_callee m2 ty (map (renamed_arg r) args) (renamed_callee r callee) ≡ fits_callee m ty args callee
    callee_same ty args (Callee.Named n) = ap (λ (ts : List Ty). fits_named m2 ty ts n) (types_same args) ∙ fits_same ty (map (λ a. a.ty) args) n
    callee_same ty args (Callee.Allocator a) =
        (λ k. (is_result (allocator_result a) ty && wanted_same (allocator_params a) args k) && fits_named m2 ty (types_same args k) (allocator_name a))
        ∙ ap (λ (b : Bool). (is_result (allocator_result a) ty && are_wanted (allocator_params a) args) && b) (fits_same ty (map (λ x. x.ty) args) (allocator_name a))
    callee_same ty args (Callee.Intrinsic i) = λ k. is_result (intrinsic_result i) ty && wanted_same (intrinsic_params i) args k
    callee_same ty args (Callee.Local v) = refl

    otherwise_same : (p q : Place) (i : Instr) → calls_otherwise m2 q (OfInstr (renamed_instr r i)) ≡ calls_otherwise m p (OfInstr i)
    otherwise_same p q (Instr.Binary result op flags ty left right) = refl
    otherwise_same p q (Instr.Icmp result pred ty left right) = refl
    otherwise_same p q (Instr.Select result c a b) = refl
    otherwise_same p q (Instr.Cast result op nneg arg to) = refl
    otherwise_same p q (Instr.Alloca result ty align) = refl
    otherwise_same p q (Instr.Load result ty address align) = refl
    otherwise_same p q (Instr.Store arg address align) = refl
    otherwise_same p q (Instr.Gep result inbounds ty base indices) = refl
    otherwise_same p q (Instr.Call result must_tail ty callee args) = ap not (callee_same ty args callee)

    otherwise_over : (p : Place) (i : Instr) (js : List Instr) → Turns r fresh i js → calls_otherwise m p (OfInstr i) ≡ false → Each (StaysOut (calls_otherwise m2) p) js
    otherwise_over p i _ (Stays _) e = (λ q d. otherwise_same p q i ∙ e, tt)
    otherwise_over p _ _ (Begins n result must_tail ty args) e = (λ q d. ap not (callee_same ty args (Callee.Intrinsic Intrinsic.CoroBegin)) ∙ e, tt)
    otherwise_over p _ _ (Saves n result must_tail ty a args number none) e = (λ q d. refl, (λ q d. ap not (callee_same ty (a ∷ args) (Callee.Intrinsic Intrinsic.CoroSuspend)) ∙ e, tt))

    pub otherwise_carried : (f g : Function) → Carries r fresh f g (calls_otherwise m) (calls_otherwise m2)
    otherwise_carried f g =
        record {
          signature = λ p e. refl;
          head = λ p b c d e. refl;
          phi = λ p x e. refl;
          instr = otherwise_over;
          ending = λ p q t e. refl;
        }

-- ---- rules over all items

pub record CarriesSentence (m : Module) (s now : Sentence) : Type 0 where
  pub on_type : (k : ℕ) (t : TypeItem) → s.on_type k t ≡ false → now.on_type k t ≡ false
  pub on_global : (k : ℕ) (g : GlobalItem) → s.on_global k g ≡ false → now.on_global k g ≡ false
  pub on_declaration : (k : ℕ) (d : Declaration) → s.on_declaration k d ≡ false → now.on_declaration k d ≡ false
  pub in_function : (k : ℕ) (f : Function) → slice_get m.functions k ≡ Some f → s.in_function k f ≡ None → now.in_function k (early_function f) ≡ None

items_carried : {A : Type 0} (item : ℕ → Item) (breaks now : ℕ → A → Bool) → ((k : ℕ) (x : A) → breaks k x ≡ false → now k x ≡ false) → (k : ℕ) (xs : List A) → first_item item breaks k xs ≡ None → first_item item now k xs ≡ None
items_carried item breaks now h k [] e = refl
items_carried item breaks now h k (x ∷ xs) e =
    let here = not_placed (breaks k x) (item_place (item k)) (first_out (place_if (breaks k x) (item_place (item k))) (first_item item breaks (k + 1) xs) e) in
    ap (λ (b : Bool). or_place (place_if b (item_place (item k))) (first_item item now (k + 1) xs)) (h k x here)
    ∙ items_carried item breaks now h (k + 1) xs (second_out (place_if (breaks k x) (item_place (item k))) (first_item item breaks (k + 1) xs) e)

functions_carried : (place now : ℕ → Function → Option Place) (at : ℕ) (fs : List Function) → ((k : ℕ) (f : Function) → slice_get fs k ≡ Some f → place (at + k) f ≡ None → now (at + k) (early_function f) ≡ None) → first_function place at fs ≡ None → first_function now at (map early_function fs) ≡ None
functions_carried place now at [] h e = refl
functions_carried place now at (f ∷ fs) h e =
    let here : at + 0 ≡ at = omega arith in
    both_out (now at (early_function f)) (first_function now (at + 1) (map early_function fs))
    (subst (λ (n : ℕ). place n f ≡ None → now n (early_function f) ≡ None) here (h 0 f refl) (first_out (place at f) (first_function place (at + 1) fs) e))
    (functions_carried place now (at + 1) fs
    (λ k g there. let next : at + suc k ≡ at + 1 + k = omega arith in subst (λ (n : ℕ). place n g ≡ None → now n (early_function g) ≡ None) next (h (suc k) g there))
    (second_out (place at f) (first_function place (at + 1) fs) e))

pub sentence_carried : (m : Module) (s now : Sentence) → CarriesSentence m s now → first_place s m ≡ None → first_place now (early_module m) ≡ None
sentence_carried m s now h e =
    let types : Option Place = first_item Item.Type s.on_type 0 m.types in
    let globals : Option Place = first_item Item.Global s.on_global 0 m.globals in
    let declarations : Option Place = first_item Item.Declaration s.on_declaration 0 m.declarations in
    let functions : Option Place = first_function s.in_function 0 m.functions in
    let behind_types = second_out types (or_place globals (or_place declarations functions)) e in
    let behind_globals = second_out globals (or_place declarations functions) behind_types in
    let now_functions : Option Place = first_function now.in_function 0 (map early_function m.functions) in
    let now_declarations : Option Place = first_item Item.Declaration now.on_declaration 0 m.declarations in
    let now_globals : Option Place = first_item Item.Global now.on_global 0 m.globals in
    both_out (first_item Item.Type now.on_type 0 m.types) (or_place now_globals (or_place now_declarations now_functions))
    (items_carried Item.Type s.on_type now.on_type h.on_type 0 m.types (first_out types (or_place globals (or_place declarations functions)) e))
    (both_out now_globals (or_place now_declarations now_functions)
    (items_carried Item.Global s.on_global now.on_global h.on_global 0 m.globals (first_out globals (or_place declarations functions) behind_types))
    (both_out now_declarations now_functions
    (items_carried Item.Declaration s.on_declaration now.on_declaration h.on_declaration 0 m.declarations (first_out declarations functions behind_globals))
    (functions_carried s.in_function now.in_function 0 m.functions
    (λ k f there. let same : k ≡ 0 + k = omega arith in subst (λ (n : ℕ). s.in_function n f ≡ None → now.in_function n (early_function f) ≡ None) same (h.in_function k f there))
    (second_out declarations functions behind_globals))))

-- ---- all of them

in_function_carried : (m : Module) (k : ℕ) (f : Function) → BreaksNoLocalRuleIn m k f → first_wrong_value (early_module m) k (early_function f) ≡ None → first_other_mark (early_module m) k (early_function f) ≡ None → BreaksNoLocalRuleIn (early_module m) k (early_function f)
in_function_carried m k f h values marks =
    let g : Function = early_function f in
    let t : TurnsTo f g = turned_function f in
    let r : Renaming = t.renaming in
    let m2 : Module = early_module m in
    record {
      values = values;
      marks = marks;
      closed_calls = carried r Any f g (on_instr (calls_closed m)) (on_instr (calls_closed m2)) (on_instrs r Any f g (calls_closed m) (calls_closed m2) (closed_over m r Any)) k t.blocks h.closed_calls;
      extents = carried r Any f g (on_instr (breaks_extents Stage.Source m)) (on_instr (breaks_extents Stage.Source m2)) (on_instrs r Any f g (breaks_extents Stage.Source m) (breaks_extents Stage.Source m2) (extents_over m r Any)) k t.blocks h.extents;
      transfers = carried r Any f g (on_instr (breaks_transfers Stage.Source f)) (on_instr (breaks_transfers Stage.Source g)) (on_instrs r Any f g (breaks_transfers Stage.Source f) (breaks_transfers Stage.Source g) (transfers_over m r Any f g)) k t.blocks h.transfers;
      allocas = carried r Any f g (on_instr allocates_late) (on_instr allocates_late) (on_instrs r Any f g allocates_late allocates_late (late_over m r Any)) k t.blocks h.allocas;
      function_pointers = carried r Any f g (points_to_functions m) (points_to_functions m2) (pointers_carried m r Any f g) k t.blocks h.function_pointers;
      misplaced = subst (λ (b : Bool). first_part (on_instr (calls_inner b)) (parts_of k g) ≡ None) (sym t.coroutine) (carried r Any f g (on_instr (calls_inner f.coroutine)) (on_instr (calls_inner f.coroutine)) (on_instrs r Any f g (calls_inner f.coroutine) (calls_inner f.coroutine) (inner_over m r Any f.coroutine)) k t.blocks h.misplaced);
    }

types_carried : (m : Module) → CarriesSentence m (other_types m) (other_types (early_module m))
types_carried m =
    record {
      on_type = λ k t e. e;
      on_global = λ k g e. e;
      on_declaration = λ k d e. e;
      in_function = λ k f there e. let t = turned_function f in carried t.renaming Any f (early_function f) (calls_otherwise m) (calls_otherwise (early_module m)) (otherwise_carried m t.renaming Any f (early_function f)) k t.blocks e;
    }

initial_stays : (m : Module) (ty : Ty) (x : Operand) → fits_initial (early_module m) ty x ≡ fits_initial m ty x
initial_stays m ty (Operand.Local v) = refl
initial_stays m ty (Operand.Global n) = refl
initial_stays m ty (Operand.Number z) = refl
initial_stays m ty Operand.True = refl
initial_stays m ty Operand.False = refl
initial_stays m ty Operand.Null = refl
initial_stays m ty Operand.None = refl
initial_stays m ty Operand.Poison = refl

initials_carried : (m : Module) → CarriesSentence m (wrong_initials m) (wrong_initials (early_module m))
initials_carried m =
    record {
      on_type = λ k t e. e;
      on_global = λ k g e. ap not (initial_stays m g.ty g.init) ∙ e;
      on_declaration = λ k d e. e;
      in_function = λ k f there e. refl;
    }

alignments_carried : (m : Module) → CarriesSentence m misaligned_globals misaligned_globals
alignments_carried m = record { on_type = λ k t e. e; on_global = λ k g e. e; on_declaration = λ k d e. e; in_function = λ k f there e. refl }

-- what the pass makes of each function breaks neither Y1 nor K13
abbrev pub AreRight : Module → Type 0
AreRight m = (k : ℕ) (f : Function) → slice_get m.functions k ≡ Some f → (first_wrong_value (early_module m) k (early_function f) ≡ None) × (first_other_mark (early_module m) k (early_function f) ≡ None)

-- all rules, given those that ask more than that the source breaks them not
pub local_rules_carried : (m : Module) → BreaksNoLocalRule m → first_place (second_definitions (early_module m)) (early_module m) ≡ None → first_place (unknown_names (early_module m)) (early_module m) ≡ None → AreRight m → BreaksNoLocalRule (early_module m)
local_rules_carried m h definitions known right =
    record {
      definitions = definitions;
      known = known;
      types = sentence_carried m (other_types m) (other_types (early_module m)) (types_carried m) h.types;
      initials = sentence_carried m (wrong_initials m) (wrong_initials (early_module m)) (initials_carried m) h.initials;
      alignments = sentence_carried m misaligned_globals misaligned_globals (alignments_carried m) h.alignments;
      functions = λ k g there. of_each k g (slice_get m.functions k) refl (sym (slice_get-map early_function m.functions k) ∙ there);
    }
  where
    of_each : (k : ℕ) (g : Function) (o : Option Function) → slice_get m.functions k ≡ o → option_map early_function o ≡ Some g → BreaksNoLocalRuleIn (early_module m) k g
    of_each k g None e d = absurd (cc)
    of_each k g (Some f) e d =
        let same : early_function f ≡ g = cc in
        subst (BreaksNoLocalRuleIn (early_module m) k) same (in_function_carried m k f (h.functions k f e) (right k f e).0 (right k f e).1)
