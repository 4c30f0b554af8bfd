-- Markers, names and values that the source has right, the result has (rules K13, N2 and Y1).
use Rattle.std.proofs.Common.{◌≡◌, ℕ, Bool, true, false, List, [], ◌∷◌, ◌++◌, refl, ap, ◌∙◌}
use Rattle.std.specs.List.{list_all}
use Rattle.std.specs.Prelude.{None, Option, Some, is_some, map, not, option_to_list, ◌&&◌, ◌||◌, if◌then◌else◌}
use Rattle.rule_laws.specs.ir_base.declared.name.Name.{Name}
use Rattle.rule_laws.specs.ir_base.declared.outcome.Place.{Place}
use Rattle.pass_early_proof.proofs.early.local_rules.Carried.{Carries, StaysOut}
use Rattle.pass_early_proof.proofs.early.local_rules.Rules.{all_in_args, all_in_instr, all_in_phi, all_in_term, named_same}
use Rattle.rule_laws.proofs.ir_laws.facts.Truth.{and_both, and_first, and_second, holds}
use Rattle.pass_early_proof.proofs.early.local_rules.Turned.{Begins, Saves, Stays, Turns, saved_args}
use Rattle.pass_early.specs.Early.{early_module}
use Rattle.pass_early.specs.Renaming.{is_renamed, renamed, renamed_arg, renamed_callee, renamed_incoming, renamed_instr, renamed_phi, renamed_return, renamed_term, renamed_value}
use Rattle.pass_early.specs.declared.renaming.Renaming.{Renaming}
use Rattle.rule_laws.specs.ir_parts.Contents.{arg_operands, arg_types, ending_labels, ending_types, instr_types, part_labels, part_operands, part_types, return_types}
use Rattle.rule_laws.specs.ir_parts.Parts.{Ending, Head, OfInstr, OfPhi, Part, Signature}
use Rattle.ir_model.specs.Names.{declaration_named, global_named}
use Rattle.ir_model.specs.Table.{callee_named}
use Rattle.ir_model.specs.Ty.{Ty, Tys, array, field, int, named, none, ptr, structure, token}
use Rattle.ir_model.specs.declared.instr.Incoming.{Incoming}
use Rattle.ir_model.specs.declared.instr.Instr.{Instr}
use Rattle.ir_model.specs.declared.instr.Terminator.{Terminator}
use Rattle.ir_model.specs.declared.module.Function.{Function}
use Rattle.ir_model.specs.declared.module.Module.{Module}
use Rattle.ir_model.specs.declared.operand.Arg.{Arg}
use Rattle.ir_model.specs.declared.operand.Callee.{Callee}
use Rattle.ir_model.specs.declared.operand.Intrinsic.{Intrinsic}
use Rattle.ir_model.specs.declared.operand.Operand.{Operand}
use Rattle.rule_laws.specs.rule_locals.Instrs.{on_instr}
use Rattle.rule_laws.specs.rule_locals.Markers.{is_marker, is_size_or_all, marks, marks_otherwise, marks_size, marks_slot}
use Rattle.rule_laws.specs.rule_names.Known.{allocator_name, is_intrinsic, knows_address, knows_callee, knows_called, knows_name, knows_operand, knows_type, knows_types, names_unknown}
use Rattle.rule_laws.specs.run_laws.changed.Changed.{Each}

pub all_over : {A : Type 0} (t u : A → Bool) → ((x : A) → t x ≡ true → u x ≡ true) → (xs : List A) → list_all t xs ≡ true → list_all u xs ≡ true
all_over t u h [] e = refl
all_over t u h (x ∷ xs) e = and_both (u x) (list_all u xs) (h x (and_first (t x) (list_all t xs) e)) (all_over t u h xs (and_second (t x) (list_all t xs) e))

pub out_of : (b c : Bool) → (b ≡ true → c ≡ true) → not b ≡ false → not c ≡ false
out_of b c h e = ap not (h (holds b e))

-- ---- K13

module _ (r : Renaming) (fresh : ℕ → Type 0) (sizes now : ℕ → Option ℕ) (slots : (v s : ℕ) → sizes v ≡ Some s → is_renamed r v ≡ false) (same : (v : ℕ) → now v ≡ sizes v) where
  size_over : (x : Operand) (s : ℕ) → is_size_or_all x s ≡ true → is_size_or_all (renamed r x) s ≡ true
  size_over (Operand.Number z) s e = e
  size_over _ s e = absurd (cc)

  slot_over : (x : Operand) (v : ℕ) → marks_size x (sizes v) ≡ true → marks_size (renamed r x) (now (renamed_value r v)) ≡ true
  slot_over x v e = on (sizes v) refl e
    where
      on : (o : Option ℕ) → sizes v ≡ o → marks_size x o ≡ true → marks_size (renamed r x) (now (renamed_value r v)) ≡ true
      on None d k = absurd (cc)
      on (Some s) d k =
          ap (λ (b : Bool). marks_size (renamed r x) (now (if b then r.to else v))) (slots v s d)
          ∙ ap (marks_size (renamed r x)) (same v ∙ d) ∙ size_over x s k

  both_over : (x y : Operand) → marks_slot sizes x y ≡ true → marks_slot now (renamed r x) (renamed r y) ≡ true
  both_over x (Operand.Local v) e = slot_over x v e
  both_over x _ e = absurd (cc)

  marks_over : (args : List Arg) → marks sizes args ≡ true → marks now (map (renamed_arg r) args) ≡ true
  marks_over (a ∷ b ∷ []) e = both_over a.value b.value e
  marks_over _ e = absurd (cc)

  no_mark : (a b c : Bool) → (b ≡ true → c ≡ true) → (a && not b) ≡ false → (a && not c) ≡ false
  no_mark true b c h e = out_of b c h e
  no_mark false b c h e = refl

  mark_same : (callee : Callee) → is_marker (renamed_callee r callee) ≡ is_marker callee
  mark_same (Callee.Named name) = refl
  mark_same (Callee.Allocator a) = refl
  mark_same (Callee.Intrinsic j) = refl
  mark_same (Callee.Local v) = refl

  mark_over : (p q : Place) (i : Instr) → marks_otherwise sizes p i ≡ false → marks_otherwise now q (renamed_instr r i) ≡ false
  mark_over p q (Instr.Call result must_tail ty callee args) e =
      ap (λ (b : Bool). b && not (marks now (map (renamed_arg r) args))) (mark_same callee)
      ∙ no_mark (is_marker callee) (marks sizes args) (marks now (map (renamed_arg r) args)) (marks_over args) e
  mark_over p q _ e = refl

  pub other_marks_over : (p : Place) (i : Instr) (js : List Instr) → Turns r fresh i js → marks_otherwise sizes p i ≡ false → Each (StaysOut (on_instr (marks_otherwise now)) p) js
  other_marks_over p i _ (Stays _) e = (λ q d. mark_over p q i e, tt)
  other_marks_over p _ _ (Begins n result must_tail ty args) e = (λ q d. refl, tt)
  other_marks_over p _ _ (Saves n result must_tail ty a args number e0) e = (λ q d. refl, (λ q d. refl, tt))

-- ---- the types of the result

module _ (r : Renaming) where
  pub arg_types_same : (args : List Arg) → arg_types (map (renamed_arg r) args) ≡ arg_types args
  arg_types_same [] = refl
  arg_types_same (a ∷ args) = λ k. a.ty ∷ arg_types_same args k

  pub instr_types_same : (i : Instr) → instr_types (renamed_instr r i) ≡ instr_types i
  instr_types_same (Instr.Gep result inbounds ty base indices) = λ k. ty ∷ arg_types_same indices k
  instr_types_same (Instr.Call result must_tail ty callee args) = λ k. option_to_list ty ++ arg_types_same args k
  instr_types_same _ = refl

  return_types_same : (o : Option Arg) → return_types (renamed_return r o) ≡ return_types o
  return_types_same None = refl
  return_types_same (Some a) = refl

  pub ending_types_same : (t : Terminator) → ending_types (renamed_term r t) ≡ ending_types t
  ending_types_same (Terminator.Ret value) = return_types_same value
  ending_types_same _ = refl

-- ---- N2

module _ (m : Module) where
  abbrev m2 : Module
  m2 = early_module m

  mutual
    pub type_same : (t : Ty) → knows_type m2 t ≡ knows_type m t
    type_same (int w) = refl
    type_same ptr = refl
    type_same token = refl
    type_same (array n t) = type_same t
    type_same (structure ts) = types_same ts
    type_same (named n) = refl

    types_same : (ts : Tys) → knows_types m2 ts ≡ knows_types m ts
    types_same none = refl
    types_same (field t ts) = λ k. type_same t k && types_same ts k

  name_same : (n : Name) → knows_name m2 n ≡ knows_name m n
  name_same n = ap (λ (o : Option ℕ). is_some o || (is_some (declaration_named m n) || is_some (global_named m n))) (named_same m n)

  pub address_same : (n : Name) → knows_address m2 n ≡ knows_address m n
  address_same n = ap (λ (b : Bool). b || is_intrinsic (callee_named n)) (name_same n)

  callee_over : (r : Renaming) (c : Callee) → knows_callee m c ≡ true → knows_callee m2 (renamed_callee r c) ≡ true
  callee_over r (Callee.Named n) e = name_same n ∙ e
  callee_over r (Callee.Allocator a) e = name_same (allocator_name a) ∙ e
  callee_over r (Callee.Intrinsic j) e = refl
  callee_over r (Callee.Local v) e = refl

  module _ (r : Renaming) (fresh : ℕ → Type 0) (values now labels labels_now : ℕ → Bool) (over : (v : ℕ) → values v ≡ true → now (renamed_value r v) ≡ true) (stays : (v : ℕ) → values v ≡ true → now v ≡ true) (label_over : (v : ℕ) → labels v ≡ true → labels_now v ≡ true) (saves : (n : ℕ) → fresh n → now n ≡ true) where
    operand_over : (x : Operand) → knows_operand m values x ≡ true → knows_operand m2 now (renamed r x) ≡ true
    operand_over (Operand.Local v) e = over v e
    operand_over (Operand.Global n) e = address_same n ∙ e
    operand_over _ e = refl

    operand_stays : (x : Operand) → knows_operand m values x ≡ true → knows_operand m2 now x ≡ true
    operand_stays (Operand.Local v) e = stays v e
    operand_stays (Operand.Global n) e = address_same n ∙ e
    operand_stays _ e = refl

    from_same : (xs : List Incoming) → map (λ i. i.from) (map (renamed_incoming r) xs) ≡ map (λ i. i.from) xs
    from_same [] = refl
    from_same (x ∷ xs) = λ k. x.from ∷ from_same xs k

    ending_labels_same : (t : Terminator) → ending_labels (renamed_term r t) ≡ ending_labels t
    ending_labels_same (Terminator.Jump label) = refl
    ending_labels_same _ = refl

    types_known : (ts us : List Ty) → us ≡ ts → list_all (knows_type m) ts ≡ true → list_all (knows_type m2) us ≡ true
    types_known ts us same e = ap (list_all (knows_type m2)) same ∙ all_over (knows_type m) (knows_type m2) (λ t d. type_same t ∙ d) ts e

    labels_known : (ls ks : List ℕ) → ks ≡ ls → list_all labels ls ≡ true → list_all labels_now ks ≡ true
    labels_known ls ks same e = ap (list_all labels_now) same ∙ all_over labels labels_now label_over ls e

    all_known : (a b c d w x y z : Bool) → (a ≡ true → w ≡ true) → (b ≡ true → x ≡ true) → (c ≡ true → y ≡ true) → (d ≡ true → z ≡ true) → not (a && (b && (c && d))) ≡ false → not (w && (x && (y && z))) ≡ false
    all_known a b c d w x y z f g h k e =
        let all = holds (a && (b && (c && d))) e in
        let rest = and_second a (b && (c && d)) all in
        let last = and_second b (c && d) rest in
        ap not (and_both w (x && (y && z)) (f (and_first a (b && (c && d)) all)) (and_both x (y && z) (g (and_first b (c && d) rest)) (and_both y z (h (and_first c d last)) (k (and_second c d last)))))

    -- what a part names is known
    part_known : (x y : Part) → (list_all (knows_type m) (part_types x) ≡ true → list_all (knows_type m2) (part_types y) ≡ true) → (list_all (knows_operand m values) (part_operands x) ≡ true → list_all (knows_operand m2 now) (part_operands y) ≡ true) → (list_all labels (part_labels x) ≡ true → list_all labels_now (part_labels y) ≡ true) → (knows_called m x ≡ true → knows_called m2 y ≡ true) → (p q : Place) → names_unknown m values labels p x ≡ false → names_unknown m2 now labels_now q y ≡ false
    part_known x y f g h k p q e =
        all_known (list_all (knows_type m) (part_types x)) (list_all (knows_operand m values) (part_operands x)) (list_all labels (part_labels x)) (knows_called m x)
        (list_all (knows_type m2) (part_types y)) (list_all (knows_operand m2 now) (part_operands y)) (list_all labels_now (part_labels y)) (knows_called m2 y) f g h k e

    called_over : (i : Instr) → knows_called m (OfInstr i) ≡ true → knows_called m2 (OfInstr (renamed_instr r i)) ≡ true
    called_over (Instr.Call result must_tail ty callee args) e = callee_over r callee e
    called_over _ e = refl

    unknown_over : (p : Place) (i : Instr) (js : List Instr) → Turns r fresh i js → names_unknown m values labels p (OfInstr i) ≡ false → Each (StaysOut (names_unknown m2 now labels_now) p) js
    unknown_over p i _ (Stays _) e = (
      λ q d. part_known (OfInstr i) (OfInstr (renamed_instr r i)) (types_known (instr_types i) (instr_types (renamed_instr r i)) (instr_types_same r i)) (all_in_instr r (knows_operand m values) (knows_operand m2 now) operand_over i) (λ k. k) (called_over i) p q e,
      tt,
    )
    unknown_over p _ _ (Begins n result must_tail ty args) e =
        let i : Instr = Instr.Call result must_tail ty (Callee.Intrinsic Intrinsic.CoroBegin) args in
        let j : Instr = Instr.Call (Some n) must_tail ty (Callee.Intrinsic Intrinsic.CoroBegin) (map (renamed_arg r) args) in (
          λ q d. part_known (OfInstr i) (OfInstr j) (types_known (instr_types i) (instr_types j) (instr_types_same r i)) (all_in_args r (knows_operand m values) (knows_operand m2 now) operand_over args) (λ k. k) (λ k. refl) p q e,
          tt,
        )
    unknown_over p _ _ (Saves n result must_tail ty a args number e0) e =
        let i : Instr = Instr.Call result must_tail ty (Callee.Intrinsic Intrinsic.CoroSuspend) (a ∷ args) in
        let j : Instr = Instr.Call result must_tail ty (Callee.Intrinsic Intrinsic.CoroSuspend) (saved_args r n a args) in (
          λ q d. refl,
          (
            λ q d. part_known (OfInstr i) (OfInstr j) (types_known (instr_types i) (instr_types j) (instr_types_same r i))
                (λ k. and_both (now n) (list_all (knows_operand m2 now) (arg_operands (map (renamed_arg r) args))) (saves n number) (all_in_args r (knows_operand m values) (knows_operand m2 now) operand_over args (and_second (knows_operand m values a.value) (list_all (knows_operand m values) (arg_operands args)) k)))
                (λ k. k) (λ k. refl) p q e,
            tt,
          ),
        )

    pub unknown_carried : (f g : Function) → g.result ≡ f.result → g.params ≡ f.params → Carries r fresh f g (names_unknown m values labels) (names_unknown m2 now labels_now)
    unknown_carried f g result params =
        record {
          signature = λ p. part_known (Signature f) (Signature g) (types_known (part_types (Signature f)) (part_types (Signature g)) (λ k. option_to_list (result k) ++ map (λ x. x.ty) (params k))) (λ k. k) (λ k. k) (λ k. k) p p;
          head = λ p b c d. part_known (Head b) (Head c) (λ k. k) (λ k. k) (λ k. k) (λ k. k) p p;
          phi = λ p x. part_known (OfPhi x) (OfPhi (renamed_phi r x)) (types_known (x.ty ∷ []) (x.ty ∷ []) refl) (all_in_phi r (knows_operand m values) (knows_operand m2 now) operand_over x) (labels_known (map (λ i. i.from) x.incoming) (map (λ i. i.from) (map (renamed_incoming r) x.incoming)) (from_same x.incoming)) (λ k. k) p p;
          instr = unknown_over;
          ending = λ p q t. part_known (Ending t) (Ending (renamed_term r t)) (types_known (ending_types t) (ending_types (renamed_term r t)) (ending_types_same r t)) (all_in_term r (knows_operand m values) (knows_operand m2 now) operand_over operand_stays t) (labels_known (ending_labels t) (ending_labels (renamed_term r t)) (ending_labels_same t)) (λ k. k) p q;
        }
