-- The rules of a function hold in a module with further functions too.
use Rattle.std.proofs.Common.{◌≡◌, ℕ, Bool, true, false, List, [], ◌∷◌, ◌∙◌, ap, refl, subst, sym}
use Rattle.std.specs.List.{list_all}
use Rattle.std.specs.Prelude.{None, Option, not, ◌&&◌}
use Rattle.ir_laws.proofs.facts.Members.{all_pass, each_passes, each_turns}
use Rattle.ir_laws.proofs.facts.Truth.{and_both, holds}
use Rattle.ir_laws.specs.ir_base.declared.outcome.Place.{Place}
use Rattle.ir_laws.specs.ir_model.Ty.{Ty}
use Rattle.ir_laws.specs.ir_model.declared.instr.Instr.{Instr}
use Rattle.ir_laws.specs.ir_model.declared.module.Function.{Function}
use Rattle.ir_laws.specs.ir_model.declared.module.Module.{Module}
use Rattle.ir_laws.specs.ir_model.declared.operand.Callee.{Callee}
use Rattle.ir_laws.specs.ir_model.declared.operand.Operand.{Operand}
use Rattle.ir_parts.specs.Contents.{part_labels, part_operands, part_types}
use Rattle.ir_parts.specs.Parts.{OfInstr, Part, first_part, parts_of}
use Rattle.rule_laws.proofs.frames.replaced.Modules.{address_known, all_known, callee_fits, callee_known, closed_there, instr_there}
use Rattle.rule_laws.proofs.rules.local_rules.Carried.{Passing, none_of, passing}
use Rattle.rule_laws.proofs.rules.replaced.Known.{called_before, labels_before, operands_before, types_before}
use Rattle.rule_laws.specs.frames.same_names.Parts.{HasFunctionsOf}
use Rattle.rule_laws.specs.rules.function_rules.Kept.{KeepsFunctionRulesAt}
use Rattle.rule_laws.specs.rules.local_rules.Local.{BreaksNoLocalRuleAt}
use Rattle.rule_locals.specs.Calls.{calls_closed}
use Rattle.rule_locals.specs.Instrs.{on_instr}
use Rattle.rule_names.specs.Known.{is_label, is_value, knows_called, knows_operand, knows_type, names_unknown}
use Rattle.rule_names.specs.declared.stage.Stage.{Stage}
use Rattle.rule_types.specs.Signatures.{calls_otherwise}
use Rattle.rule_values.specs.Kinds.{value_kind}
use Rattle.rule_values.specs.Values.{breaks_values}
use Rattle.rule_values.specs.declared.kinds.Kind.{Kind}

-- ---- tests of parts

-- what passes two tests passes a third one
both_turn : (a b c : Place → Part → Bool) → ((p : Place) (x : Part) → a p x ≡ false → b p x ≡ false → c p x ≡ false)
    → (xs : List (Place × Part)) → Passing a xs → Passing b xs → Passing c xs
both_turn a b c h [] d e = tt
both_turn a b c h (x ∷ xs) d e = (h x.0 x.1 d.0 e.0, both_turn a b c h xs d.1 e.1)

both_none : (a b c : Place → Part → Bool) → ((p : Place) (x : Part) → a p x ≡ false → b p x ≡ false → c p x ≡ false)
    → (xs : List (Place × Part)) → first_part a xs ≡ None → first_part b xs ≡ None → first_part c xs ≡ None
both_none a b c h xs d e = none_of c xs (both_turn a b c h xs (passing a xs d) (passing b xs e))

first_same : (a b : Place → Part → Bool) → ((p : Place) (x : Part) → a p x ≡ b p x) → (xs : List (Place × Part))
    → first_part a xs ≡ first_part b xs
first_same a b h xs = ap (λ (t : Place → Part → Bool). first_part t xs) (λ k p x. h p x k)

-- ---- with these functions in the place of the module's

module _ (m : Module) (fs : List Function)
    (h : HasFunctionsOf m (record {
      types = m.types;
      globals = m.globals;
      declarations = m.declarations;
      functions = fs;
    })) where
  abbrev n : Module
  n = record { types = m.types; globals = m.globals; declarations = m.declarations; functions = fs }

  -- ---- names

  module _ (values labels : ℕ → Bool) where
    known_again : (x : Operand) → knows_operand m values x ≡ true → knows_operand n values x ≡ true
    known_again (Operand.Local v) e = e
    known_again (Operand.Global x) e = address_known m n h x e
    known_again (Operand.Number z) e = refl
    known_again Operand.True e = refl
    known_again Operand.False e = refl
    known_again Operand.Null e = refl
    known_again Operand.None e = refl
    known_again Operand.Poison e = refl

    all_again : (xs : List Operand) → list_all (knows_operand m values) xs ≡ true
        → list_all (knows_operand n values) xs ≡ true
    all_again xs e =
        all_pass (knows_operand n values) xs
        (each_turns (λ (x : Operand). knows_operand m values x ≡ true) (λ (x : Operand). knows_operand n values x ≡ true)
        known_again xs (each_passes (knows_operand m values) xs e))

    called_again : (x : Part) → knows_called m x ≡ true → knows_called n x ≡ true
    called_again (OfInstr (Instr.Call r must_tail ty callee args)) e = callee_known m n h callee e
    called_again _ e = refl

    unknown_again : (p : Place) (x : Part) → names_unknown m values labels p x ≡ false
        → names_unknown n values labels p x ≡ false
    unknown_again p x e =
        let L : Bool = list_all labels (part_labels x) in
        let C : Bool = knows_called n x in
        let O : Bool = list_all (knows_operand n values) (part_operands x) in
        ap not
        (and_both (list_all (knows_type n) (part_types x)) (O && (L && C))
        (all_known m n h (part_types x) ∙ types_before m values labels p x e)
        (and_both O (L && C) (all_again (part_operands x) (operands_before m values labels p x e))
        (and_both L C (labels_before m values labels p x e) (called_again x (called_before m values labels p x e)))))

    closed_again : (p : Place) (x : Part) → names_unknown m values labels p x ≡ false
        → on_instr (calls_closed m) p x ≡ false → on_instr (calls_closed n) p x ≡ false
    closed_again p (OfInstr (Instr.Call r must_tail ty (Callee.Named y) args)) u e =
        closed_there m n h y
        (called_before m values labels p (OfInstr (Instr.Call r must_tail ty (Callee.Named y) args)) u) e
    closed_again p _ u e = refl

  -- ---- calls and values

  otherwise_again : (p : Place) (x : Part) → calls_otherwise m p x ≡ false → calls_otherwise n p x ≡ false
  otherwise_again p (OfInstr (Instr.Call r must_tail ty callee args)) e =
      ap not (callee_fits m n h ty args callee (holds _ e))
  otherwise_again p _ e = refl

  values_same : (kinds : ℕ → Option Kind) (ty : Option Ty) (p : Place) (x : Part)
      → breaks_values n kinds ty p x ≡ breaks_values m kinds ty p x
  values_same kinds ty p (OfInstr i) = ap not (instr_there m n h kinds i)
  values_same kinds ty p _ = refl

  -- ---- all rules

  module _ (stage : Stage) (k : ℕ) (f : Function) (rules : KeepsFunctionRulesAt stage m k f) where
    abbrev values : ℕ → Bool
    values = is_value k f

    abbrev labels : ℕ → Bool
    labels = is_label k f

    local_again : BreaksNoLocalRuleAt stage n k f
    local_again =
        record {
          values = first_same (breaks_values n (value_kind f) f.result) (breaks_values m (value_kind f) f.result)
              (values_same (value_kind f) f.result) (parts_of k f) ∙ rules.local.values;
          closed_calls = both_none (names_unknown m values labels) (on_instr (calls_closed m)) (on_instr (calls_closed n))
              (closed_again values labels) (parts_of k f) rules.known rules.local.closed_calls;
          extents = rules.local.extents;
          transfers = rules.local.transfers;
          allocas = rules.local.allocas;
          function_pointers = rules.local.function_pointers;
          misplaced = rules.local.misplaced;
          marks = rules.local.marks;
        }

    rules_again : KeepsFunctionRulesAt stage n k f
    rules_again =
        record {
          tabled = rules.tabled;
          definitions = rules.definitions;
          known = both_none (names_unknown m values labels) (names_unknown m values labels)
              (names_unknown n values labels) (λ p x d e. unknown_again values labels p x d) (parts_of k f) rules.known
              rules.known;
          depths = rules.depths;
          calls = both_none (calls_otherwise m) (calls_otherwise m) (calls_otherwise n)
              (λ p x d e. otherwise_again p x d) (parts_of k f) rules.calls rules.calls;
          local = local_again;
          edges = rules.edges;
          uses = rules.uses;
        }

pub go_by_functions : (stage : Stage) (m n : Module) (k : ℕ) (f : Function) → HasFunctionsOf m n
    → KeepsFunctionRulesAt stage m k f → KeepsFunctionRulesAt stage n k f
go_by_functions stage m n k f same rules =
    let types = sym same.types in
    let globals = sym same.globals in
    let declarations = sym same.declarations in
    let is : record { types = m.types; globals = m.globals; declarations = m.declarations; functions = n.functions } ≡ n =
    (λ i. record { types = types i; globals = globals i; declarations = declarations i; functions = n.functions }) in
    subst (λ (x : Module). KeepsFunctionRulesAt stage x k f) is
    (rules_again m n.functions (subst (HasFunctionsOf m) (sym is) same) stage k f rules)
