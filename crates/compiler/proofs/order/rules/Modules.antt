-- A module with the names of its functions in order: its functions stand where they did, and are called alike.
use Rattle.std.proofs.Common.{◌≡◌, ℕ, List, [], ◌∷◌, refl, sym, ap, ◌∙◌, subst, Option, Some, None}
use Rattle.std.proofs.lemmas.Option.{slice_get-map}
use Rattle.std.specs.Prelude.{map, option_map, slice_get}
use Rattle.ir_base.specs.declared.name.Name.{Name}
use Rattle.pass_proofs.proofs.rule_laws.rules.source_rules.Shaped.{function_shaped}
use Rattle.pass_proofs.proofs.rule_laws.rules.function_rules.Signatures.{plain_rules_by_signatures}
use Rattle.pass_proofs.proofs.rule_laws.rules.plain_rules.Accepted.{accepted}
use Rattle.pass_proofs.proofs.rule_laws.rules.plain_rules.Told.{items_of_accepted}
use Rattle.pass_proofs.proofs.rule_laws.rules.same_names.Items.{same_names_keep_items}
use Rattle.pass_proofs.specs.ir_laws.facts.function_rules.Signatures.{HaveSameSignatures, heading}
use Rattle.pass_proofs.specs.rule_laws.rules.plain_rules.Kept.{AllKeepPlainRules, HasNoCoroutine, KeepsPlainRules}
use Rattle.pass_proofs.specs.ir_laws.facts.same_names.Same.{HaveSameNames, naming}
use Rattle.pass_proofs.specs.rule_all.Refused.{IsRefused}
use Rattle.ir_model.specs.Ty.{Ty}
use Rattle.ir_model.specs.declared.module.Function.{Function}
use Rattle.ir_model.specs.declared.module.Module.{Module}
use Rattle.ir_model.specs.declared.module.Param.{Param}
use Rattle.pass_proofs.specs.rule_locals.Intrinsics.{first_misplaced}
use Rattle.text_canonical.specs.order.Order.{function_order, module_order, param_order}
use Rattle.text_canonical.specs.order.Places.{each_order}
use Rattle.text_canonical.specs.order.Shape.{IsShaped}
use Rattle.pass_proofs.specs.rule_names.declared.stage.Stage.{Stage}
use Rattle.pass_proofs.proofs.rule_laws.rules.order_rules.Accepted.{no_coroutine_of_accepted, rules_of_accepted}
use Rattle.pass_proofs.proofs.rule_laws.rules.order_rules.Contents.{maps_forget}
use Rattle.compiler.proofs.order.rules.Ordered.{ordered}
use Rattle.pass_proofs.proofs.rule_laws.rules.order_rules.Whole.{all_same}
use Rattle.pass_proofs.specs.ir_laws.facts.names_apart.Apart.{AreNamesApart}
use Rattle.pass_proofs.specs.rule_laws.rules.order_rules.Same.{HaveSameFaults}

-- ---- one function

over : (m : Module) (k : ℕ) (f g : Function) → HaveSameFaults m k f g → KeepsPlainRules m k f → KeepsPlainRules m k g
over m k f g same h =
    record {
      definitions = same.definitions ∙ h.definitions;
      known = same.known ∙ h.known;
      depths = same.depths ∙ h.depths;
      calls = same.calls ∙ h.calls;
      values = same.values ∙ h.values;
      closed_calls = same.closed_calls ∙ h.closed_calls;
      extents = same.extents ∙ h.extents;
      transfers = same.transfers ∙ h.transfers;
      edges = same.edges ∙ h.edges;
      uses = (same.uses None).0 h.uses;
      allocas = same.allocas ∙ h.allocas;
      marks = same.marks ∙ h.marks;
    }

back : (m : Module) (k : ℕ) (f g : Function) → HaveSameFaults m k f g → KeepsPlainRules m k g → KeepsPlainRules m k f
back m k f g same h =
    record {
      definitions = sym same.definitions ∙ h.definitions;
      known = sym same.known ∙ h.known;
      depths = sym same.depths ∙ h.depths;
      calls = sym same.calls ∙ h.calls;
      values = sym same.values ∙ h.values;
      closed_calls = sym same.closed_calls ∙ h.closed_calls;
      extents = sym same.extents ∙ h.extents;
      transfers = sym same.transfers ∙ h.transfers;
      edges = sym same.edges ∙ h.edges;
      uses = (same.uses None).1 h.uses;
      allocas = sym same.allocas ∙ h.allocas;
      marks = sym same.marks ∙ h.marks;
    }

-- ---- all functions

typed : (names : List Name) (ps : List Param) (ns : List Name) → map (λ (p : Param). p.ty) (each_order (param_order names) ps ns).0 ≡ map (λ (p : Param). p.ty) ps
typed names [] ns = refl
typed names (p ∷ ps) ns = ap (λ (ts : List Ty). p.ty ∷ ts) (typed names ps (param_order names p ns).1)

heading_same : (f : Function) → heading (function_order f) ≡ heading f
heading_same f = λ i. record { name = f.name; result = f.result; params = typed f.names f.params [] i }

module _ (m : Module) where
  abbrev n : Module
  n = module_order m

  signatures : HaveSameSignatures m n
  signatures = record { types = refl; globals = refl; declarations = refl; functions = maps_forget heading function_order heading heading_same m.functions }

  signatures_back : HaveSameSignatures n m
  signatures_back = record { types = refl; globals = refl; declarations = refl; functions = sym signatures.functions }

  names_same : HaveSameNames m n
  names_same = record { types = refl; globals = refl; declarations = refl; functions = maps_forget naming function_order naming (λ f. refl) m.functions }

  names_back : HaveSameNames n m
  names_back = record { types = refl; globals = refl; declarations = refl; functions = sym names_same.functions }

  there : (k : ℕ) (f : Function) → slice_get m.functions k ≡ Some f → slice_get n.functions k ≡ Some (function_order f)
  there k f e = slice_get-map function_order m.functions k ∙ ap (option_map function_order) e

  module _ (shaped : IsShaped m) (apart : AreNamesApart m) where
    faults : (k : ℕ) (f : Function) → slice_get m.functions k ≡ Some f → HaveSameFaults m k f (function_order f)
    faults k f e = all_same m k f (function_order f) (ordered f (function_shaped m.functions k f shaped.functions e) (apart k f e))

    -- ---- what holds of the functions of one holds of those of the other

    each_forth : (P Q : ℕ → Function → Type 0) → ((k : ℕ) (f : Function) → slice_get m.functions k ≡ Some f → P k f → Q k (function_order f)) → ((k : ℕ) (f : Function) → slice_get m.functions k ≡ Some f → P k f) → (k : ℕ) (g : Function) → slice_get n.functions k ≡ Some g → Q k g
    each_forth P Q step h k g e = on (slice_get m.functions k) refl (sym (slice_get-map function_order m.functions k) ∙ e)
      where
        on : (o : Option Function) → slice_get m.functions k ≡ o → option_map function_order o ≡ Some g → Q k g
        on None d c = absurd (cc)
        on (Some f) d c = let same : function_order f ≡ g = cc in subst (Q k) same (step k f d (h k f d))

    rules_forth : AllKeepPlainRules m → AllKeepPlainRules n
    rules_forth = each_forth (KeepsPlainRules m) (KeepsPlainRules n) (λ k f e h. plain_rules_by_signatures m n k (function_order f) signatures (over m k f (function_order f) (faults k f e) h))

    rules_back : AllKeepPlainRules n → AllKeepPlainRules m
    rules_back h k f e = back m k f (function_order f) (faults k f e) (plain_rules_by_signatures n m k (function_order f) signatures_back (h k (function_order f) (there k f e)))

    none_forth : HasNoCoroutine m → HasNoCoroutine n
    none_forth = each_forth (λ k f. first_misplaced Stage.Plain k f ≡ None) (λ k f. first_misplaced Stage.Plain k f ≡ None) (λ k f e h. (faults k f e).placed ∙ h)

    none_back : HasNoCoroutine n → HasNoCoroutine m
    none_back h k f e = sym (faults k f e).placed ∙ h k (function_order f) (there k f e)

    -- ---- the rules

    forth : IsRefused Stage.Plain m None → IsRefused Stage.Plain n None
    forth h =
        accepted n (same_names_keep_items Stage.Plain m n names_same (items_of_accepted Stage.Plain m h)) (rules_forth (rules_of_accepted m h)) (none_forth (no_coroutine_of_accepted m h))

    returns : IsRefused Stage.Plain n None → IsRefused Stage.Plain m None
    returns h =
        accepted m (same_names_keep_items Stage.Plain n m names_back (items_of_accepted Stage.Plain n h)) (rules_back (rules_of_accepted n h)) (none_back (no_coroutine_of_accepted n h))

pub order_breaks_none : (m : Module) → IsShaped m → AreNamesApart m → IsRefused Stage.Plain m None → IsRefused Stage.Plain (module_order m) None
order_breaks_none m shaped apart h = forth m shaped apart h

pub order_hides_none : (m : Module) → IsShaped m → AreNamesApart m → IsRefused Stage.Plain (module_order m) None → IsRefused Stage.Plain m None
order_hides_none m shaped apart h = returns m shaped apart h
