-- What stays of elidable callees and of sites under the first pass.
use Rattle.pass_early_proof.proofs.early.elision.early.Saved.{saved_elidable}
use Rattle.pass_early_proof.proofs.early.elision.early.Renamed.{renamed_elidable}
use Rattle.std.proofs.Common.{◌≡◌, ℕ, Bool, true, false, List, Some, None, Option, refl, sym, ap, ◌∙◌, subst, ◌↔◌}
use Rattle.std.specs.Prelude.{if◌then◌else◌}
use Rattle.rule_laws.specs.ir_base.declared.outcome.Place.{Place}
use Rattle.pass_early_proof.proofs.early.renaming.Rules.{all_regular}
use Rattle.pass_early_proof.specs.early.renaming.Passes.{named_function, named_module, renamed_by_its_own, renamed_function, renamed_module}
use Rattle.pass_early_proof.proofs.early.renaming.Composition.{early_in_turn}
use Rattle.pass_early.specs.Early.{early_module, renaming_of}
use Rattle.rule_laws.specs.rules.source_rules.Named.{AreTabled}
use Rattle.pass_early_proof.proofs.early.source_rules.Accepted.{all_named_keep}
use Rattle.rule_laws.specs.rule_all.Refused.{IsRefused}
use Rattle.rule_laws.specs.rule_names.declared.stage.Stage.{Stage}
use Rattle.pass_early_proof.proofs.early.meaning.Names.{named_locals, renamed_locals}
use Rattle.pass_early_proof.proofs.early.saves.Plain.{plain_stays}
use Rattle.pass_early_proof.specs.early.saves.SavesWritten.{saved_function, saves_written}
use Rattle.pass_early_proof.specs.early.renaming.Regular.{AllKeepRules, IsRegular}
use Rattle.pass_early_proof.proofs.early.elision.early.Modules.{IsPlainChange, callees_stay, sites_stay}
use Rattle.pass_early_proof.proofs.early.elision.early.Named.{named_elidable}
use Rattle.pass_early.specs.BeginName.{if_unnamed, with_begin_name}
use Rattle.elide_sites.specs.Elidable.{AreElidable, IsElidable}
use Rattle.elide_sites.specs.Sites.{AreSites}
use Rattle.ir_model.specs.Calls.{first_result}
use Rattle.ir_model.specs.Names.{function_at}
use Rattle.ir_model.specs.declared.module.Function.{Function}
use Rattle.ir_model.specs.declared.module.Module.{Module}
use Rattle.ir_model.specs.declared.operand.Intrinsic.{Intrinsic}
use Rattle.rule_laws.specs.ir_laws.facts.sound_states.Named.{AreLocalsNamed, AreUsesNamed, HasNamedLocals, HasNamedUses}

-- what the name of a function is, and the like, stays where begins get names
of_named : {X : Type 0} (part : Function → X) → ((f : Function) (o : Option ℕ) → part (if_unnamed o f) ≡ part f) → (f : Function) → part (named_function f) ≡ part f
of_named part h f = on f.coroutine
  where
    on : (b : Bool) → part (if b then with_begin_name f else f) ≡ part f
    on true = h f (first_result Intrinsic.CoroBegin f)
    on false = refl

named_change : IsPlainChange named_function
named_change = record {
  mild = record { name = of_named (λ f. f.name) name; result = of_named (λ f. f.result) result; params = of_named (λ f. f.params) params };
  coroutine = of_named (λ f. f.coroutine) coroutine;
  plain = λ f e. ap (λ (b : Bool). if b then with_begin_name f else f) e;
}
  where
    name : (f : Function) (o : Option ℕ) → (if_unnamed o f).name ≡ f.name
    name f None = refl
    name f (Some n) = refl

    result : (f : Function) (o : Option ℕ) → (if_unnamed o f).result ≡ f.result
    result f None = refl
    result f (Some n) = refl

    params : (f : Function) (o : Option ℕ) → (if_unnamed o f).params ≡ f.params
    params f None = refl
    params f (Some n) = refl

    coroutine : (f : Function) (o : Option ℕ) → (if_unnamed o f).coroutine ≡ f.coroutine
    coroutine f None = refl
    coroutine f (Some n) = refl

named_one : (m : Module) → AreLocalsNamed m → AreUsesNamed m → (g : ℕ) (f : Function) → function_at m g ≡ f → f.coroutine ≡ true → IsElidable f ↔ IsElidable (named_function f)
named_one m locals uses g f e c =
    subst (λ (b : Bool). IsElidable f ↔ IsElidable (if b then with_begin_name f else f)) (sym c)
    (named_elidable f (subst HasNamedLocals e (locals g)) (subst HasNamedUses e (uses g)))

pub callees_named : (m : Module) → AreLocalsNamed m → AreUsesNamed m → (all : List ℕ) → AreElidable m all ↔ AreElidable (named_module m) all
callees_named m locals uses all = callees_stay named_function named_change m (named_one m locals uses) all

pub sites_named : (m : Module) → AreLocalsNamed m → AreUsesNamed m → (all : List Place) → AreSites m all ↔ AreSites (named_module m) all
sites_named m locals uses all = sites_stay named_function named_change m (named_one m locals uses) all

-- ---- uses of coro.frame become uses of begin's value

of_renamed : {X : Type 0} (part : Function → X) → ((f : Function) → part (renamed_by_its_own f) ≡ part f) → (f : Function) → part (renamed_function f) ≡ part f
of_renamed part h f = on f.coroutine
  where
    on : (b : Bool) → part (if b then renamed_by_its_own f else f) ≡ part f
    on true = h f
    on false = refl

renamed_change : IsPlainChange renamed_function
renamed_change = record {
  mild = record { name = of_renamed (λ f. f.name) (λ f. refl); result = of_renamed (λ f. f.result) (λ f. refl); params = of_renamed (λ f. f.params) (λ f. refl) };
  coroutine = of_renamed (λ f. f.coroutine) (λ f. refl);
  plain = λ f e. ap (λ (b : Bool). if b then renamed_by_its_own f else f) e;
}

module _ (m : Module) (rules : AllKeepRules m) where
  regular_there : (g : ℕ) (f : Function) → function_at m g ≡ f → f.coroutine ≡ true → IsRegular f (renaming_of f)
  regular_there g f e c = subst (λ (h : Function). IsRegular h (renaming_of h)) e (all_regular m rules g (ap (λ (h : Function). h.coroutine) e ∙ c))

  renamed_one : (g : ℕ) (f : Function) → function_at m g ≡ f → f.coroutine ≡ true → IsElidable f ↔ IsElidable (renamed_function f)
  renamed_one g f e c =
      subst (λ (b : Bool). IsElidable f ↔ IsElidable (if b then renamed_by_its_own f else f)) (sym c)
      (renamed_elidable f (regular_there g f e c))

  pub callees_renamed : (all : List ℕ) → AreElidable m all ↔ AreElidable (renamed_module m) all
  callees_renamed all = callees_stay renamed_function renamed_change m renamed_one all

  pub sites_renamed : (all : List Place) → AreSites m all ↔ AreSites (renamed_module m) all
  sites_renamed all = sites_stay renamed_function renamed_change m renamed_one all

-- ---- saves are written out

saved_change : IsPlainChange saved_function
saved_change = record {
  mild = record { name = λ f. refl; result = λ f. refl; params = λ f. refl };
  coroutine = λ f. refl;
  plain = plain_stays;
}

saved_one : (m : Module) → AreLocalsNamed m → (g : ℕ) (f : Function) → function_at m g ≡ f → f.coroutine ≡ true → IsElidable f ↔ IsElidable (saved_function f)
saved_one m locals g f e coroutine = saved_elidable f (subst HasNamedLocals e (locals g))

pub callees_saved : (m : Module) → AreLocalsNamed m → (all : List ℕ) → AreElidable m all ↔ AreElidable (saves_written m) all
callees_saved m locals all = callees_stay saved_function saved_change m (saved_one m locals) all

pub sites_saved : (m : Module) → AreLocalsNamed m → (all : List Place) → AreSites m all ↔ AreSites (saves_written m) all
sites_saved m locals all = sites_stay saved_function saved_change m (saved_one m locals) all

-- ---- the whole pass

in_row : (A B C D : Type 0) → A ↔ B → B ↔ C → C ↔ D → A ↔ D
in_row A B C D x y z = ((λ a. z.0 (y.0 (x.0 a))), (λ d. x.1 (y.1 (z.1 d))))

module _ (m : Module) (locals : AreLocalsNamed m) (uses : AreUsesNamed m) (rules : AllKeepRules (named_module m)) where
  callees_early : (all : List ℕ) → AreElidable m all ↔ AreElidable (early_module m) all
  callees_early all =
      subst (λ (k : Module). AreElidable m all ↔ AreElidable k all) (sym (early_in_turn m))
      (in_row (AreElidable m all) (AreElidable (named_module m) all) (AreElidable (renamed_module (named_module m)) all) (AreElidable (saves_written (renamed_module (named_module m))) all)
      (callees_named m locals uses all)
      (callees_renamed (named_module m) rules all)
      (callees_saved (renamed_module (named_module m)) (renamed_locals (named_module m) (named_locals m locals)) all))

  sites_early : (all : List Place) → AreSites m all ↔ AreSites (early_module m) all
  sites_early all =
      subst (λ (k : Module). AreSites m all ↔ AreSites k all) (sym (early_in_turn m))
      (in_row (AreSites m all) (AreSites (named_module m) all) (AreSites (renamed_module (named_module m)) all) (AreSites (saves_written (renamed_module (named_module m))) all)
      (sites_named m locals uses all)
      (sites_renamed (named_module m) rules all)
      (sites_saved (renamed_module (named_module m)) (renamed_locals (named_module m) (named_locals m locals)) all))

-- ---- sources that break no rule

module _ (m : Module) (accepted : IsRefused Stage.Source m None) (tabled : AreTabled m) (locals : AreLocalsNamed m) (uses : AreUsesNamed m) where
  pub callees_of_source : (all : List ℕ) → AreElidable m all ↔ AreElidable (early_module m) all
  callees_of_source = callees_early m locals uses (all_named_keep m accepted tabled)

  pub sites_of_source : (all : List Place) → AreSites m all ↔ AreSites (early_module m) all
  sites_of_source = sites_early m locals uses (all_named_keep m accepted tabled)
