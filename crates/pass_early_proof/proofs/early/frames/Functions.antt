-- What the first pass leaves as it is of each coroutine of a module.
use Rattle.std.proofs.Common.{◌≡◌, ℕ, Bool, true, List, Some, None, Option, refl, sym, ap, ◌∙◌, subst, ◌↔◌}
use Rattle.std.proofs.lemmas.Option.{slice_get-map}
use Rattle.std.specs.Prelude.{option_map, slice_get, unwrap_or, if◌then◌else◌}
use Rattle.pass_early_proof.proofs.early.renaming.Composition.{early_in_turn}
use Rattle.pass_early_proof.proofs.early.renaming.Rules.{all_regular}
use Rattle.pass_early_proof.specs.early.renaming.Passes.{named_function, named_module, renamed_by_its_own, renamed_coroutine, renamed_function, renamed_module}
use Rattle.rule_laws.specs.ir_laws.facts.renamed.Passes.{with_functions}
use Rattle.pass_early_proof.specs.early.renaming.Regular.{AllKeepRules, IsRegular}
use Rattle.pass_early_proof.proofs.early.crossing.Named.{crossing_named}
use Rattle.pass_early_proof.proofs.early.crossing.Renamed.{crossing_renamed}
use Rattle.pass_early_proof.proofs.early.crossing.Saved.{crossing_saved}
use Rattle.pass_early_proof.specs.early.crossing.Plain.{HasPlainNames}
use Rattle.pass_early_proof.proofs.early.slots.Laws.{alive_named, alive_renamed, alive_saved, classes_named, classes_renamed, classes_saved, conflicts_named, conflicts_renamed, conflicts_saved}
use Rattle.pass_early_proof.proofs.early.frames.Modules.{named_stays, plain_names}
use Rattle.pass_early_proof.specs.early.frames.NoParams.{AreBeginsNoParams}
use Rattle.pass_early.specs.BeginName.{with_begin_name}
use Rattle.pass_early.specs.Early.{early_module, renaming_of}
use Rattle.pass_early.specs.declared.renaming.Renaming.{Renaming}
use Rattle.pass_early_proof.proofs.early.meaning.Names.{named_locals, named_uses, renamed_locals, renamed_uses}
use Rattle.ir_model.specs.Names.{function_at, no_function}
use Rattle.ir_model.specs.declared.module.Function.{Function}
use Rattle.ir_model.specs.declared.module.Module.{Module}
use Rattle.pass_early_proof.proofs.early.saves.Parts.{function_saved}
use Rattle.pass_early_proof.specs.early.saves.SavesWritten.{saved_function}
use Rattle.rule_laws.specs.ir_laws.paths.expanded.Tokens.{HasNamedTokens}
use Rattle.rule_laws.proofs.ir_laws.paths.named_locals.Names.{tokens_named}
use Rattle.rule_laws.specs.frame_conflicts.Conflicts.{AreAliveAt, AreConflicts}
use Rattle.rule_laws.specs.frame_classes.Classes.{AreClasses}
use Rattle.rule_laws.specs.frame_classes.declared.class.SlotClass.{SlotClass}
use Rattle.rule_laws.specs.ir_laws.facts.sound_states.Named.{AreLocalsNamed, AreUsesNamed, HasNamedLocals, HasNamedOperands}
use Rattle.rule_laws.specs.frame_crossing.Crossing.{AreCrossing}

-- a coroutine of a module whose functions change
pub changed_there : (change : Function → Function) (m : Module) (func : ℕ) → (function_at m func).coroutine ≡ true → function_at (with_functions change m) func ≡ change (function_at m func)
changed_there change m func c = ap (λ (o : Option Function). unwrap_or o no_function) (slice_get-map change m.functions func) ∙ on (slice_get m.functions func) c
  where
    on : (o : Option Function) → (unwrap_or o no_function).coroutine ≡ true → unwrap_or (option_map change o) no_function ≡ change (unwrap_or o no_function)
    on None e = absurd (cc)
    on (Some f) e = refl

-- what stays under each pass stays under all
pub record StaysUnderEach (P : Function → Type 0) : Type 0 where
  pub named : (f : Function) → HasNamedLocals f → HasNamedOperands f → P f ↔ P (with_begin_name f)
  pub renamed : (f : Function) (r : Renaming) → IsRegular f r → HasPlainNames f r → P f ↔ P (renamed_coroutine r f)
  pub saved : (f : Function) → HasNamedLocals f → HasNamedTokens f → P f ↔ P (saved_function f)

module _ (m : Module) (locals : AreLocalsNamed m) (uses : AreUsesNamed m) (rules : AllKeepRules (named_module m)) (none : AreBeginsNoParams (named_module m)) (func : ℕ) (is : (function_at m func).coroutine ≡ true) where
  abbrev pub first : Module
  first = named_module m

  abbrev pub second : Module
  second = renamed_module (named_module m)

  pub first_is : function_at first func ≡ with_begin_name (function_at m func)
  first_is = changed_there named_function m func is ∙ ap (λ (b : Bool). if b then with_begin_name (function_at m func) else function_at m func) is

  pub in_first : (function_at first func).coroutine ≡ true
  in_first = ap (λ (f : Function). f.coroutine) (changed_there named_function m func is) ∙ named_stays (function_at m func) ∙ is

  pub second_is : function_at second func ≡ renamed_by_its_own (function_at first func)
  second_is = changed_there renamed_function first func in_first ∙ ap (λ (b : Bool). if b then renamed_by_its_own (function_at first func) else function_at first func) in_first

  pub stays_under_all : (P : Function → Type 0) → StaysUnderEach P → P (function_at m func) ↔ P (function_at (early_module m) func)
  stays_under_all P each =
      subst (λ (k : Module). P (function_at m func) ↔ P (function_at k func)) (sym (early_in_turn m))
      (subst (λ (f : Function). P (function_at m func) ↔ P f) (sym (function_saved second func)) (
        (λ h. three.0 (two.0 (one.0 h))),
        (λ h. one.1 (two.1 (three.1 h))),
      ))
    where
      one : P (function_at m func) ↔ P (function_at first func)
      one = subst (λ (f : Function). P (function_at m func) ↔ P f) (sym first_is) (each.named (function_at m func) (locals func) (uses func).operands)

      two : P (function_at first func) ↔ P (function_at second func)
      two =
          let regular = all_regular first rules func in_first in
          subst (λ (f : Function). P (function_at first func) ↔ P f) (sym second_is)
          (each.renamed (function_at first func) (renaming_of (function_at first func)) regular (plain_names func (function_at first func) (rules func in_first) regular (none func in_first)))

      three : P (function_at second func) ↔ P (saved_function (function_at second func))
      three =
          let named = renamed_locals first (named_locals m locals) in
          each.saved (function_at second func) (named func) (tokens_named second named (renamed_uses first rules (named_uses m uses)) func)

  pub crossing_early : (all : List (ℕ × ℕ)) → AreCrossing (function_at m func) all ↔ AreCrossing (function_at (early_module m) func) all
  crossing_early all = stays_under_all (λ f. AreCrossing f all) (record {
    named = λ f l u. crossing_named f l all;
    renamed = λ f r ok plain. crossing_renamed f r plain all;
    saved = λ f l t. crossing_saved f l all;
  })

  pub classes_early : (classes : List SlotClass) → AreClasses (function_at m func) classes ↔ AreClasses (function_at (early_module m) func) classes
  classes_early classes = stays_under_all (λ f. AreClasses f classes) (record {
    named = λ f l u. classes_named f u classes;
    renamed = λ f r ok plain. classes_renamed f r ok classes;
    saved = λ f l t. classes_saved f t classes;
  })

  pub alive_early : (pairs : List (ℕ × ℕ)) → AreAliveAt (function_at m func) pairs ↔ AreAliveAt (function_at (early_module m) func) pairs
  alive_early pairs = stays_under_all (λ f. AreAliveAt f pairs) (record {
    named = λ f l u. alive_named f u pairs;
    renamed = λ f r ok plain. alive_renamed f r ok pairs;
    saved = λ f l t. alive_saved f t pairs;
  })

  pub conflicts_early : (pairs : List (ℕ × ℕ)) → AreConflicts (function_at m func) pairs ↔ AreConflicts (function_at (early_module m) func) pairs
  conflicts_early pairs = stays_under_all (λ f. AreConflicts f pairs) (record {
    named = λ f l u. conflicts_named f u pairs;
    renamed = λ f r ok plain. conflicts_renamed f r ok pairs;
    saved = λ f l t. conflicts_saved f t pairs;
  })
