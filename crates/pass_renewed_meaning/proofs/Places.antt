-- The rules of places, with the windows that the first run looks up.
use Rattle.std.proofs.Common.{◌≡◌, ℕ, map, Option, Some, None, refl, sym, ap, ◌∙◌, subst}
use Rattle.std.specs.Prelude.{All, slice_get, unwrap_or}
use Rattle.run_types.specs.ir_model.Names.{function_at, no_function}
use Rattle.run_types.specs.ir_model.declared.module.Function.{Function}
use Rattle.run_types.specs.ir_model.declared.module.Module.{Module}
use Rattle.run_types.proofs.ir_paths.Right.{facts_of_right}
use Rattle.run_types.specs.ir_paths.Facts.{IsWindow, all_facts, facts_of}
use Rattle.run_types.specs.ir_paths.Windows.{saves_of}
use Rattle.run_types.specs.ir_paths.declared.point.Facts.{Facts}
use Rattle.run_types.specs.ir_paths.declared.point.Window.{Window}
use Rattle.run_types.specs.run_hooks.Away.{KeepsAllPlaceRules}
use Rattle.run_types.specs.run_hooks.Reached.{AllHaveSwitches}
use Rattle.run_types.specs.run_source_tables.Given.{facts_at}
use Rattle.pass_renewed_meaning.proofs.Tables.{none, plain_facts, plain_missing}
use Rattle.pass_renewed_meaning.specs.Rules.{KeepsAll, Setting}
use Rattle.pass_renewed_meaning.specs.Runs.{first_given}

-- they are those of the function
windows_are : (m : Module) (func : ℕ) → (facts_at (all_facts m) func).windows ≡ (facts_of (function_at m func)).windows
windows_are m func = on (slice_get m.functions func) refl
  where
    on : (o : Option Function) → slice_get m.functions func ≡ o → (facts_at (all_facts m) func).windows ≡ (facts_of
        (function_at m func)).windows
    on (Some f) e = ap (λ (z : Facts). z.windows) (plain_facts m func (e ∙ ap Some (sym (ap (λ z. unwrap_or z no_function)
        e))))
    on None e = ap (λ z. (unwrap_or z none).windows) (plain_missing m.functions func e) ∙ ap (λ z. (facts_of (unwrap_or z
        no_function)).windows) (sym e)

module _ (c : Setting) (all : KeepsAll c) where
  pub has_switches : AllHaveSwitches c.code
  has_switches func =
      let rules = (all.slots.each func).suspends in
      record { switched = rules.switched; leads = rules.leads }

  pub place_rules : KeepsAllPlaceRules (first_given c)
  place_rules = record {
    each = all.places;
    saves = λ func. subst (λ ws. map (λ (w : Window). (w.save, w.suspend)) ws ≡ saves_of (function_at c.code func)) (sym
        (windows_are c.code func)) (facts_of_right (function_at c.code func)).saves;
    windows = λ func. subst (λ ws. All (IsWindow (function_at c.code func)) ws) (sym (windows_are c.code func))
        (facts_of_right (function_at c.code func)).windows;
  }
