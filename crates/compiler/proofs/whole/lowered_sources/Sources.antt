-- What the first pass makes of a source that a text stands for and that breaks no rule: items, names and widths.
use Rattle.std.proofs.Common.{◌≡◌, ℕ, Bool, true, List, length, refl, sym, ap, ◌∙◌, subst}
use Rattle.std.proofs.lemmas.Option.{slice_get-map}
use Rattle.std.specs.Prelude.{None, Option, Some, if◌then◌else◌, option_map, slice_get, unwrap_or}
use Rattle.pass_proofs.specs.rule_laws.rules.counted.Widths.{first_other_width}
use Rattle.pass_proofs.proofs.early.local_rules.Turned.{turned_function}
use Rattle.pass_early.specs.BeginName.{with_begin_name}
use Rattle.pass_early.specs.Early.{early_function, early_module, early_named as early_coroutine, renaming_of}
use Rattle.pass_proofs.proofs.rule_laws.rules.local_rules.Accepted.{accepted_breaks_none}
use Rattle.pass_proofs.proofs.rule_laws.rules.sources.Tables.{all_tabled}
use Rattle.pass_proofs.specs.rule_laws.rules.source_rules.Named.{HasTabledLocals}
use Rattle.ir_model.specs.Calls.{first_result}
use Rattle.ir_model.specs.Names.{no_function}
use Rattle.ir_model.specs.declared.operand.Intrinsic.{Intrinsic}
use Rattle.pass_proofs.proofs.early.unused_frames.Early.{named_unused}
use Rattle.pass_proofs.specs.rule_laws.rules.unused.Unused.{AreFramesUnused}
use Rattle.pass_proofs.proofs.rule_laws.rules.path_rules.Passes.{accepted_shape}
use Rattle.pass_proofs.proofs.early.elision.sources.Alike.{accepted_rules}
use Rattle.pass_proofs.specs.rule_laws.rules.sources.Rules.{BreaksNoOtherRule}
use Rattle.pass_proofs.proofs.early.function_rules.Early.{all_kept}
use Rattle.pass_proofs.proofs.rule_laws.rules.function_rules.Shaped.{all_shaped}
use Rattle.pass_proofs.specs.rule_laws.rules.function_rules.Kept.{AllKeepFunctionRules}
use Rattle.pass_proofs.specs.rule_all.Refused.{IsRefused}
use Rattle.pass_proofs.specs.text_grammar.Text.{StandsFor}
use Rattle.ir_model.specs.declared.module.Function.{Function}
use Rattle.ir_model.specs.declared.module.Module.{Module}
use Rattle.pass_proofs.proofs.early.named_sources.BeginNames.{HasBeginName, begin_there, blocks_same, early_begin, name_by}
use Rattle.text_canonical.proofs.order.Shaped.{text_is_shaped}
use Rattle.pass_proofs.specs.rule_names.declared.stage.Stage.{Stage}
use Rattle.pass_proofs.proofs.rule_laws.texts.named_texts.Placed.{locals_named, uses_named}
use Rattle.pass_proofs.proofs.rule_laws.rules.plain_rules.Told.{items_of_accepted}
use Rattle.pass_proofs.specs.rule_laws.rules.plain_rules.Items.{KeepsItemRules}
use Rattle.pass_proofs.proofs.early.widths.Headings.{early_names}
use Rattle.pass_proofs.proofs.early.widths.Widths.{early_widths}
use Rattle.pass_proofs.proofs.rule_laws.rules.widths.Written.{text_wide}
use Rattle.pass_proofs.proofs.rule_laws.rules.same_names.Items.{same_names_keep_items}
use Rattle.compiler.proofs.whole.unnamed_intrinsics.Early.{early_free}
use Rattle.compiler.proofs.cleanup.unnamed_intrinsics.Sources.{source_free}
use Rattle.compiler.specs.cleanup.unnamed_intrinsics.Unnamed.{NamesNoIntrinsic}
use Rattle.pass_proofs.proofs.rule_laws.rules.short_names.Sources.{results_below}

-- a function of the pass's result comes from the source's at its position
pub record ComesFrom (m : Module) (k : ℕ) (g : Function) : Type 0 where
  pub source : Function
  pub stands : slice_get m.functions k ≡ Some source
  pub is : g ≡ early_function source

pub comes_from : (m : Module) (k : ℕ) (g : Function) → slice_get (early_module m).functions k ≡ Some g → ComesFrom m k g
comes_from m k g there = on (slice_get m.functions k) refl (sym (slice_get-map early_function m.functions k) ∙ there)
  where
    on : (o : Option Function) → slice_get m.functions k ≡ o → option_map early_function o ≡ Some g → ComesFrom m k g
    on None e d = absurd (cc)
    on (Some f) e d =
        let same : early_function f ≡ g = cc in
        record { source = f; stands = e; is = sym same }

same_coroutine : (f : Function) → (early_function f).coroutine ≡ f.coroutine
same_coroutine f = (turned_function f).coroutine

module _ (text : List ℕ) (m : Module) (stands : StandsFor text m) (accepted : IsRefused Stage.Source m None) where
  source_items : KeepsItemRules Stage.Source m
  source_items = items_of_accepted Stage.Source m accepted

  pub early_items : KeepsItemRules Stage.Source (early_module m)
  early_items = same_names_keep_items Stage.Source m (early_module m) (early_names m) source_items

  pub early_rules : AllKeepFunctionRules (early_module m)
  early_rules = all_kept m accepted (all_shaped m (text_is_shaped text m stands)) (locals_named text m stands) (uses_named text m stands)

  pub early_others : BreaksNoOtherRule (early_module m)
  early_others = accepted_rules text m stands accepted

  pub early_unnamed : (k : ℕ) (g : Function) → slice_get (early_module m).functions k ≡ Some g → NamesNoIntrinsic k g
  early_unnamed k g there =
      let x = comes_from m k g there in
      subst (NamesNoIntrinsic k) (sym x.is) (early_free k x.source (source_free m (text_is_shaped text m stands) source_items accepted k x.source x.stands))

  pub early_wide : (k : ℕ) (g : Function) → slice_get (early_module m).functions k ≡ Some g → first_other_width k g ≡ None
  early_wide k g there =
      let x = comes_from m k g there in
      subst (λ (f : Function). first_other_width k f ≡ None) (sym x.is) (early_widths k x.source (text_wide text m stands k x.source x.stands))

  pub early_named : (k : ℕ) (g : Function) → slice_get (early_module m).functions k ≡ Some g → g.coroutine ≡ true → HasBeginName g
  early_named k g there coroutine =
      let x = comes_from m k g there in
      let source : x.source.coroutine ≡ true = sym (same_coroutine x.source) ∙ ap (λ (f : Function). f.coroutine) (sym x.is) ∙ coroutine in
      subst HasBeginName (sym x.is) (early_begin k x.source source (accepted_shape m accepted k x.source x.stands).calls)

  source_tabled : (k : ℕ) (f : Function) → slice_get m.functions k ≡ Some f → f.coroutine ≡ true → HasTabledLocals k f
  source_tabled k f there coroutine =
      let same : unwrap_or (slice_get m.functions k) no_function ≡ f = ap (λ (o : Option Function). unwrap_or o no_function) there in
      subst (HasTabledLocals k) same (all_tabled text m stands k (ap (λ (g : Function). g.coroutine) same ∙ coroutine))

  -- no operand is a value of coro.frame
  pub early_unused : (k : ℕ) (g : Function) → slice_get (early_module m).functions k ≡ Some g → g.coroutine ≡ true → AreFramesUnused k g
  early_unused k g there coroutine =
      let x = comes_from m k g there in
      let f : Function = x.source in
      let h : Function = with_begin_name f in
      let source : f.coroutine ≡ true = sym (same_coroutine f) ∙ ap (λ (y : Function). y.coroutine) (sym x.is) ∙ coroutine in
      let is : g ≡ early_coroutine h = x.is ∙ ap (λ (b : Bool). if b then early_coroutine h else f) source in
      let begin = name_by f (begin_there k f source (accepted_shape m accepted k f x.stands).calls) in
      let now : first_result Intrinsic.CoroBegin g ≡ Some begin.begin = ap (first_result Intrinsic.CoroBegin) is ∙ blocks_same (renaming_of h) (length h.names) h.blocks ∙ begin.named in
      named_unused m (early_module m) k f g (first_result Intrinsic.CoroBegin f) is ((accepted_breaks_none m accepted).functions k f x.stands).values
      (results_below k f (source_tabled k f x.stands source)) (early_rules k g there) begin.begin begin.named now
