-- A module that is ready stays ready when its functions give their callees frames, by the rules with the ramps.
use Rattle.std.proofs.Common.{◌≡◌, ℕ, Bool, true, false, List, refl, sym, ap, ◌∙◌, subst, Some, None, Option}
use Rattle.std.specs.Prelude.{option_map, slice_get, if◌then◌else◌}
use Rattle.compiler.proofs.cleanup.accepted.Ramps.{has_functions_still}
use Rattle.compiler.proofs.whole.elided_forms.Plain.{plain_keeps, plain_names}
use Rattle.compiler.proofs.whole.elided_forms.Same.{names_stay, signatures_stay}
use Rattle.compiler.specs.cleanup.accepted.Ramps.{with_given_ramps}
use Rattle.compiler.specs.cleanup.accepted.Ready.{IsCoroutineReady, IsPlainReady, IsReady, IsReadyIn}
use Rattle.compiler.specs.whole.elided_forms.Sites.{MayBeGiven}
use Rattle.frame_layout.specs.declared.layout.Layouts.{Layouts}
use Rattle.ir_base.specs.declared.outcome.Place.{Place}
use Rattle.ir_model.specs.declared.module.Function.{Function}
use Rattle.ir_model.specs.declared.module.Module.{Module}
use Rattle.pass_elide.proofs.Unchanged.{become}
use Rattle.pass_elide.specs.Elided.{coroutine_frame, elided_function, elided_module, frame_in}
use Rattle.pass_elide.specs.Frames.{callee_fields, layout_of, site_frame}
use Rattle.pass_elide.specs.Laws.{HaveNoCallees}
use Rattle.pass_proofs.proofs.ir_laws.facts.Numbers.{names_stay_short}
use Rattle.pass_proofs.proofs.rule_laws.frames.replaced.Extended.{go_by_functions}
use Rattle.pass_proofs.proofs.rule_laws.rules.function_rules.Signatures.{go_by_signatures}
use Rattle.pass_proofs.proofs.rule_laws.rules.same_names.Items.{same_names_keep_items}
use Rattle.pass_proofs.specs.pass_exits.ExitBlocks.{with_exit_blocks}
use Rattle.pass_proofs.specs.rule_names.declared.stage.Stage.{Stage}
use Rattle.pass_proofs.specs.split.rules.Splittable.{IsSplittable}

module _ (layouts : Layouts) (sites : List Place) (m : Module) (ready : IsReady layouts m) (may : MayBeGiven layouts m)
    (none : (k : ℕ) (f : Function) → f.coroutine ≡ true
    → elided_function (frame_in m layouts.coroutines sites k f) f ≡ f) where
  abbrev e : Module
  e = elided_module layouts sites m

  abbrev R : Module
  R = with_given_ramps e

  -- what a function of the elided module was
  record Was (k : ℕ) (g : Function) : Type 0 where
    source : Function
    stands : slice_get m.functions k ≡ Some source
    is : elided_function (frame_in m layouts.coroutines sites k source) source ≡ g

  was : (k : ℕ) (g : Function) → slice_get e.functions k ≡ Some g → Was k g
  was k g there = on (slice_get m.functions k) refl (sym (become layouts sites m k) ∙ there)
    where
      on : (o : Option Function) → slice_get m.functions k ≡ o
          → option_map (λ f. elided_function (frame_in m layouts.coroutines sites k f) f) o ≡ Some g → Was k g
      on None h d = absurd (cc)
      on (Some f) h d =
          let same : elided_function (frame_in m layouts.coroutines sites k f) f ≡ g = cc in
          record { source = f; stands = h; is = same }

  splittable_there : (k begin : ℕ) (f : Function) → IsSplittable m k f begin → IsSplittable R k f begin
  splittable_there k begin f s =
      record {
        coroutine = s.coroutine;
        rules = go_by_functions Stage.Source e R k f
            (has_functions_still layouts e (same_names_keep_items Stage.Source m e (names_stay layouts sites m) ready.items)
            (names_stay_short m e (names_stay layouts sites m) ready.short))
            (go_by_signatures m e k f (signatures_stay layouts sites m) s.rules);
        once = s.once;
        calls = s.calls;
        switches = s.switches;
        named = s.named;
        front = s.front;
        begun = s.begun;
        tokens = s.tokens;
        edges = s.edges;
        returns = s.returns;
        crossing = s.crossing;
      }

  coroutine_ready : (k : ℕ) (g : Function) → slice_get e.functions k ≡ Some g → g.coroutine ≡ true
      → IsCoroutineReady R layouts k g
  coroutine_ready k g there c =
      let w = was k g there in
      let marked : w.source.coroutine ≡ true = ap (λ (f : Function). f.coroutine) w.is ∙ c in
      let same : w.source ≡ g = sym (none k w.source marked) ∙ w.is in
      let r = ready.coroutines k w.source w.stands marked in
      subst (IsCoroutineReady R layouts k) same (record {
        begin = r.begin;
        splittable = splittable_there k r.begin (with_exit_blocks w.source) r.splittable;
        names = r.names;
        small = r.small;
      })

  plain_ready : (k : ℕ) (g : Function) → slice_get e.functions k ≡ Some g → g.coroutine ≡ false
      → IsPlainReady Stage.Plain R k g
  plain_ready k g there c =
      let w = was k g there in
      let plain : w.source.coroutine ≡ false = ap (λ (f : Function). f.coroutine) w.is ∙ c in
      let r = ready.plain k w.source w.stands plain in
      let same : elided_function (site_frame m layouts.coroutines sites k) w.source ≡ g =
      sym (ap (λ (b : Bool).
      elided_function (if b then coroutine_frame (layout_of layouts.coroutines k) w.source
      else site_frame m layouts.coroutines sites k) w.source) plain) ∙ w.is in
      subst (IsPlainReady Stage.Plain R k) same (record {
        rules = plain_keeps layouts sites m ready.items ready.short may k w.source w.stands plain r.rules;
        names = plain_names layouts sites m ready.items ready.short may k w.source w.stands plain r.rules r.names;
      })

  pub elided_ready : IsReadyIn Stage.Plain R layouts e
  elided_ready =
      record {
        items = same_names_keep_items Stage.Source m e (names_stay layouts sites m) ready.items;
        short = names_stay_short m e (names_stay layouts sites m) ready.short;
        plain = plain_ready;
        coroutines = coroutine_ready;
      }
