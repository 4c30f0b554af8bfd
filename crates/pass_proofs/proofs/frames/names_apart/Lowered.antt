-- The names of what is lowered of a source that breaks no rule are different in each function.
use Rattle.std.proofs.Common.{◌≡◌, ℕ, Bool, true, false, List, [], refl, sym, ap, ◌∙◌, subst}
use Rattle.std.specs.Prelude.{None, Option, Some, option_map, slice_get, if◌then◌else◌}
use Rattle.std.proofs.lemmas.Option.{slice_get-map}
use Rattle.pass_early.specs.BeginName.{with_begin_name}
use Rattle.pass_early.specs.Early.{early_function, early_module, early_named}
use Rattle.pass_exits_proof.proofs.early.local_rules.Turned.{turned_function}
use Rattle.pass_exits_proof.specs.frame_layout.declared.layout.Layout.{Layout}
use Rattle.ir_model.specs.declared.module.Function.{Function}
use Rattle.ir_model.specs.declared.module.Module.{Module}
use Rattle.pass_proofs.proofs.frames.unnamed.Positions.{Becomes, FramedBy, StandsAs, Unchanged}
use Rattle.pass_exits_proof.proofs.ir_laws.facts.Truth.{not_both}
use Rattle.pass_exits_proof.proofs.early.names.Framed.{early_step}
use Rattle.pass_proofs.proofs.frames.names_apart.Framed.{framed_step}
use Rattle.pass_exits_proof.proofs.rule_laws.rules.names_apart.Steps.{IsStep, then_step}
use Rattle.pass_proofs.proofs.frames.headings.Headings.{framed_headed}
use Rattle.pass_exits_proof.specs.rule_laws.rules.names_apart.Words.{IsSplitTable, IsTableOf, early_words, framed_words}

module _ (m : Module) (layouts : List Layout) where
  -- what a function of a source has become
  ready : (f e g : Function) → IsTableOf [] f.names → early_function f ≡ e → Becomes (early_module m) layouts e g → IsSplitTable g
  ready f e _ h is (Unchanged plain) =
      let other : f.coroutine ≡ false = sym (turned_function f).coroutine ∙ ap (λ (x : Function). x.coroutine) is ∙ plain in
      let same : e ≡ f = sym is ∙ ap (λ (b : Bool). if b then early_named (with_begin_name f) else f) other in
      record {
        coroutine = λ c few. absurd (not_both e.coroutine plain c);
        other = λ c. subst (λ (x : Function). IsTableOf [] x.names) (sym same) h;
      }
  ready f e _ h is (FramedBy taken g coroutine framed) =
      let marked : f.coroutine ≡ true = sym (turned_function f).coroutine ∙ ap (λ (x : Function). x.coroutine) is ∙ coroutine in
      let first = subst (λ (x : Function). IsStep [] early_words f.names x.names) is (early_step f marked) in
      record {
        coroutine = λ c few. (then_step [] early_words framed_words f.names e.names g.names first (framed_step (early_module m) _ e g framed)).table few h;
        other = λ c. absurd (not_both g.coroutine c ((framed_headed (early_module m) _ e g framed).coroutine ∙ coroutine));
      }

  pub ready_at : (k : ℕ) (g : Function) → ((x : Function) → slice_get m.functions k ≡ Some x → IsTableOf [] x.names) → StandsAs (early_module m) layouts (early_module m).functions k g → IsSplitTable g
  ready_at k g tables at = on (slice_get m.functions k) refl (sym (slice_get-map early_function m.functions k) ∙ at.stands)
    where
      on : (o : Option Function) → slice_get m.functions k ≡ o → option_map early_function o ≡ Some at.source → IsSplitTable g
      on None e d = absurd (cc)
      on (Some x) e d = let same : early_function x ≡ at.source = cc in ready x at.source g (tables x e) same at.becomes
