-- Coroutines of framed forms of accepted sources have saves of their suspends, and names of saves.
use Rattle.std.proofs.Common.{◌≡◌, ℕ, Bool, true, length, sym, ap, ◌∙◌, subst}
use Rattle.std.specs.Prelude.{Some, slice_get, if◌then◌else◌}
use Rattle.compiler_theorem.proofs.parts.EarlyTokens.{early_tokens}
use Rattle.compiler_theorem.proofs.parts.Followable.{comes, kept_there, same_kind}
use Rattle.compiler_theorem.proofs.parts.Plain.{early_kind}
use Rattle.compiler_theorem.proofs.parts.Saved.{tokens_named, tokens_saved}
use Rattle.compiler_theorem.proofs.parts.TokenPasses.{framed_tokens}
use Rattle.compiler_theorem.proofs.parts.Tokens.{HasTokens, exits_tokens, front_tokens}
use Rattle.compiler.proofs.whole.exit_sources.Accepted.{exits_kept}
use Rattle.compiler.proofs.whole.lowered_sources.Sources.{early_named, early_others, early_rules, early_wide}
use Rattle.compiler.specs.cleanup.accepted.Ready.{IsReady}
use Rattle.compiler_theorem.specs.parts.Framed.{HaveTokens}
use Rattle.compiler_theorem.specs.theorem.Lowered.{IsLowered, Lowered, early}
use Rattle.compiler.specs.frame_layout.declared.layout.Layout.{Layout}
use Rattle.compiler.proofs.ir_laws.facts.Truth.{not_both}
use Rattle.compiler.specs.ir_model.declared.module.Function.{Function}
use Rattle.compiler.specs.ir_model.declared.module.Module.{Module}
use Rattle.compiler.specs.pass_early.Early.{early_function}
use Rattle.compiler.specs.pass_exits.ExitBlocks.{with_exit_blocks}
use Rattle.compiler.specs.pass_frames.Framed.{IsFramedCoroutine, celled, copied, layout_at, placed}
use Rattle.compiler.proofs.pass_proofs.early.named_sources.BeginNames.{HasBeginName}
use Rattle.compiler.proofs.pass_proofs.early.path_rules.RenamedOperands.{map_was}
use Rattle.compiler.proofs.pass_proofs.frames.numbers.Numbers.{all_near, number_given}
use Rattle.compiler.proofs.pass_proofs.frames.rules.Built.{passes_fit}
use Rattle.compiler.proofs.pass_proofs.frames.slots_behind.Behind.{blocks_behind}
use Rattle.compiler.proofs.pass_proofs.frames.unnamed.Positions.{Becomes, FramedBy, Unchanged, stands_as}
use Rattle.compiler.specs.pass_proofs.exits.states.Exits.{exits_split}
use Rattle.compiler.specs.pass_proofs.frames.rules.Buildable.{IsBuildable}
use Rattle.compiler.specs.pass_proofs.frames.shape.Passes.{PassesFit}
use Rattle.compiler.specs.rule_laws.frames.suspend_counts.Given.{IsGiven}
use Rattle.compiler.specs.rule_laws.rules.function_rules.Kept.{KeepsFunctionRules}
use Rattle.compiler.specs.rule_laws.rules.path_rules.Paths.{KeepsPaths}
use Rattle.compiler.specs.rule_laws.rules.path_rules.Shape.{KeepsShape}

module _ (l : Lowered) (low : IsLowered l) where
  abbrev e : Module
  e = early l

  module _ (k : ℕ) (f : Function) (there : slice_get (early l).functions k ≡ Some f) (coroutine : f.coroutine ≡ true)
    where
      rules : KeepsFunctionRules e k f
      rules = early_rules l.text l.source low.source.stands low.source.accepted k f there

      shape : KeepsShape k f
      shape = (early_others l.text l.source low.source.stands low.source.accepted).shape k f there

      paths : KeepsPaths k f
      paths = (early_others l.text l.source low.source.stands low.source.accepted).paths k f there

      named : HasBeginName f
      named = early_named l.text l.source low.source.stands low.source.accepted k f there coroutine

      pub begun : HasTokens k f
      begun =
          let x = map_was early_function l.source.functions k f there in
          let s : Function = x.0 in
          let own : (early_function s).coroutine ≡ true = ap (λ (g : Function). g.coroutine) (sym x.1.1) ∙ coroutine in
          subst (HasTokens k) (sym x.1.1) (early_tokens k s (sym (early_kind s) ∙ own) own
          (subst (λ (g : Function). KeepsPaths k g) x.1.1 paths).window)

      module _ (lay : Layout) (given : IsGiven l.layouts.coroutines lay) (g : Function)
          (h : IsFramedCoroutine (early l) lay f g) where
        buildable : IsBuildable e k lay f h.contents h.before named.begin
        buildable = record {
          rules = rules;
          coroutine = coroutine;
          calls = shape.calls;
          switches = shape.switches;
          outside = paths.outside;
          window = paths.window;
          named = named.named;
          contents = h.contents_are;
          widths = early_wide l.text l.source low.source.stands low.source.accepted k f there;
          before_are = h.before_are;
          near = all_near l.source l.share l.layouts low.laid lay given;
          uses = blocks_behind e k lay f h.contents named.begin
              (length (copied f h.contents (celled e f h.contents) h.before).names) rules coroutine shape.calls
              paths.early_address named.named h.contents_are;
        }

        fit : PassesFit e k lay f h.contents h.before
        fit = passes_fit e k lay f h.contents h.before named.begin buildable

        pub built : HasTokens k g
        built = subst (HasTokens k) (sym h.is) (front_tokens k
            (placed lay f h.contents (copied f h.contents (celled e f h.contents) h.before))
            (framed_tokens e k lay f h.contents h.before named.begin rules coroutine shape.calls shape.switches paths.outside
            paths.window named.named h.contents_are.crossing_are fit begun))

  pub in_form : (k : ℕ) (f g : Function) → slice_get (early l).functions k ≡ Some f
      → Becomes (early l) l.layouts.coroutines f g → g.coroutine ≡ true → HasTokens k g
  in_form k f _ there (Unchanged plain) c = absurd (not_both f.coroutine plain c)
  in_form k f g there (FramedBy taken _ marked framed) c =
      built k f there marked (layout_at l.layouts.coroutines taken) (number_given l.layouts.coroutines taken) g framed

  with_exits : (k : ℕ) (g : Function) → slice_get l.framed.functions k ≡ Some g → g.coroutine ≡ true
      → HasTokens k (with_exit_blocks g)
  with_exits k g there c =
      let x = stands_as (early l) l.layouts.coroutines low.is_framed.functions.count (early l).functions
      l.framed.functions low.is_framed.functions.framed k g there in
      let kept = exits_kept l.text l.source low.source.stands low.source.accepted l.share l.layouts low.laid l.framed
      low.is_framed k g there c in
      exits_tokens l.framed k g kept.rules kept.jumps (in_form k x.source g x.stands x.becomes c)

  exits_have : (k : ℕ) (h : Function) → slice_get (exits_split l.framed).functions k ≡ Some h → h.coroutine ≡ true
      → HasTokens k h
  exits_have k h there c =
      let y = comes l.framed k h there in
      let own : y.source.coroutine ≡ true = sym (same_kind y.source) ∙ ap (λ (g : Function). g.coroutine) y.is ∙ c in
      subst (HasTokens k)
      (sym (ap (λ (b : Bool). if b then with_exit_blocks y.source else y.source) own) ∙ y.is)
      (with_exits k y.source y.stands own)

  pub framed_have_tokens : IsReady l.layouts l.framed → HaveTokens (exits_split l.framed)
  framed_have_tokens ready k f there c =
      let tokens = exits_have k f there c in
      record {
        saved = tokens_saved (exits_split l.framed) k f (kept_there l.layouts l.framed ready k f there) tokens;
        named = tokens_named (exits_split l.framed) k f (kept_there l.layouts l.framed ready k f there) tokens;
      }
