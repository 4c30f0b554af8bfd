-- A coroutine of a framed form of a source that breaks no rule may be split.
use Rattle.std.proofs.Common.{◌≡◌, ℕ, ◌≤◌, Bool, true, List, Ok, length, sym, subst}
use Rattle.std.specs.Prelude.{None, Some, slice_get}
use Rattle.pass_proofs.specs.rule_laws.frames.crossing.Crossed.{IsNothingNeeded}
use Rattle.pass_proofs.specs.frame_contents.Frames.{AreLayouts}
use Rattle.pass_early.specs.Early.{early_module}
use Rattle.pass_proofs.specs.rule_laws.rules.path_rules.Paths.{KeepsPaths}
use Rattle.pass_proofs.specs.rule_laws.rules.path_rules.Shape.{KeepsShape}
use Rattle.pass_proofs.proofs.rule_laws.rules.sources.Tables.{all_tabled}
use Rattle.pass_proofs.specs.edges.rules.Phis.{ArePhisEnteredByJumps}
use Rattle.compiler.proofs.whole.exits.Unnamed.{names_none}
use Rattle.pass_proofs.proofs.split.exits.Whole.{splittable_kept}
use Rattle.frame_layout.specs.declared.layout.Layout.{Layout}
use Rattle.frame_layout.specs.declared.layout.Layouts.{Layouts}
use Rattle.pass_proofs.proofs.frames.numbers.Numbers.{all_near}
use Rattle.pass_proofs.proofs.early.numbers.Small.{early_few}
use Rattle.pass_proofs.specs.rule_laws.frames.suspend_counts.Given.{IsGiven}
use Rattle.pass_proofs.proofs.split.crossing.Crossed.{only_these}
use Rattle.pass_proofs.proofs.frames.crossing.Whole.{framed_end_first, framed_frames, framed_nothing}
use Rattle.pass_proofs.specs.rule_laws.frames.needed.Crossed.{AreFramesUnneeded}
use Rattle.pass_proofs.specs.split.crossing.Ended.{AreEndedFirst}
use Rattle.pass_proofs.proofs.frames.rules.Built.{form_kept, passes_fit}
use Rattle.pass_proofs.specs.frames.rules.Buildable.{IsBuildable}
use Rattle.pass_proofs.specs.rule_laws.frames.shape.Passes.{IsKept}
use Rattle.pass_proofs.specs.frames.shape.Passes.{PassesFit}
use Rattle.pass_proofs.proofs.rule_laws.rules.function_rules.Signatures.{go_by_signatures}
use Rattle.pass_proofs.specs.rule_laws.rules.function_rules.Kept.{KeepsFunctionRules}
use Rattle.pass_proofs.specs.ir_laws.facts.function_rules.Signatures.{HaveSameSignatures}
use Rattle.pass_proofs.specs.pass_intrinsics.Shapes.{suspends_of}
use Rattle.pass_proofs.specs.rule_all.Refused.{IsRefused}
use Rattle.pass_proofs.specs.text_grammar.Text.{StandsFor}
use Rattle.ir_model.specs.declared.module.Function.{Function}
use Rattle.ir_model.specs.declared.module.Module.{Module}
use Rattle.pass_proofs.proofs.early.named_sources.BeginNames.{HasBeginName}
use Rattle.compiler.proofs.whole.lowered_sources.Sources.{early_named, early_others, early_rules, early_unnamed, early_unused, early_wide}
use Rattle.pass_proofs.proofs.ir_laws.facts.Lists.{blocks_twice}
use Rattle.pass_proofs.proofs.split.front_rules.Paths.{ends_kept}
use Rattle.pass_proofs.proofs.edges.front_rules.Paths.{frames_kept, nothing_kept}
use Rattle.pass_proofs.proofs.edges.front_rules.Whole.{all_kept, jumps_kept}
use Rattle.compiler.proofs.cleanup.front_rules.Whole.{unnamed_kept}
use Rattle.pass_proofs.specs.pass_front.Front.{with_allocas_first, with_front_allocas}
use Rattle.compiler.proofs.whole.lowered_sources.Unnamed.{framed_free, framed_jumped}
use Rattle.pass_proofs.specs.rule_names.declared.stage.Stage.{Stage}
use Rattle.pass_proofs.proofs.rule_laws.texts.named_texts.Placed.{locals_named, uses_named}
use Rattle.pass_proofs.proofs.frames.slots_behind.Behind.{blocks_behind}
use Rattle.pass_frames.specs.Framed.{IsFramedCoroutine, celled, copied, placed}
use Rattle.pass_proofs.specs.split.rules.Splittable.{IsSplittable}
use Rattle.compiler.specs.cleanup.unnamed_intrinsics.Unnamed.{NamesNoIntrinsic}
use Rattle.pass_proofs.specs.pass_exits.ExitBlocks.{with_exit_blocks}

-- what a framed coroutine is
pub record IsFramedWell (m : Module) (k : ℕ) (g : Function) : Type 0 where
  pub begin : ℕ
  pub kept : IsKept m k g begin
  pub front : with_allocas_first g.blocks ≡ g.blocks
  pub ends : AreEndedFirst g
  pub nothing : IsNothingNeeded g
  pub frames : AreFramesUnneeded g
  pub names : NamesNoIntrinsic k g
  pub jumps : ArePhisEnteredByJumps g

module _ (text : List ℕ) (m : Module) (stands : StandsFor text m) (accepted : IsRefused Stage.Source m None) (share : Bool) (layouts : Layouts) (laid : AreLayouts m share (Ok layouts)) where
  abbrev e : Module
  e = early_module m

  module _ (k : ℕ) (f : Function) (there : slice_get (early_module m).functions k ≡ Some f) (coroutine : f.coroutine ≡ true) (l : Layout) (given : IsGiven layouts.coroutines l) where
    rules : KeepsFunctionRules e k f
    rules = early_rules text m stands accepted k f there

    shape : KeepsShape k f
    shape = (early_others text m stands accepted).shape k f there

    paths : KeepsPaths k f
    paths = (early_others text m stands accepted).paths k f there

    named : HasBeginName f
    named = early_named text m stands accepted k f there coroutine

    module _ (g : Function) (h : IsFramedCoroutine (early_module m) l f g) where
      abbrev R : Function
      R = placed l f h.contents (copied f h.contents (celled e f h.contents) h.before)

      buildable : IsBuildable e k l f h.contents h.before named.begin
      buildable =
          record {
            rules = rules;
            coroutine = coroutine;
            calls = shape.calls;
            switches = shape.switches;
            outside = paths.outside;
            window = paths.window;
            named = named.named;
            contents = h.contents_are;
            widths = early_wide text m stands accepted k f there;
            before_are = h.before_are;
            near = all_near m share layouts laid l given;
            uses = blocks_behind e k l f h.contents named.begin (length (copied f h.contents (celled e f h.contents) h.before).names) rules coroutine shape.calls paths.early_address named.named h.contents_are;
          }

      fit : PassesFit e k l f h.contents h.before
      fit = passes_fit e k l f h.contents h.before named.begin buildable

      kept : IsKept e k R named.begin
      kept = form_kept e k l f h.contents h.before named.begin buildable

      built : IsFramedWell e k (with_front_allocas R)
      built =
          record {
            begin = named.begin;
            kept = all_kept e k R named.begin kept;
            front = blocks_twice R.blocks;
            ends = ends_kept R (framed_end_first e k l f h.contents h.before named.begin rules coroutine shape.calls shape.switches paths.outside paths.window named.named h.contents_are.crossing_are fit);
            nothing = nothing_kept k R kept.rules.edges kept.coroutine kept.shape.switches (framed_nothing e k l f h.contents h.before named.begin rules coroutine shape.calls shape.switches paths.outside paths.window named.named h.contents_are.crossing_are fit);
            frames = frames_kept k R kept.rules.edges kept.coroutine kept.shape.switches (framed_frames e k l f h.contents h.before named.begin rules coroutine shape.calls shape.switches paths.outside paths.window named.named h.contents_are.crossing_are fit (early_unused text m stands accepted k f there coroutine));
            names = unnamed_kept k R (framed_free e k l f h.contents h.before named.begin rules coroutine shape.calls shape.switches paths.outside paths.window named.named h.contents_are.crossing_are fit (early_unnamed text m stands accepted k f there));
            jumps = jumps_kept R (framed_jumped e k l f h.contents h.before named.begin rules coroutine shape.calls shape.switches paths.outside paths.window named.named h.contents_are.crossing_are fit);
          }

      pub framed_well : IsFramedWell e k g
      framed_well = subst (IsFramedWell e k) (sym h.is) built

      pub framed_few : length (suspends_of f) ≤ 65536
      framed_few = early_few m accepted (all_tabled text m stands) (locals_named text m stands) (uses_named text m stands) k f there coroutine

-- ---- splitting

module _ (m n : Module) (same : HaveSameSignatures m n) (k : ℕ) (g : Function) (h : IsFramedWell m k g) where
  rules_n : KeepsFunctionRules n k g
  rules_n = go_by_signatures m n k g same h.kept.rules

  splittable : IsSplittable n k g h.begin
  splittable =
      record {
        coroutine = h.kept.coroutine;
        rules = rules_n;
        once = h.kept.once;
        calls = h.kept.shape.calls;
        switches = h.kept.shape.switches;
        named = h.kept.shape.named;
        front = h.front;
        begun = h.kept.shape.begun;
        tokens = h.kept.shape.tokens;
        edges = h.kept.shape.edges;
        returns = h.ends;
        crossing = only_these n k g rules_n h.kept.coroutine h.kept.shape.calls h.begin h.kept.shape.named h.nothing h.frames;
      }

  pub exits_splittable : IsSplittable n k (with_exit_blocks g) h.begin
  exits_splittable = splittable_kept n k g h.begin splittable h.jumps

  pub exits_unnamed : NamesNoIntrinsic k (with_exit_blocks g)
  exits_unnamed = names_none n k g rules_n h.jumps h.names
