-- The framed form of what the first pass makes of a source that breaks no rule is ready for splitting.
use Rattle.std.proofs.Common.{◌≡◌, ◌≤◌, ℕ, Bool, true, false, List, Ok, sym, ◌∙◌, subst}
use Rattle.std.specs.Prelude.{None, Some, not, slice_get}
use Rattle.std.specs.List.{list_all}
use Rattle.pass_cleanup.specs.Cleanup.{clean_module}
use Rattle.pass_cleanup.specs.Free.{calls_id_alone}
use Rattle.pass_split.specs.Parts.{split_module}
use Rattle.pass_proofs.specs.frame_contents.Frames.{AreLayouts}
use Rattle.pass_early.specs.Early.{early_module}
use Rattle.frame_layout.specs.declared.layout.Layout.{Layout}
use Rattle.frame_layout.specs.declared.layout.Layouts.{Layouts}
use Rattle.pass_proofs.proofs.frames.numbers.Framed.{framed_as_many}
use Rattle.pass_proofs.proofs.frames.numbers.Numbers.{number_given}
use Rattle.pass_proofs.proofs.frames.numbers.Small.{shape_small}
use Rattle.pass_proofs.proofs.exits.rules.Unnamed.{stays_small}
use Rattle.pass_proofs.proofs.rule_laws.rules.function_rules.Signatures.{go_by_signatures}
use Rattle.pass_proofs.specs.rule_all.Refused.{IsRefused}
use Rattle.pass_proofs.specs.text_grammar.Text.{StandsFor}
use Rattle.ir_model.specs.declared.module.Function.{Function}
use Rattle.ir_model.specs.declared.module.Module.{Module}
use Rattle.compiler.proofs.cleanup.accepted.Row.{split_accepted}
use Rattle.compiler.specs.cleanup.accepted.Ready.{IsCoroutineReady, IsPlainReady, IsReady}
use Rattle.compiler.proofs.whole.lowered_sources.Coroutines.{exits_splittable, exits_unnamed, framed_few, framed_well}
use Rattle.pass_proofs.proofs.frames.unnamed.Positions.{Becomes, FramedBy, StandsAs, Unchanged, stands_as}
use Rattle.pass_proofs.proofs.ir_laws.facts.Numbers.{names_stay_short}
use Rattle.pass_proofs.proofs.ir_laws.facts.Truth.{not_both}
use Rattle.compiler.proofs.whole.lowered_sources.Sources.{early_items, early_rules, early_unnamed}
use Rattle.pass_proofs.specs.rule_names.declared.stage.Stage.{Stage}
use Rattle.pass_proofs.proofs.early.widths.Headings.{early_names}
use Rattle.pass_proofs.proofs.frames.headings.Headings.{framed_names, framed_signatures}
use Rattle.pass_proofs.proofs.rule_laws.texts.widths.Texts.{text_names_short}
use Rattle.pass_frames.specs.Framed.{IsFramedForm, layout_at}
use Rattle.pass_proofs.proofs.rule_laws.rules.same_names.Items.{same_names_keep_items}
use Rattle.pass_proofs.specs.ir_laws.facts.same_names.Short.{HaveShortNames}

module _ (text : List ℕ) (m : Module) (stands : StandsFor text m) (accepted : IsRefused Stage.Source m None) (share : Bool) (layouts : Layouts) (laid : AreLayouts m share (Ok layouts)) (n : Module) (form : IsFramedForm layouts (early_module m) n) where
  abbrev e : Module
  e = early_module m

  comes : (k : ℕ) (g : Function) → slice_get n.functions k ≡ Some g → StandsAs (early_module m) layouts.coroutines (early_module m).functions k g
  comes k g there = stands_as e layouts.coroutines form.functions.count e.functions n.functions form.functions.framed k g there

  short : HaveShortNames n
  short = names_stay_short e n (framed_names layouts e n form) (names_stay_short m e (early_names m) (text_names_short text m stands))

  plain_by : (k : ℕ) (f g : Function) → slice_get (early_module m).functions k ≡ Some f → Becomes (early_module m) layouts.coroutines f g → g.coroutine ≡ false → IsPlainReady Stage.Source n k g
  plain_by k f _ there (Unchanged plain) c =
      record { rules = go_by_signatures e n k f (framed_signatures layouts e n form) (early_rules text m stands accepted k f there); names = early_unnamed text m stands accepted k f there }
  plain_by k f g there (FramedBy taken _ marked framed) c =
      let well = framed_well text m stands accepted share layouts laid k f there marked (layout_at layouts.coroutines taken) (number_given layouts.coroutines taken) g framed in
      let both : true ≡ false = sym well.kept.coroutine ∙ c in absurd (cc)

  coroutine_by : (k : ℕ) (f g : Function) → slice_get (early_module m).functions k ≡ Some f → slice_get n.functions k ≡ Some g → Becomes (early_module m) layouts.coroutines f g → g.coroutine ≡ true → IsCoroutineReady n layouts k g
  coroutine_by k f _ there now (Unchanged plain) c = absurd (not_both f.coroutine plain c)
  coroutine_by k f g there now (FramedBy taken _ marked framed) c =
      let l : Layout = layout_at layouts.coroutines taken in
      let given = number_given layouts.coroutines taken in
      let was : f.coroutine ≡ true = marked in
      let well = framed_well text m stands accepted share layouts laid k f there was l given g framed in
      let few = framed_few text m stands accepted share layouts laid k f there was l given g framed in
      let same = framed_signatures layouts e n form in
      record {
        begin = well.begin;
        splittable = exits_splittable e n same k g well;
        names = exits_unnamed e n same k g well;
        small = λ l2 given2. stays_small k g l2 c well.kept.shape.switches (shape_small m share layouts laid g (subst (λ (x : ℕ). x ≤ 65536) (sym (framed_as_many e l f g framed)) few) l2 given2);
      }

  pub is_ready : IsReady layouts n
  is_ready =
      record {
        items = same_names_keep_items Stage.Source e n (framed_names layouts e n form) (early_items text m stands accepted);
        short = short;
        plain = λ k g there c. let x = comes k g there in plain_by k x.source g x.stands x.becomes c;
        coroutines = λ k g there c. let x = comes k g there in coroutine_by k x.source g x.stands there x.becomes c;
      }

pub all_accepted : (text : List ℕ) (m : Module) → StandsFor text m → IsRefused Stage.Source m None → (share : Bool) (layouts : Layouts) → AreLayouts m share (Ok layouts) → (n : Module) → IsFramedForm layouts (early_module m) n → list_all (λ f. not f.coroutine) (split_module layouts n).functions ≡ true → calls_id_alone (split_module layouts n) ≡ true → IsRefused Stage.Plain (clean_module (split_module layouts n)) None
all_accepted text m stands accepted share layouts laid n form = split_accepted layouts n (is_ready text m stands accepted share layouts laid n form)
