-- The framed form of an accepted source's coroutine breaks no rule of functions, its entry has no phis, and begin
-- is one in both forms.
use Rattle.std.proofs.Common.{◌≡◌, ℕ, List, Option, Some, true, sym, ap, ◌∙◌, subst}
use Rattle.std.specs.Prelude.{ℤ, slice_get, unwrap_or}
use Rattle.compiler.proofs.pass_proofs.rule_laws.rules.function_rules.Stages.{rules_larger}
use Rattle.compiler.specs.rule_names.declared.stage.Stage.{Stage}
use Rattle.compiler.proofs.whole.lowered_sources.Sources.{comes_from, early_rules}
use Rattle.compiler_theorem.proofs.parts.Returned.{buildable, named}
use Rattle.compiler_theorem.proofs.theorem.Built.{coroutine_there, framed_there, framings, sources_built}
use Rattle.compiler_theorem.specs.theorem.Built.{building}
use Rattle.compiler_theorem.specs.theorem.Lowered.{IsLowered, Lowered, early}
use Rattle.compiler.specs.frame_layout.declared.layout.Layout.{Layout}
use Rattle.compiler.specs.ir_laws.facts.spelled.Filled.{HasFilledPhis, HasNoEntryPhis}
use Rattle.compiler.specs.ir_model.Calls.{first_result}
use Rattle.compiler.specs.ir_model.Names.{function_at}
use Rattle.compiler.specs.ir_model.declared.module.Function.{Function}
use Rattle.compiler.specs.ir_model.declared.module.Module.{Module}
use Rattle.compiler.specs.ir_model.declared.operand.Intrinsic.{Intrinsic}
use Rattle.compiler.specs.pass_frames.Framed.{begin_of, celled, copied, layout_at, placed}
use Rattle.pass_frames_meaning.proofs.begun.Begun.{first}
use Rattle.pass_frames_meaning.specs.pass_frames_proof.Framings.{IsFraming}
use Rattle.pass_frames_meaning.specs.pass_frames_proof.Places.{Framing, edged, framed}
use Rattle.pass_frames_meaning.specs.pass_frames_proof.Ramps.{HasEntryAllocas, IsPlainEntry}
use Rattle.compiler.proofs.pass_proofs.early.spelled.Entry.{early_filled}
use Rattle.compiler.proofs.pass_proofs.edges.front_rules.Whole.{all_kept}
use Rattle.compiler.proofs.pass_proofs.frames.headings.Headings.{framed_signatures}
use Rattle.compiler.proofs.pass_proofs.frames.numbers.Numbers.{number_given}
use Rattle.compiler.proofs.pass_proofs.frames.rules.Built.{form_kept}
use Rattle.pass_split_proof.proofs.ready.Begins.{begin_name_is}
use Rattle.compiler.proofs.rule_laws.rules.function_rules.Signatures.{go_by_signatures}
use Rattle.compiler.proofs.rule_laws.rules.source_rules.Shaped.{function_shaped}
use Rattle.compiler.proofs.rule_laws.rules.spelled.Entry.{shape_filled, unled_entry}
use Rattle.compiler.specs.rule_laws.frames.shape.Passes.{IsKept}
use Rattle.compiler.specs.rule_laws.rules.function_rules.Kept.{KeepsFunctionRules}
use Rattle.compiler.specs.run_framed.Framed.{begin_name}
use Rattle.compiler.proofs.text_canonical.order.Shaped.{text_is_shaped}

module _ (l : Lowered) (low : IsLowered l) (answers : List ℤ) (func : ℕ)
    (is : (function_at (early l) func).coroutine ≡ true) where
  abbrev e : Module
  e = early l

  abbrev f : Function
  f = function_at (early l) func

  abbrev x : Framing
  x = (building l low.is_framed answers).framing func

  there : slice_get (early l).functions func ≡ Some f
  there = coroutine_there l low answers func is

  rules : KeepsFunctionRules e func f
  rules = early_rules l.text l.source low.source.stands low.source.accepted func f there

  own : x.function ≡ f
  own = ((sources_built l low answers).coroutines func is).function

  code : x.code ≡ e
  code = ((sources_built l low answers).coroutines func is).code

  framing : IsFraming x
  framing = framings l low answers func is

  -- ---- the entry

  full : HasFilledPhis f
  full =
      let y = comes_from l.source func f there in
      subst HasFilledPhis (sym y.is) (early_filled y.source (shape_filled y.source
      (function_shaped l.source.functions func y.source
      (text_is_shaped l.text l.source low.source.stands).functions y.stands)))

  pub entry_plain : IsPlainEntry x
  entry_plain = subst (λ (h : Function). HasNoEntryPhis h.blocks) (sym own) (unled_entry func f rules.edges full)

  -- ---- the framed form

  record IsForm : Type 0 where
    begin : ℕ
    named : first_result Intrinsic.CoroBegin f ≡ Some begin
    kept : IsKept e func (framed x) begin

  form : IsForm
  form =
      let y = framed_there l low answers func is in
      let lay : Layout = layout_at l.layouts.coroutines y.taken in
      let given = number_given l.layouts.coroutines y.taken in
      let name = named l low func f there is lay given in
      record {
        begin = name.begin;
        named = name.named;
        kept = subst (λ (z : Framing). IsKept e func (framed z) name.begin) (sym y.same)
            (all_kept e func
            (placed lay f y.is.contents (copied f y.is.contents (celled e f y.is.contents) y.is.before)) name.begin
            (form_kept e func lay f y.is.contents y.is.before name.begin
            (buildable l low func f there is lay given y.other y.is)));
      }

  pub form_allocas : HasEntryAllocas l.framed func x
  form_allocas = record {
    rules = go_by_signatures e l.framed func (framed x)
        (framed_signatures l.layouts (early l) l.framed low.is_framed) form.kept.rules;
    types = low.is_framed.types ∙ ap (λ (m : Module). m.types) (sym code);
  }

  -- ---- begin

  same_begin : begin_of x.function ≡ form.begin
  same_begin =
      ap begin_of own ∙ ap (λ (o : Option ℕ). unwrap_or o 0) form.named

  pub begins : begin_name (edged x) ≡ Some (begin_of x.function)
  begins =
      let h = framing.frameable in
      begin_name_is x.code framing.position (edged x)
      (rules_larger Stage.Source x.code framing.position (edged x) h.rules) framing.begin (first x framing) h.coroutine h.calls
      ∙ sym (ap (λ (o : Option ℕ). Some (unwrap_or o 0)) h.begins)

  pub framed_begins : begin_name (framed x) ≡ Some (begin_of x.function)
  framed_begins =
      let k = form.kept in
      begin_name_is e func (framed x) (rules_larger Stage.Source e func (framed x) k.rules) form.begin k.shape.named k.coroutine k.shape.calls
      ∙ ap Some (sym same_begin)
