-- The fields of a source's frames are those by which its coroutines were framed.
use Rattle.std.proofs.Common.{◌≡◌, ◌↔◌, ℕ, ◌<◌, Bool, true, false, List, map, Option, Some, None, refl, sym, ap, ◌∙◌, subst}
use Rattle.std.proofs.lemmas.Option.{slice_get-map}
use Rattle.std.specs.Prelude.{ℤ, if◌then◌else◌, option_map, slice_get, unwrap_or}
use Rattle.compiler_theorem.proofs.theorem.Built.{framings, sources_built}
use Rattle.compiler_theorem.proofs.theorem.Needed.{StandsIn, some_class, stands_at}
use Rattle.compiler_theorem.proofs.theorem.shown.Contents.{class_once, same_held}
use Rattle.compiler_theorem.specs.theorem.Anew.{Anew, IsAnewOf, IsSlotOf}
use Rattle.compiler_theorem.specs.theorem.Built.{building}
use Rattle.compiler_theorem.specs.theorem.Lowered.{IsLowered, Lowered, early}
use Rattle.compiler_theorem.specs.theorem.SharedBytes.{HasField}
use Rattle.compiler.specs.flow_solver.Paths.{IsListed}
use Rattle.compiler.specs.frame_classes.Classes.{IsOf}
use Rattle.compiler.specs.frame_classes.declared.class.SlotClass.{SlotClass}
use Rattle.compiler.specs.frame_contents.Frames.{AreContents}
use Rattle.compiler.specs.frame_contents.Held.{position_of}
use Rattle.compiler.specs.frame_contents.declared.held.Holding.{Holding}
use Rattle.compiler.specs.frame_layout.declared.layout.Layout.{Layout}
use Rattle.compiler.proofs.ir_laws.facts.Lists.{below}
use Rattle.compiler.specs.ir_model.Names.{function_at, no_function}
use Rattle.compiler.specs.ir_model.declared.module.Function.{Function}
use Rattle.compiler.specs.ir_model.declared.module.Module.{Module}
use Rattle.compiler.specs.ir_paths.Slots.{allocas_of}
use Rattle.compiler.specs.pass_early.BeginName.{with_begin_name}
use Rattle.compiler.specs.pass_early.Early.{early_function, early_named}
use Rattle.compiler.specs.pass_frames.Tables.{offset_at}
use Rattle.pass_frames_meaning.specs.pass_frames_proof.Places.{Framing}
use Rattle.compiler.proofs.pass_kept_proof.Read.{listed_by_name}
use Rattle.compiler.proofs.pass_proofs.early.frames.Frames.{contents_early}
use Rattle.compiler.proofs.pass_proofs.early.frames.Functions.{StaysUnderEach, stays_under_all}
use Rattle.compiler.proofs.pass_proofs.early.frames.Modules.{named_holds, renamed_holds, saved_holds}
use Rattle.compiler.proofs.pass_proofs.early.frames.NoParams.{accepted_apart}
use Rattle.compiler.proofs.pass_proofs.early.source_rules.Accepted.{all_named_keep}
use Rattle.compiler.specs.pass_proofs.early.renaming.Passes.{renamed_coroutine}
use Rattle.compiler.specs.pass_proofs.early.saves.SavesWritten.{saved_function}
use Rattle.compiler.proofs.rule_laws.rules.sources.Tables.{all_tabled}
use Rattle.compiler.proofs.rule_laws.texts.named_texts.Placed.{locals_named, uses_named}
use Rattle.compiler.specs.run_framed.Framed.{layout_of}

-- a coroutine of the early form is one of the source
coroutine_was : (fs : List Function) (func : ℕ)
    → (unwrap_or (slice_get (map early_function fs) func) no_function).coroutine ≡ true
    → (unwrap_or (slice_get fs func) no_function).coroutine ≡ true
coroutine_was fs func is = on (slice_get fs func) (ap (λ (o : Option Function). (unwrap_or o no_function).coroutine)
    (sym (slice_get-map early_function fs func)) ∙ is)
  where
    at : (b : Bool) (f : Function) → f.coroutine ≡ b
        → (if b then early_named (with_begin_name f) else f).coroutine ≡ true → b ≡ true
    at true f e h = refl
    at false f e h = sym e ∙ h

    on : (o : Option Function) → (unwrap_or (option_map early_function o) no_function).coroutine ≡ true
        → (unwrap_or o no_function).coroutine ≡ true
    on None h = h
    on (Some f) h = at f.coroutine f refl h

module _ (l : Lowered) (low : IsLowered l) (answers : List ℤ) (func : ℕ)
    (is : (function_at (early l) func).coroutine ≡ true) where
  abbrev f : Function
  f = function_at l.source func

  abbrev g : Function
  g = function_at (early l) func

  abbrev x : Framing
  x = (building l low.is_framed answers).framing func

  pub was : f.coroutine ≡ true
  was = coroutine_was l.source.functions func is

  pub same_allocas : allocas_of (function_at (early l) func) ≡ allocas_of (function_at l.source func)
  same_allocas =
      let stays = stays_under_all l.source (locals_named l.text l.source low.source.stands)
      (uses_named l.text l.source low.source.stands)
      (all_named_keep l.source low.source.accepted (all_tabled l.text l.source low.source.stands))
      (accepted_apart l.source low.source.accepted (locals_named l.text l.source low.source.stands))
      func was (λ (h : Function). allocas_of h ≡ allocas_of f) each in
      stays.0 refl
    where
      by : (h k : Function) → allocas_of k ≡ allocas_of h
          → (allocas_of h ≡ allocas_of f) ↔ (allocas_of k ≡ allocas_of f)
      by h k e = ((λ d. e ∙ d), (λ d. sym e ∙ d))

      each : StaysUnderEach (λ (h : Function). allocas_of h ≡ allocas_of f)
      each = record {
        named = λ h n u. by h (with_begin_name h) (named_holds l.source l.source refl h n u).allocas;
        renamed = λ h r ok plain. by h (renamed_coroutine r h)
            (renamed_holds l.source l.source refl h r ok plain).allocas;
        saved = λ h n t. by h (saved_function h) (saved_holds l.source l.source refl h n t).allocas;
      }

  -- what the coroutine was framed by is what the source's frame holds
  pub contents_are : AreContents l.source (function_at l.source func)
      ((building l low.is_framed answers).framing func).contents
  contents_are =
      let built = (sources_built l low answers).coroutines func is in
      let own = (framings l low answers func is).frameable.contents in
      (contents_early l.source (locals_named l.text l.source low.source.stands)
      (uses_named l.text l.source low.source.stands)
      (all_named_keep l.source low.source.accepted (all_tabled l.text l.source low.source.stands))
      (accepted_apart l.source low.source.accepted (locals_named l.text l.source low.source.stands)) func was
      x.contents).1
      (subst (λ (h : Function). AreContents (early l) h x.contents) built.function
      (subst (λ (m : Module). AreContents m x.function x.contents) built.code own))

  pub early_are : AreContents (early l) (function_at (early l) func)
      ((building l low.is_framed answers).framing func).contents
  early_are = (contents_early l.source (locals_named l.text l.source low.source.stands)
      (uses_named l.text l.source low.source.stands)
      (all_named_keep l.source low.source.accepted (all_tabled l.text l.source low.source.stands))
      (accepted_apart l.source low.source.accepted (locals_named l.text l.source low.source.stands)) func was
      x.contents).0 contents_are

  -- a field of the source's frame is one of the framing
  pub record IsFieldOf (v offset : ℕ) : Type 0 where
    pub position : ℕ
    pub position_is : position_of x.contents.held v ≡ Some position
    pub offset_is : offset_at x.layout position ≡ offset

  pub field_found : (v offset size : ℕ) → HasField l.source f (layout_of l.layouts.coroutines func) v offset size
      → IsFieldOf v offset
  field_found v offset size h =
      let layout = ((sources_built l low answers).coroutines func is).layout in
      record {
        position = h.position;
        position_is = ap (λ (hs : List Holding). position_of hs v)
            (sym (same_held l.source f h.contents x.contents h.contents_are contents_are)) ∙ h.position_is;
        offset_is = ap (λ (y : Layout). offset_at y h.position) layout ∙ h.offset_is;
      }

  -- a slot has one class in both forms
  module _ (class : SlotClass) (s : ℕ) (li : IsListed s (allocas_of (function_at (early l) func))) where
    at : StandsIn (allocas_of (function_at (early l) func)) s
    at = stands_at s (allocas_of g) li

    there : slice_get (allocas_of f) at.at ≡ Some s
    there = ap (λ (vs : List ℕ). slice_get vs at.at) (sym same_allocas) ∙ at.there

    classed : (c : SlotClass) × (slice_get x.contents.classes at.at ≡ Some c)
    classed = some_class x.contents.classes at.at (subst (λ (n : ℕ). at.at < n) (sym early_are.classes_are.count)
        (below (allocas_of g) at.at s at.there))

    pub class_was : IsOf (function_at (early l) func) s class → IsOf (function_at l.source func) s class
    class_was h = subst (IsOf f s)
        (class_once g s classed.0 class (early_are.classes_are.each at.at s classed.0 at.there classed.1) h)
        (contents_are.classes_are.each at.at s classed.0 there classed.1)

    pub class_now : IsOf (function_at l.source func) s class → IsOf (function_at (early l) func) s class
    class_now h = subst (IsOf g s)
        (class_once f s classed.0 class (contents_are.classes_are.each at.at s classed.0 there classed.1) h)
        (early_are.classes_are.each at.at s classed.0 at.there classed.1)

  -- a frame slot isn't made anew
  pub frame_unflagged : (a : Anew) → IsAnewOf (early l) a → (v : ℕ) → IsOf f v SlotClass.Frame → a.flags func v ≡ false
  frame_unflagged a anew v frame = on (a.flags func v) refl
    where
      no : IsSlotOf g SlotClass.Local v → ⊥
      no h = h.is_of.1 (class_now SlotClass.Frame v (listed_by_name (allocas_of g) v h.is_alloca) frame).1

      on : (b : Bool) → a.flags func v ≡ b → a.flags func v ≡ false
      on false e = e
      on true e = absurd (no (((anew func).flags_are v).0 e))
