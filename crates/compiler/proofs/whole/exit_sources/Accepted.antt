-- The framed form of what the first pass makes of a source that breaks no rule has what blocks on the edges that leave windows ask.
use Rattle.std.proofs.Common.{◌≡◌, ℕ, Bool, true, List, Ok, refl}
use Rattle.std.specs.Prelude.{None, Option, Some, slice_get, unwrap_or}
use Rattle.pass_proofs.specs.frame_contents.Frames.{AreLayouts}
use Rattle.pass_early.specs.Early.{early_module}
use Rattle.pass_proofs.specs.ir_laws.facts.sound_states.Named.{AreLocalsNamed, HasNamedLocals}
use Rattle.frame_layout.specs.declared.layout.Layouts.{Layouts}
use Rattle.pass_proofs.proofs.rule_laws.rules.function_rules.Signatures.{go_by_signatures}
use Rattle.pass_proofs.specs.rule_laws.rules.function_rules.Kept.{KeepsFunctionRules}
use Rattle.pass_proofs.specs.rule_all.Refused.{IsRefused}
use Rattle.pass_proofs.specs.text_grammar.Text.{StandsFor}
use Rattle.ir_model.specs.Names.{no_function}
use Rattle.ir_model.specs.declared.module.Function.{Function}
use Rattle.ir_model.specs.declared.module.Module.{Module}
use Rattle.pass_proofs.proofs.frames.numbers.Numbers.{number_given}
use Rattle.compiler.proofs.whole.lowered_sources.Coroutines.{IsFramedWell, framed_well}
use Rattle.pass_proofs.proofs.frames.unnamed.Positions.{Becomes, FramedBy, StandsAs, Unchanged, stands_as}
use Rattle.pass_proofs.proofs.ir_laws.facts.Truth.{not_both}
use Rattle.compiler.proofs.whole.lowered_sources.Sources.{early_rules}
use Rattle.pass_proofs.proofs.frames.headings.Headings.{framed_signatures}
use Rattle.pass_proofs.specs.rule_names.declared.stage.Stage.{Stage}
use Rattle.pass_frames.specs.Framed.{IsFramedForm, layout_at}
use Rattle.pass_proofs.proofs.rule_laws.rules.named_results.Named.{locals_tabled}
use Rattle.pass_proofs.specs.exits.states.Exits.{AreExitsKept}

module _ (text : List ℕ) (m : Module) (stands : StandsFor text m) (accepted : IsRefused Stage.Source m None) (share : Bool) (layouts : Layouts) (laid : AreLayouts m share (Ok layouts)) (n : Module) (form : IsFramedForm layouts (early_module m) n) where
  abbrev e : Module
  e = early_module m

  comes : (k : ℕ) (g : Function) → slice_get n.functions k ≡ Some g → StandsAs (early_module m) layouts.coroutines (early_module m).functions k g
  comes k g there = stands_as e layouts.coroutines form.functions.count e.functions n.functions form.functions.framed k g there

  well : (k : ℕ) (f g : Function) → slice_get (early_module m).functions k ≡ Some f → Becomes (early_module m) layouts.coroutines f g → g.coroutine ≡ true → IsFramedWell (early_module m) k g
  well k f _ there (Unchanged plain) c = absurd (not_both f.coroutine plain c)
  well k f g there (FramedBy taken _ marked framed) c = framed_well text m stands accepted share layouts laid k f there marked (layout_at layouts.coroutines taken) (number_given layouts.coroutines taken) g framed

  rules : (k : ℕ) (f g : Function) → slice_get (early_module m).functions k ≡ Some f → Becomes (early_module m) layouts.coroutines f g → KeepsFunctionRules n k g
  rules k f _ there (Unchanged plain) = go_by_signatures e n k f (framed_signatures layouts e n form) (early_rules text m stands accepted k f there)
  rules k f g there (FramedBy taken _ marked framed) =
      go_by_signatures e n k g (framed_signatures layouts e n form)
      (framed_well text m stands accepted share layouts laid k f there marked (layout_at layouts.coroutines taken) (number_given layouts.coroutines taken) g framed).kept.rules

  pub exits_kept : AreExitsKept n
  exits_kept k g there c =
      let x = comes k g there in
      let h = well k x.source g x.stands x.becomes c in
      record { rules = rules k x.source g x.stands x.becomes; switches = h.kept.shape.switches; jumps = h.jumps }

  pub locals_kept : AreLocalsNamed n
  locals_kept func = on (slice_get n.functions func) refl
    where
      on : (o : Option Function) → slice_get n.functions func ≡ o → HasNamedLocals (unwrap_or o no_function)
      on None d = record { params = tt; phis = tt; results = tt }
      on (Some g) d = let x = comes func g d in locals_tabled func g (rules func x.source g x.stands x.becomes).tabled
