-- The frame of each coroutine of a module, and what it holds, stay under the first pass.
use Rattle.std.proofs.Common.{◌≡◌, ℕ, Bool, true, List, refl, sym, subst, ◌∙◌, ◌↔◌}
use Rattle.std.specs.Prelude.{Result}
use Rattle.rule_laws.specs.frame_contents.Frames.{AreContents, IsFrame}
use Rattle.rule_laws.specs.frame_contents.declared.contents.Contents.{Contents}
use Rattle.rule_laws.specs.frame_contents.declared.held.Holding.{Holding}
use Rattle.pass_early_proof.proofs.early.renaming.Composition.{early_in_turn}
use Rattle.pass_early_proof.proofs.early.renaming.Rules.{all_regular}
use Rattle.pass_early_proof.specs.early.renaming.Passes.{named_module}
use Rattle.pass_early_proof.specs.early.renaming.Regular.{AllKeepRules}
use Rattle.pass_early_proof.proofs.early.frames.Functions.{first, first_is, in_first, second, second_is}
use Rattle.rule_laws.proofs.frames.alike_frames.Layouts.{HoldAlike, frame_forth, frame_home}
use Rattle.pass_early_proof.proofs.early.frames.Modules.{named_holds, plain_names, renamed_holds, saved_holds}
use Rattle.pass_early_proof.specs.early.frames.NoParams.{AreBeginsNoParams}
use Rattle.pass_early.specs.Early.{early_module, renaming_of}
use Rattle.pass_early_proof.proofs.early.meaning.Names.{named_locals, named_uses, renamed_locals, renamed_uses}
use Rattle.rule_laws.specs.frame_layout.declared.laying.LayoutError.{LayoutError}
use Rattle.rule_laws.specs.frame_layout.declared.layout.Layout.{Layout}
use Rattle.ir_model.specs.Names.{function_at}
use Rattle.ir_model.specs.declared.module.Function.{Function}
use Rattle.ir_model.specs.declared.module.Module.{Module}
use Rattle.pass_early_proof.proofs.early.saves.Parts.{function_saved}
use Rattle.pass_early_proof.specs.early.saves.SavesWritten.{saves_written}
use Rattle.rule_laws.proofs.ir_laws.paths.named_locals.Names.{tokens_named}
use Rattle.rule_laws.specs.ir_laws.facts.sound_states.Named.{AreLocalsNamed, AreUsesNamed}

contents_same : (m k : Module) (f g : Function) → HoldAlike m k f g → (c : Contents) → AreContents m f c ↔ AreContents k g c
contents_same m k f g alike c = (
  (λ h. record {
    crossing_are = (alike.crossing c.crossing).0 h.crossing_are;
    classes_are = (alike.classes c.classes).0 h.classes_are;
    held_are = h.held_are ∙ sym (alike.held c.classes c.crossing h.crossing_are);
    positions_are = h.positions_are;
  }),
  (λ h.
      let crossing = (alike.crossing c.crossing).1 h.crossing_are in
      record {
        crossing_are = crossing;
        classes_are = (alike.classes c.classes).1 h.classes_are;
        held_are = h.held_are ∙ alike.held c.classes c.crossing crossing;
        positions_are = h.positions_are;
      }),
)

module _ (m : Module) (locals : AreLocalsNamed m) (uses : AreUsesNamed m) (rules : AllKeepRules (named_module m)) (none : AreBeginsNoParams (named_module m)) (func : ℕ) (is : (function_at m func).coroutine ≡ true) where
  abbrev one : Module
  one = first m locals uses rules none func is

  abbrev two : Module
  two = second m locals uses rules none func is

  first_holds : HoldAlike m one (function_at m func) (function_at one func)
  first_holds = subst (HoldAlike m one (function_at m func)) (sym (first_is m locals uses rules none func is)) (named_holds m one refl (function_at m func) (locals func) (uses func).operands)

  second_holds : HoldAlike one two (function_at one func) (function_at two func)
  second_holds =
      let own = in_first m locals uses rules none func is in
      let regular = all_regular one rules func own in
      subst (HoldAlike one two (function_at one func)) (sym (second_is m locals uses rules none func is))
      (renamed_holds one two refl (function_at one func) (renaming_of (function_at one func)) regular (plain_names func (function_at one func) (rules func own) regular (none func own)))

  third_holds : HoldAlike two (saves_written two) (function_at two func) (function_at (saves_written two) func)
  third_holds =
      let named = renamed_locals one (named_locals m locals) in
      subst (HoldAlike two (saves_written two) (function_at two func)) (sym (function_saved two func))
      (saved_holds two (saves_written two) refl (function_at two func) (named func) (tokens_named two named (renamed_uses one rules (named_uses m uses)) func))

  -- what is the same of functions whose frames hold the same stays
  stays_held_by : (Q : Module → Function → Type 0) → ((a b : Module) (f g : Function) → HoldAlike a b f g → Q a f ↔ Q b g) → Q m (function_at m func) ↔ Q (early_module m) (function_at (early_module m) func)
  stays_held_by Q same =
      subst (λ (k : Module). Q m (function_at m func) ↔ Q k (function_at k func)) (sym (early_in_turn m)) (
        (λ h. third.0 (next.0 (start.0 h))),
        (λ h. start.1 (next.1 (third.1 h))),
      )
    where
      start : Q m (function_at m func) ↔ Q one (function_at one func)
      start = same m one (function_at m func) (function_at one func) first_holds

      next : Q one (function_at one func) ↔ Q two (function_at two func)
      next = same one two (function_at one func) (function_at two func) second_holds

      third : Q two (function_at two func) ↔ Q (saves_written two) (function_at (saves_written two) func)
      third = same two (saves_written two) (function_at two func) (function_at (saves_written two) func) third_holds

  pub contents_early : (c : Contents) → AreContents m (function_at m func) c ↔ AreContents (early_module m) (function_at (early_module m) func) c
  contents_early c = stays_held_by (λ k f. AreContents k f c) (λ a b f g alike. contents_same a b f g alike c)

  pub frames_early : (share : Bool) (number : ℕ) (held : List Holding) (result : Result Layout LayoutError) → IsFrame m share number (function_at m func) held result ↔ IsFrame (early_module m) share number (function_at (early_module m) func) held result
  frames_early share number held result =
      stays_held_by (λ k f. IsFrame k share number f held result)
      (λ a b f g alike. (frame_forth a b f g alike share number held result, frame_home a b f g alike share number held result))
