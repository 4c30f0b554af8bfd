-- The text that lowering gives stands for a module whose runs agree with the source's.
use Rattle.std.proofs.Common.{◌≡◌, ℕ, zero, suc, Bool, List, [], ◌∷◌, ◌<◌, Some, Ok, sym, subst}
use Rattle.std.specs.Prelude.{◌^◌, slice_get}
use Rattle.compiler.proofs.Done.{IsAccepted, lowering_holds}
use Rattle.compiler.proofs.Printed.{lowering_is_read}
use Rattle.compiler.specs.Lowering.{IsDone, IsLowering, lowered_by}
use Rattle.compiler.specs.Printed.{AllFew}
use Rattle.compiler.specs.declared.lowered.Lowered.{Lowered as Given}
use Rattle.compiler.specs.declared.lowered.Lowering.{Lowering}
use Rattle.compiler.specs.whole.Passed.{AreFew}
use Rattle.compiler_theorem.proofs.theorem.Whole.{runs_kept, runs_within}
use Rattle.compiler_theorem.specs.theorem.Lowered.{IsLowered}
use Rattle.compiler.specs.pass_early.Early.{early_module}
use Rattle.compiler.specs.pass_frames.Framed.{IsFramedForm}
use Rattle.compiler_theorem.specs.theorem.Texts.{KeepsTexts, lowering_of}
use Rattle.compiler.specs.frame_layout.declared.layout.Layouts.{Layouts}
use Rattle.compiler.specs.ir_base.declared.status.Options.{Options}
use Rattle.compiler.specs.ir_model.declared.module.Function.{Function}
use Rattle.compiler.specs.ir_model.declared.module.Module.{Module}
use Rattle.compiler.specs.text_canonical.grammar.Bytes.{AreBytes}
use Rattle.compiler.specs.text_canonical.order.Order.{module_order}
use Rattle.compiler.specs.text_grammar.Text.{StandsFor}
use Rattle.std.specs.Prelude.{length}

few_in : (fs : List Function) → AllFew fs → (k : ℕ) (f : Function) → slice_get fs k ≡ Some f → AreFew f.names
few_in [] few k f e = absurd (cc)
few_in (g ∷ fs) few zero f e = let same : g ≡ f = cc in subst (λ (h : Function). AreFew h.names) same few.0
few_in (g ∷ fs) few (suc k) f e = few_in fs few.1 k f e

module _ (text : List ℕ) (bytes : AreBytes text) (short : length text < 2 ^ 31) (m : Module) (stands : StandsFor text m)
    (share : Bool) (layouts : Layouts) (accepted : IsAccepted m share layouts) where
  module _ (framed : Module) (is_framed : IsFramedForm layouts (early_module m) framed)
      (few : AllFew (lowered_by m layouts framed).«module».functions) where
    abbrev given : Given
    given = lowered_by m layouts framed

    low : IsLowered (lowering_of text share (lowered_by m layouts framed))
    low = record {
      source = record { bytes = bytes; stands = stands; accepted = accepted.refused };
      laid = accepted.laid;
      is_framed = is_framed;
      few = few_in given.«module».functions few;
    }

    by_parts : StandsFor (lowered_by m layouts framed).text (module_order (lowered_by m layouts framed).«module»)
        → KeepsTexts text (lowered_by m layouts framed)
    by_parts printed = record {
      stands = stands;
      printed = printed;
      runs = record {
        each = λ r other entry fits. (runs_kept (lowering_of text share given) low short r other entry fits).agrees;
      };
      lowered = record {
        each = λ r other entry fits. runs_within (lowering_of text share given) low short r other entry fits;
      };
    }

  pub text_kept : (l : Given) → IsDone m layouts l → StandsFor l.text (module_order l.«module»)
      → AllFew l.«module».functions → KeepsTexts text l
  text_kept l d =
      subst (λ (y : Given). StandsFor y.text (module_order y.«module») → AllFew y.«module».functions
      → KeepsTexts text y) (sym d.is) (λ p f. by_parts d.framed d.is_framed f p)

pub texts_kept : (options : Options) (text : List ℕ) → AreBytes text → length text < 2 ^ 31 → (l : Given)
    → IsLowering options text (Lowering.Done l) → AllFew l.«module».functions → KeepsTexts text l
texts_kept options text bytes short l h few =
    (lowering_holds {E = Unit {0}} (λ x. StandsFor x.text (module_order x.«module») → AllFew x.«module».functions
    → KeepsTexts text x) options text
    (λ m stands share layouts x accepted d. text_kept text bytes short m stands share layouts accepted x d) (Ok (Lowering.Done l)) h)
    (lowering_is_read {E = Unit {0}} options text bytes (Ok (Lowering.Done l)) h few).stands few
