-- The text of what is lowered stands for a module without coroutines that breaks no rule.
use Rattle.std.proofs.Common.{◌≡◌, inl, inr, ℕ, zero, suc, Bool, List, [], ◌∷◌, ◌<◌, sym, subst, refl, arith, Option, Some, None, Ok, Err}
use Rattle.std.specs.Prelude.{Result, IfOk, map, slice_get, ◌^◌}
use Rattle.text_canonical.specs.canonical.Items.{module_text}
use Rattle.ir_base.specs.declared.status.Options.{Options}
use Rattle.pass_proofs.specs.text_names.Spelling.{IsName}
use Rattle.pass_proofs.specs.flow_solver.Paths.{IsListed}
use Rattle.frame_layout.specs.declared.layout.Layout.{Layout}
use Rattle.frame_layout.specs.declared.layout.Layouts.{Layouts}
use Rattle.text_frame_lines.specs.Frames.{AreFrames}
use Rattle.pass_proofs.specs.rule_all.Refused.{IsRefused}
use Rattle.pass_proofs.specs.text_grammar.Text.{StandsFor}
use Rattle.ir_model.specs.declared.module.Function.{Function}
use Rattle.ir_model.specs.declared.module.Module.{Module}
use Rattle.text_printer.proofs.Behind.{stands_behind}
use Rattle.compiler.proofs.Done.{IsAccepted, lowering_holds}
use Rattle.compiler.proofs.NoCoroutine.{split_all_plain, split_calls_id}
use Rattle.compiler.specs.Lowering.{IsDone, IsLowering, OfLowered, frame_line, lowered_module, name_of}
use Rattle.compiler.specs.Printed.{AllFew, HasFewNames, IsReadPlain, StandsForPlain}
use Rattle.compiler.specs.declared.lowered.Lowered.{Lowered}
use Rattle.compiler.specs.declared.lowered.Lowering.{Lowering}
use Rattle.compiler.proofs.whole.Passed.{IsBounded, given_bounded, source_spelled}
use Rattle.compiler.proofs.whole.lowered_sources.Row.{all_accepted}
use Rattle.compiler.proofs.whole.names_apart.Lowered.{lowered_apart}
use Rattle.compiler.proofs.order.rules.Modules.{order_breaks_none}
use Rattle.compiler.proofs.whole.printed_forms.Lowered.{lowered_printable, lowered_shaped}
use Rattle.compiler.specs.whole.Passed.{AreFew}
use Rattle.text_canonical.proofs.order.Modules.{stands_in_order}
use Rattle.text_canonical.specs.order.Order.{module_order}
use Rattle.pass_proofs.specs.rule_names.declared.stage.Stage.{Stage}
use Rattle.text_canonical.specs.grammar.Bytes.{AreBytes}

-- frame lines can be written where names of functions are names and the numbers of layouts are small
named : (o : Option Function) → ((f : Function) → o ≡ Some f → IsName f.name) → IsName (name_of o)
named None names = omega arith
named (Some f) names = names f refl

wide : (n : ℕ) → n < 2 ^ 32 → n < 2 ^ 64
wide n h = omega arith

frames_are : (m : Module) (ls : List Layout) → ((k : ℕ) (f : Function) → slice_get m.functions k ≡ Some f → IsName f.name) → ((l : Layout) → IsListed l ls → IsBounded l) → AreFrames (map (frame_line m) ls)
frames_are m [] names bounded = tt
frames_are m (l ∷ ls) names bounded =
    let b = bounded l (inl refl) in
    ((named (slice_get m.functions l.coroutine) (λ f e. names l.coroutine f e), wide l.size b.size, wide l.align b.align, b.index), frames_are m ls names (λ k h. bounded k (inr h)))

few_at : (fs : List Function) → AllFew fs → (k : ℕ) (f : Function) → slice_get fs k ≡ Some f → AreFew f.names
few_at [] few k f e = absurd (cc)
few_at (g ∷ fs) few zero f e = let same : g ≡ f = cc in subst (λ (h : Function). AreFew h.names) same few.0
few_at (g ∷ fs) few (suc k) f e = few_at fs few.1 k f e

module _ (text : List ℕ) (bytes : AreBytes text) (m : Module) (stands : StandsFor text m) (share : Bool) (layouts : Layouts) (l : Lowered) (a : IsAccepted m share layouts) (d : IsDone m layouts l) where
  abbrev made : Module
  made = lowered_module layouts d.framed

  by_parts : AllFew made.functions → IsRefused Stage.Plain (module_order made) None × StandsFor (module_text made) (module_order made)
  by_parts few =
      let shaped = lowered_shaped text m bytes stands a.refused share layouts a.laid d.framed d.is_framed in
      let apart = lowered_apart text m stands a.refused layouts d.framed d.is_framed (few_at made.functions few) in
      let accepted = all_accepted text m stands a.refused share layouts a.laid d.framed d.is_framed (split_all_plain layouts d.framed) (split_calls_id layouts d.framed) in
      (order_breaks_none made shaped apart accepted, stands_in_order made shaped (lowered_printable text m bytes stands a.refused share layouts a.laid d.framed d.is_framed))

  frames : AreFrames (map (frame_line m) layouts.coroutines)
  frames = frames_are m layouts.coroutines (λ k f e. (source_spelled text m bytes stands k f e).name) (λ k h. given_bounded m share layouts a.laid k (inl h))

  done_is_read : AllFew l.«module».functions → StandsForPlain l.«module» l.text
  done_is_read = subst (λ (x : Lowered). AllFew x.«module».functions → StandsForPlain x.«module» x.text) (sym d.is) (λ few. record {
    stands = stands_behind (map (frame_line m) layouts.coroutines) (module_text made) (module_order made) frames (by_parts few).1;
    accepted = (by_parts few).0;
  })

together : (A B : Lowered → Type 0) (l : Lowering) → OfLowered (λ x. A x → B x) l → OfLowered A l → OfLowered B l
together A B (Lowering.Done x) h k = h k
together A B (Lowering.Syntax items) h k = tt
together A B (Lowering.Refused m rule place) h k = tt

both : {E : Type 0} (r : Result Lowering E) → IfOk r (λ l. OfLowered (λ x. AllFew x.«module».functions → StandsForPlain x.«module» x.text) l) → IfOk r (λ l. HasFewNames l) → IfOk r (λ l. IsReadPlain l)
both (Ok l) h k = together (λ x. AllFew x.«module».functions) (λ x. StandsForPlain x.«module» x.text) l h k
both (Err e) h k = h

pub lowering_is_read : {E : Type 0} (options : Options) (text : List ℕ) → AreBytes text → (r : Result Lowering E) → IfOk r (λ l. IsLowering options text l) → IfOk r (λ l. HasFewNames l) → IfOk r (λ l. IsReadPlain l)
lowering_is_read options text bytes r h few =
    both r (lowering_holds (λ x. AllFew x.«module».functions → StandsForPlain x.«module» x.text) options text (λ m stands share layouts l a d. done_is_read text bytes m stands share layouts l a d) r h) few
