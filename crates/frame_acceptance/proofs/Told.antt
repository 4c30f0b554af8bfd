-- What comes of a module, where its first broken rule and the first frame that is too large are told.
use Rattle.std.proofs.Common.{◌≡◌, ℕ, ◌<◌, ◌≤◌, Bool, false, Option, Ok, Err, sym, subst, ◌∙◌}
use Rattle.std.specs.Prelude.{Result, IfOk, IsTrue}
use Rattle.frame_bounds.specs.frame_contents.Frames.{AreLayouts}
use Rattle.frame_bounds.specs.Bounds.{NoneTooLarge}
use Rattle.frame_layout.specs.declared.layout.Layouts.{Layouts}
use Rattle.rule_all.specs.Refused.{IsRefused}
use Rattle.ir_model.specs.declared.module.Module.{Module}
use Rattle.frame_acceptance.specs.Acceptance.{AreAllFine, AreFine, ComesAlone, ComesBefore, ComesFor, ComesOf, IsAcceptance, IsRefusedFor, IsTooLarge}
use Rattle.frame_acceptance.specs.Order.{looked_at, too_large}
use Rattle.frame_acceptance.specs.declared.accepting.Acceptance.{Acceptance}
use Rattle.rule_modules.specs.declared.order.Refusal.{Refusal}
use Rattle.rule_names.specs.declared.stage.Stage.{Stage}

-- ---- K12 and another refusal

pub large_before : (m : Module) (r told : Refusal) (func count : ℕ) → count ≡ looked_at r → func < count → IsTooLarge m false func → told ≡ too_large func → ComesBefore m r told
large_before m r told func count is lt large same =
    subst (ComesBefore m r) (sym same) (ComesBefore.Large func (subst (λ (n : ℕ). func < n) is lt) large)

pub large_later : (m : Module) (r : Refusal) (func count : ℕ) → count ≡ looked_at r → count ≤ func → IsTooLarge m false func → ComesBefore m r r
large_later m r func count is le large = ComesBefore.Same (AreFine.Later func (subst (λ (n : ℕ). n ≤ func) is le) large)

pub none_large : (m : Module) (r : Refusal) (layouts : Layouts) → AreLayouts m false (Ok layouts) → ComesBefore m r r
none_large m r layouts laid = ComesBefore.Same (AreFine.All layouts laid)

pub none_before : (m : Module) (r : Refusal) (count : ℕ) → count ≡ looked_at r → count ≡ 0 → ComesBefore m r r
none_before m r count is none = ComesBefore.Same (AreFine.NoneThere (sym is ∙ none))

-- ---- K12 alone

pub large_alone : (m : Module) (share : Bool) (func : ℕ) (told : Refusal) → IsTooLarge m share func → told ≡ too_large func → ComesAlone m share told
large_alone m share func told large same = subst (ComesAlone m share) (sym same) (ComesAlone.Large func large)

-- ---- all rules

pub accepted_by : {E : Type 0} (m : Module) (share : Bool) (refusal : Option Refusal) (r : Result Acceptance E) → IsRefused Stage.Source m refusal → IfOk r (ComesOf m share refusal) → IfOk r (IsAcceptance m share)
accepted_by m share refusal (Ok a) refused comes = record { refusal = refusal; refused = refused; comes = comes }
accepted_by m share refusal (Err e) refused comes = comes

-- ---- a refusal without layouts

pub all_laid : (m : Module) (layouts : Layouts) → AreLayouts m false (Ok layouts) → AreAllFine m
all_laid m layouts laid = AreAllFine.Laid layouts laid

pub all_small : (m : Module) (small : Bool) → (IsTrue small → NoneTooLarge m) → IsTrue small → AreAllFine m
all_small m small h is = AreAllFine.NoneLarge (h is)

pub small_before : (m : Module) (r : Refusal) (small : Bool) → (IsTrue small → NoneTooLarge m) → IsTrue small → ComesBefore m r r
small_before m r small h is = ComesBefore.Same (AreFine.NoneLarge (h is))

pub refused_as : {E : Type 0} (m : Module) (refusal : Option Refusal) (r : Result (Option Refusal) E) → IsRefused Stage.Source m refusal → IfOk r (ComesFor m refusal) → IfOk r (IsRefusedFor m)
refused_as m refusal (Ok told) refused comes = record { refusal = refusal; refused = refused; comes = comes }
refused_as m refusal (Err e) refused comes = comes
