-- What becomes of a module that is looked at for all rules.
use Rattle.std.specs.Prelude.{◌≡◌, ℕ, Bool, false, ◌<◌, ◌≤◌, Some, None, Option, Ok, Err}
use Rattle.frame_bounds.specs.frame_contents.Frames.{AreLayouts}
use Rattle.frame_bounds.specs.frame_contents.declared.module_frames.LayoutsError.{LayoutsError}
use Rattle.frame_bounds.specs.Bounds.{NoneTooLarge}
use Rattle.frame_layout.specs.declared.layout.Layouts.{Layouts}
use Rattle.rule_all.specs.Refused.{IsRefused}
use Rattle.ir_model.specs.declared.module.Module.{Module}
use Rattle.frame_acceptance.specs.Order.{looked_at, too_large}
use Rattle.frame_acceptance.specs.declared.accepting.Acceptance.{Acceptance}
use Rattle.rule_modules.specs.declared.order.Refusal.{Refusal}
use Rattle.rule_names.specs.declared.stage.Stage.{Stage}

-- the first function whose frame is too large
abbrev pub IsTooLarge : Module → Bool → ℕ → Type 0
IsTooLarge m share func = AreLayouts m share (Err (LayoutsError.TooLarge func))

-- Of the first functions, so many, none has too large a frame: there are none, all frames of the module have plain layouts, the
-- first that is too large comes later, or none of the module is.
pub data AreFine (m : Module) (count : ℕ) : Type 0 where
  NoneThere : count ≡ 0 → AreFine m count
  All : (layouts : Layouts) → AreLayouts m false (Ok layouts) → AreFine m count
  Later : (func : ℕ) → count ≤ func → IsTooLarge m false func → AreFine m count
  NoneLarge : NoneTooLarge m → AreFine m count

-- Where another rule is broken first: K12 at a function that is looked at before, or else that refusal.
pub data ComesBefore (m : Module) (refusal : Refusal) : Refusal → Type 0 where
  Large : (func : ℕ) → func < looked_at refusal → IsTooLarge m false func → ComesBefore m refusal (too_large func)
  Same : AreFine m (looked_at refusal) → ComesBefore m refusal refusal

-- Where no other rule is broken: K12 at the first function whose frame is too large.
pub data ComesAlone (m : Module) (share : Bool) : Refusal → Type 0 where
  Large : (func : ℕ) → IsTooLarge m share func → ComesAlone m share (too_large func)

-- what comes of a module whose first broken rule, but for K12, is told
abbrev pub ComesOf : Module → Bool → Option Refusal → Acceptance → Type 0
ComesOf m share (Some refusal) (Acceptance.Refused told) = ComesBefore m refusal told
ComesOf m share (Some refusal) (Acceptance.Accepted layouts) = ⊥
ComesOf m share None (Acceptance.Refused told) = ComesAlone m share told
ComesOf m share None (Acceptance.Accepted layouts) = AreLayouts m share (Ok layouts)

-- what an acceptance refuses for
abbrev pub refusal_of : Acceptance → Option Refusal
refusal_of (Acceptance.Refused refusal) = Some refusal
refusal_of (Acceptance.Accepted layouts) = None

-- a source is refused for the first broken rule at its first place, or accepted, with the layouts of its frames
pub record IsAcceptance (m : Module) (share : Bool) (a : Acceptance) : Type 0 where
  pub refusal : Option Refusal
  pub refused : IsRefused Stage.Source m refusal
  pub comes : ComesOf m share refusal a

-- ---- a refusal without layouts

-- No frame of the module is too large: all have plain layouts, or none can be.
pub data AreAllFine (m : Module) : Type 0 where
  Laid : (layouts : Layouts) → AreLayouts m false (Ok layouts) → AreAllFine m
  NoneLarge : NoneTooLarge m → AreAllFine m

-- what a module is refused for whose first broken rule, but for K12, is told
abbrev pub ComesFor : Module → Option Refusal → Option Refusal → Type 0
ComesFor m (Some refusal) (Some told) = ComesBefore m refusal told
ComesFor m (Some refusal) None = ⊥
ComesFor m None (Some told) = ComesAlone m false told
ComesFor m None None = AreAllFine m

-- a source is refused for the first broken rule, K12 among them, or for none
pub record IsRefusedFor (m : Module) (told : Option Refusal) : Type 0 where
  pub refusal : Option Refusal
  pub refused : IsRefused Stage.Source m refusal
  pub comes : ComesFor m refusal told
