-- Each alloca that a called activation has passed before begin has a slot of the activation's own.
use Rattle.std.specs.Prelude.{◌≡◌, ◌<◌, ℕ, List, [], ◌∷◌, None, Result, Ok, Err}
use Rattle.compiler.specs.flow_solver.Paths.{IsListed}
use Rattle.compiler.specs.ir_base.declared.cause.Cause.{Cause}
use Rattle.compiler.specs.ir_base.declared.outcome.Outcome.{Outcome}
use Rattle.compiler.specs.ir_model.Names.{function_at}
use Rattle.compiler.specs.ir_model.declared.module.Function.{Function}
use Rattle.compiler.specs.ir_model.declared.module.Module.{Module}
use Rattle.pass_frames_meaning.specs.Executed.{IsFirstMode}
use Rattle.pass_frames_meaning.specs.pass_renewed_proof.SlotRules.{IsMadeOnce}
use Rattle.compiler.specs.run_source.declared.state.Activation.{Activation}
use Rattle.compiler.specs.run_source.declared.state.State.{State}
use Rattle.compiler.specs.run_step.declared.world.Slot.{Slot}

-- ---- slots

-- one of these is a slot of the alloca
abbrev pub HasSlotOf : List Slot → ℕ → Type 0
HasSlotOf slots v = (slot : Slot) × IsListed slot slots × (slot.alloca ≡ v)

-- At a point of a function each alloca that was passed has a slot: in the entry block those before the point, and
-- elsewhere all of them.
abbrev pub ArePassedMade : Function → (block at : ℕ) → List Slot → Type 0
ArePassedMade f block at slots =
    (v : ℕ) (made : IsMadeOnce f v) → (block ≡ 0 → made.at < at) → HasSlotOf slots v

-- ---- states

-- of an activation that was called and hasn't begun
abbrev pub IsMadeIn : Module → Activation → Type 0
IsMadeIn m a =
    IsFirstMode a.mode → a.instance ≡ None → ArePassedMade (function_at m a.func) a.block a.at a.slots

abbrev pub AreMadeOn : Module → List Activation → Type 0
AreMadeOn m [] = Unit {0}
AreMadeOn m (a ∷ below) = IsMadeIn m a × AreMadeOn m below

-- while the run isn't over
abbrev pub IsMadeState : Module → State → Type 0
IsMadeState m s = s.outcome ≡ Outcome.Running → AreMadeOn m (s.top ∷ s.below)

-- what a part of a step gives, if it gives a state
abbrev pub StaysMade : Module → Result State Cause → Type 0
StaysMade m (Err cause) = Unit {0}
StaysMade m (Ok s) = IsMadeState m s
