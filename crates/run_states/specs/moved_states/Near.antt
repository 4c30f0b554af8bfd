-- What a framed step gives, and one of the module whose functions have blocks on some of their edges; and what holds in each state.
use Rattle.std.specs.Prelude.{ℕ, ℤ, false, List, [], Ok, Err, Option, None, Result, is_none, ◌≡◌, ◌⊎◌, ◌∷◌}
use Rattle.ir_laws.specs.ir_base.declared.cause.Cause.{Cause}
use Rattle.ir_laws.specs.ir_base.declared.outcome.Outcome.{Outcome}
use Rattle.ir_laws.specs.run_source.declared.state.Activation.{Activation}
use Rattle.ir_laws.specs.run_source.declared.state.Mode.{Mode}
use Rattle.ir_laws.specs.run_source.declared.state.State.{State}
use Rattle.run_states.specs.sound_states.Sound.{IsSound}
use Rattle.frame_layout.specs.declared.layout.Layout.{Layout}
use Rattle.run_framed.specs.Framed.{framed_given, framed_step}
use Rattle.ir_laws.specs.ir_model.Names.{function_at, position_of}
use Rattle.ir_laws.specs.ir_model.declared.module.Module.{Module}
use Rattle.run_states.specs.moved_states.MovedState.{moved_module, moved_state}
use Rattle.run_states.specs.moved_states.Moving.{Moving}

-- u shows what s shows, and its next step comes to where s is then
pub record IsBefore (mv : Moving) (m : Module) (layouts : List Layout) (answers : List ℤ) (s u : State) : Type 0 where
  pub running : u.outcome ≡ Outcome.Running
  pub world : u.world ≡ s.world
  pub goes_on : framed_step (framed_given (moved_module mv m) layouts answers) u ≡ moved_state mv m s

-- the same cause; or the state where the other one is then, or a step before it
abbrev pub IsNear : Moving → Module → List Layout → List ℤ → Result State Cause → Result State Cause → Type 0
IsNear mv m layouts answers (Err c) (Err d) = d ≡ c
IsNear mv m layouts answers (Err c) (Ok u) = ⊥
IsNear mv m layouts answers (Ok s) (Err d) = ⊥
IsNear mv m layouts answers (Ok s) (Ok u) = (u ≡ moved_state mv m s) ⊎ IsBefore mv m layouts answers s u

-- an activation of a function that executes its allocas before it enters a block was resumed, and the block is moved
pub record IsEntering (mv : Moving) (m : Module) (func : ℕ) (instance result : Option ℕ) (label : ℕ) : Type 0 where
  pub resumed : is_none instance ≡ false
  pub returns : result ≡ None
  pub found : position_of (mv.to (function_at m func)) label ≡ mv.spot (function_at m func) (position_of (function_at m func) label)

abbrev pub EntersBy : Moving → Module → ℕ → Option ℕ → Option ℕ → Mode → Type 0
EntersBy mv m func instance result (Mode.Entering from label) = IsEntering mv m func instance result label
EntersBy mv m func instance result mode = Unit {0}

abbrev pub Enters : Moving → Module → Activation → Type 0
Enters mv m a = EntersBy mv m a.func a.instance a.result a.mode

abbrev pub EnterAll : Moving → Module → List Activation → Type 0
EnterAll mv m [] = Unit {0}
EnterAll mv m (a ∷ below) = Enters mv m a × EnterAll mv m below

-- what holds in each state of a framed run
pub record HoldsIn (mv : Moving) (m : Module) (s : State) : Type 0 where
  pub sound : IsSound m s
  pub top : Enters mv m s.top
  pub below : EnterAll mv m s.below
