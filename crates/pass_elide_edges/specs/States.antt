-- What is known of both states where the framed run stands at the end of a block.
use Rattle.std.specs.Prelude.{◌≡◌, ◌≢◌, ◌⊎◌, ℕ, Bool, true, false, List, [], ◌∷◌, length, slice_get, Some}
use Rattle.pass_elide_edges.specs.Keeping.{HasEdge}
use Rattle.pass_elide_proof.specs.EdgesFreeing.{FreesAside, FreesFrame}
use Rattle.pass_elide_proof.specs.Elision.{Elision, Shape, elided_code, framed, function_in}
use Rattle.pass_elide_proof.specs.Match.{Sides, is_given_mode, sides, was_given}
use Rattle.pass_elide_proof.specs.OwnSlots.{CountsSlots}
use Rattle.pass_elide_proof.specs.PlacingStates.{IsKnownState}
use Rattle.pass_elide_proof.specs.Shapes.{AsksForFrame}
use Rattle.pass_elide_proof.specs.Sound.{IsSoundState}
use Rattle.pass_elide_proof.specs.pass_proofs.flow_blocks.Reach.{IsReached as IsReachedBlock}
use Rattle.pass_elide_proof.specs.pass_proofs.ir_model.Names.{function_at, position_of}
use Rattle.pass_elide_proof.specs.pass_proofs.ir_model.declared.module.Function.{Function}
use Rattle.pass_elide_proof.specs.pass_proofs.ir_model.declared.module.Module.{Module}
use Rattle.pass_elide_proof.specs.pass_proofs.run_framed.Framed.{is_given}
use Rattle.pass_elide_proof.specs.pass_proofs.run_source.declared.state.Activation.{Activation}
use Rattle.pass_elide_proof.specs.pass_proofs.run_source.declared.state.Instance.{Instance}
use Rattle.pass_elide_proof.specs.pass_proofs.run_source.declared.state.State.{State}
use Rattle.run_slots.specs.Slots.{IsSlottedState}

-- ---- one state

-- an activation of a function that is no coroutine has no slots at its first place
pub record StartsBare (m : Module) (s : State) : Type 0 where
  pub slots : (function_at m s.top.func).coroutine ≡ false → s.top.block ≡ 0 → s.top.at ≡ 0 → s.top.slots ≡ []

-- no edge leads to an entry block
abbrev pub EntersNoStart : Module → Type 0
EntersNoStart m =
    (func block label : ℕ) → HasEdge (function_at m func) block label
    → position_of (function_at m func) label ≢ 0

-- of the framed run
pub record EndsFramed (e : Elision) (s : State) : Type 0 where
  pub known : IsKnownState e.code s
  pub sound : IsSoundState (framed e) s
  pub slotted : IsSlottedState s

-- of the framed run, whose topmost activation stands in a block to which a path leads
pub record EndsReached (e : Elision) (s : State) : Type 0 where
  pub ends : EndsFramed e s
  pub reached : IsReachedBlock (function_in e s.top.func) (0 ∷ []) [] s.top.block

-- of the run that gives frames
pub record EndsElided (e : Elision) (t : State) : Type 0 where
  pub known : IsKnownState (elided_code e) t
  pub slots : CountsSlots t
  pub bare : StartsBare (elided_code e) t

-- ---- two activations

-- Where a frame is allocated or freed in the framed run alone, activations are in blocks of their own only as the
-- relation says. The framed run's is in the first block.
pub record ApartIn (f : Function) (x : Shape) (ramp given : Bool) (block other : ℕ) : Type 0 where
  -- beside a ramp that was given its frame the framed one isn't in the block that passes by the allocator's
  pub beside : ramp ≡ true → (k : AsksForFrame f x) → block ≢ k.beside
  -- nor is that ramp in the block behind the allocator's
  pub after : ramp ≡ true → (k : AsksForFrame f x) → other ≢ k.after
  -- other activations aren't in these two blocks at once
  pub asked : ramp ≡ false → (k : AsksForFrame f x) → block ≡ k.after → other ≢ k.beside
  -- beside one whose frame was given the framed one isn't in the block beside that which frees
  pub tested : given ≡ true → (q : FreesFrame f x) → FreesAside f x q.after q.beside → block ≢ q.beside
  -- nor is that one in the block behind that which frees
  pub freed : given ≡ true → (q : FreesFrame f x) → FreesAside f x q.after q.beside → other ≢ q.after

-- so two activations stand
abbrev pub StandApart : Elision → Sides → Activation → Activation → Type 0
StandApart e d a c =
    ApartIn (function_in e a.func) (e.shape a.func) (is_given_mode c.mode) (was_given d c) a.block c.block

-- and two stacks of them, as far as both go
abbrev pub StandAllApart : Elision → Sides → List Activation → List Activation → Type 0
StandAllApart e d [] cs = Unit {0}
StandAllApart e d (a ∷ more) [] = Unit {0}
StandAllApart e d (a ∷ more) (c ∷ cs) = StandApart e d a c × StandAllApart e d more cs

-- all pairs of activations of two states do
abbrev pub AllStandApart : Elision → State → State → Type 0
AllStandApart e s t = StandAllApart e (sides s t) (s.top ∷ s.below) (t.top ∷ t.below)

-- ---- given frames

-- an instance of a state whose frame was given
pub record WasGivenAt (t : State) (number : ℕ) : Type 0 where
  pub instance : Instance
  pub there : slice_get t.instances number ≡ Some instance
  pub given : is_given t.world.memory instance ≡ true

-- What was given its frame in the later state was so before, or it is the newest one and the topmost activation was a
-- ramp that was given its frame.
pub record WereGiven (t u : State) : Type 0 where
  pub each : (number : ℕ) (y : Instance) → slice_get u.instances number ≡ Some y → is_given u.world.memory y ≡ true
      → WasGivenAt t number ⊎ ((number ≡ length t.instances) × (is_given_mode t.top.mode ≡ true))
