-- What a framed module keeps, so that states of its runs are known, and what is known of them.
use Rattle.std.specs.Prelude.{◌<◌, ◌^◌, ℕ}
use Rattle.pass_elide_proof.specs.Callers.{WakesByEdge}
use Rattle.pass_elide_proof.specs.Elision.{Elision, elided, elided_code, framed, function_in}
use Rattle.pass_elide_proof.specs.Match.{frame_size}
use Rattle.pass_elide_proof.specs.PlacingStates.{HaveShapes, IsKnownState}
use Rattle.pass_elide_proof.specs.Sound.{KnowsAllocas}
use Rattle.pass_elide_runs.specs.Calls.{HaveCallsBelow}
use Rattle.pass_elide_runs.specs.Ends.{EndsOnce, GoOnTillEnd}
use Rattle.pass_elide_runs.specs.Kinds.{HaveSlotKinds}
use Rattle.pass_elide_runs.specs.Marks.{HasPlainAllocas, MarksAllocas}
use Rattle.pass_elide_runs.specs.Modes.{KnowModes}
use Rattle.pass_elide_runs.specs.Slots.{AllocasFirst, HaveItsSlots, NamesAllocas}
use Rattle.pass_elide_runs.specs.Standing.{StandWhereLed}
use Rattle.pass_elide_proof.specs.pass_proofs.edges.rules.Returns.{AreSwitched}
use Rattle.pass_elide_proof.specs.pass_proofs.run_source.declared.state.State.{State}
use Rattle.run_hooks.specs.Away.{IsPlacedState, KeepsAllPlaceRules}
use Rattle.run_hooks.specs.Meanings.{framed_hooks}
use Rattle.run_hooks.specs.Reached.{AllHaveSwitches}
use Rattle.run_types.specs.Rules.{KeepsAllTypes}

pub record KeepsRuns (e : Elision) : Type 0 where
  -- K3, K6: a suspend is followed at once by its switch
  pub switches : AllHaveSwitches e.code
  pub switched : (func : ℕ) → AreSwitched (function_in e func)
  -- K3, K5, K6: where saves, suspends and ends stand
  pub places : KeepsAllPlaceRules (framed e).given
  pub ends : (func : ℕ) → EndsOnce (function_in e func)
  -- F1, F3: allocas stand in the entry block
  pub allocas : (func : ℕ) → AllocasFirst (function_in e func)
  -- N1: each alloca gives its name alone
  pub named : (func : ℕ) → NamesAllocas (function_in e func)
  -- names of allocas are none of those that a shape tells
  pub plain : (func : ℕ) → HasPlainAllocas e func
  -- K13: a marker marks an alloca
  pub marks : (func : ℕ) → MarksAllocas (function_in e func)
  -- each alloca is among the facts of both modules
  pub known : KnowsAllocas (framed e)
  pub known_giving : KnowsAllocas (elided e)
  -- Y1, Y2: operands are of their types
  pub types : KeepsAllTypes e.code
  -- K12: frames are small
  pub small : (func : ℕ) → frame_size e func < 2 ^ 32

-- a state of the framed run
pub record KnowsFramed (e : Elision) (s : State) : Type 0 where
  pub known : IsKnownState e.code s
  pub led : StandWhereLed e.code s
  pub placed : IsPlacedState (framed_hooks (framed e)) s
  pub modes : KnowModes e.code s
  pub goes : GoOnTillEnd e.code s
  pub calls : HaveCallsBelow e.code s
  pub slots : HaveItsSlots e.code s
  pub kinds : HaveSlotKinds e.code s
  pub wakes : WakesByEdge e s

-- a state of the run that gives frames
pub record KnowsGiving (e : Elision) (t : State) : Type 0 where
  pub known : IsKnownState (elided_code e) t
  pub led : StandWhereLed e.code t
  pub shapes : HaveShapes e t
  pub modes : KnowModes (elided_code e) t
  pub calls : HaveCallsBelow (elided_code e) t
  pub slots : HaveItsSlots (elided_code e) t
  pub wakes : WakesByEdge e t
