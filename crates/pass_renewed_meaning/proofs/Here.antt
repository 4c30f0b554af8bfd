-- A state of the first run and one beside it, with all that is known there.
use Rattle.std.proofs.Common.{◌≡◌, ℕ, List, Some, Result, Ok}
use Rattle.std.proofs.Common.{sym, ap, ◌∙◌, subst, ⊎_elim}
use Rattle.std.specs.Prelude.{slice_get}
use Rattle.run_types.specs.ir_base.declared.cause.Cause.{Cause}
use Rattle.run_types.specs.ir_base.declared.outcome.Outcome.{Outcome}
use Rattle.run_types.specs.ir_model.Names.{function_at}
use Rattle.run_types.specs.ir_model.declared.module.Function.{Function}
use Rattle.run_types.specs.pass_kept_proof.Kept.{continue_keeping}
use Rattle.run_types.specs.run_source.Source.{act, context_of}
use Rattle.run_types.specs.run_source.State.{work_of}
use Rattle.run_types.specs.run_source.declared.state.Instance.{Instance}
use Rattle.run_types.specs.run_source.declared.state.State.{State}
use Rattle.run_types.specs.run_step.Step.{Action, Fetched, action_of, fetch}
use Rattle.run_types.specs.run_step.Values.{Env}
use Rattle.run_types.specs.run_step.declared.world.Slot.{Slot}
use Rattle.pass_renewed_meaning.proofs.OneStep.{IsOneStep}
use Rattle.pass_renewed_meaning.proofs.Outdone.{HaveBegun, asleep, has_instance, have_begun, outdone, same_coroutine}
use Rattle.pass_renewed_meaning.specs.Rules.{KeepsAll, Setting}
use Rattle.pass_renewed_meaning.specs.Runs.{IsOfRun, first_given, second_given}
use Rattle.run_types.specs.pass_renewed_proof.Beside.{AreOutdone, HasLeftSuspended, IsBeside}
use Rattle.run_types.specs.pass_renewed_proof.Making.{HasInstance}
use Rattle.run_types.specs.pass_renewed_proof.SlotRules.{KeepsSlots}

-- the second state has the first's topmost activation but for its values and slots
pub record Here (c : Setting) : Type 0 where
  pub all : KeepsAll c
  pub s : State
  pub t : State
  pub values : Env
  pub slots : List Slot
  pub beside : IsBeside c.code c.flags c.roots s (record t { top = record s.top { values = values; slots = slots } })
  pub runs : s.outcome ≡ Outcome.Running
  pub run : IsOfRun c s

module _ (c : Setting) (x : Here c) where
  abbrev pub other : State
  other = record x.t { top = record x.s.top { values = x.values; slots = x.slots } }

  abbrev pub f : Function
  f = function_at c.code x.s.top.func

  abbrev pub here : Fetched
  here = fetch (function_at c.code x.s.top.func) x.s.top.block x.s.top.at

  abbrev pub keeps : (func : ℕ) → KeepsSlots c.code (function_at c.code func) (c.flags func) (c.roots func)
  keeps func = x.all.slots.each func

  -- ---- the others

  pub begun_below : HaveBegun x.s.below
  begun_below = have_begun c.code c.flags c.roots x.beside.ledger x.s.instances x.s.world.memory x.t.world.memory
      x.s.top.result x.s.below x.t.below x.beside.below

  pub none_below : AreOutdone x.s.instances x.s.top x.s.below
  none_below = outdone x.s.instances x.s.top x.beside.top.begins x.run.last.0 x.s.below x.run.last.1 begun_below

  pub left_asleep : HasLeftSuspended x.s.instances x.s.top
  left_asleep = asleep x.s.instances x.s.top x.run.last.0

  pub owns : HasInstance x.s.instances x.s.top
  owns = has_instance x.s.instances x.s.top x.run.last.0

  pub own_coroutine : (i : ℕ) (y : Instance) → x.s.top.instance ≡ Some i → slice_get x.s.instances i ≡ Some y
      → y.coroutine ≡ x.s.top.func
  own_coroutine i y own there = same_coroutine x.s.instances i x.s.top.func y (x.run.reached.top.own i own) there

  -- ---- a case

  -- what both runs work on
  abbrev pub first_action : Fetched → Action
  first_action z = action_of (context_of (first_given c) x.s) (work_of x.s) z

  abbrev pub second_action : Fetched → Action
  second_action z = action_of (context_of (second_given c).given other) (work_of other) z

  abbrev pub first_act : Action → Result State Cause
  first_act a = act (first_given c) (continue_keeping (first_given c) c.keep) x.s a

  -- where this stands at the place, and the first run does something, the second does so too
  abbrev pub IsCase : Fetched → Type 0
  IsCase z = fetch (function_at c.code x.s.top.func) x.s.top.block x.s.top.at ≡ z → (after : State)
      → act (first_given c) (continue_keeping (first_given c) c.keep) x.s (action_of (context_of (first_given c) x.s)
      (work_of x.s) z) ≡ Ok after → IsOneStep (second_given c) other z (first_given c) after
