-- What is asked of the two modules between which frames are built, and what is known of states of both runs.
use Rattle.std.specs.Prelude.{◌≡◌, ◌∷◌, ℕ, Bool, false, true, List, Option}
use Rattle.pass_frames_proof.specs.ir_laws.facts.sound_states.Named.{AreUsesNamed}
use Rattle.pass_frames_proof.specs.ir_model.Names.{function_at}
use Rattle.pass_frames_proof.specs.ir_model.Ty.{Ty}
use Rattle.pass_frames_proof.specs.ir_model.declared.instr.Instr.{Instr}
use Rattle.pass_frames_proof.specs.ir_model.declared.instr.Terminator.{Terminator}
use Rattle.pass_frames_proof.specs.ir_model.declared.operand.Arg.{Arg}
use Rattle.pass_frames_proof.specs.ir_paths.Windows.{windows_of}
use Rattle.pass_frames_meaning.specs.Called.{IsCalledState}
use Rattle.pass_frames_meaning.specs.Spared.{AreFieldsApart}
use Rattle.pass_frames_proof.specs.Asking.{IsPromiseLaid}
use Rattle.pass_frames_proof.specs.Lined.{GivesNone}
use Rattle.pass_frames_proof.specs.Marking.{IsWholeMarked, marking}
use Rattle.pass_frames_proof.specs.Places.{edged}
use Rattle.pass_frames_proof.specs.Related.{AreBuiltOf, Building, is_coroutine}
use Rattle.pass_frames_proof.specs.Returning.{FitsResult, given_value}
use Rattle.pass_frames_proof.specs.Stepping.{AreGiven, HasFieldIndices, IsNotEntering}
use Rattle.pass_renewed_meaning.specs.Rules.{KeepsStepRules}
use Rattle.pass_frames_proof.specs.pass_renewed_proof.Renewed.{RenewedGiven}
use Rattle.pass_frames_proof.specs.rule_laws.frames.rows.Returns.{HaveOwnReturns}
use Rattle.pass_frames_proof.specs.rule_laws.rules.function_rules.Kept.{AllKeepFunctionRules}
use Rattle.pass_frames_proof.specs.run_source.State.{function_of}
use Rattle.pass_frames_proof.specs.run_source.declared.state.Activation.{Activation}
use Rattle.pass_frames_proof.specs.run_source.declared.state.State.{State}
use Rattle.pass_frames_proof.specs.run_source_tables.Given.{facts_at, frame_of}
use Rattle.run_slots.specs.Slots.{IsSlottedState}
use Rattle.pass_frames_proof.specs.run_states.sound_states.Sound.{IsSound}
use Rattle.pass_frames_proof.specs.run_step.Step.{AtInstr, AtTerm, fetch}
use Rattle.pass_frames_proof.specs.run_step.declared.world.Slot.{Slot}
use Rattle.pass_renewed_meaning.specs.run_types.Rules.{KeepsAllTypes}
use Rattle.pass_renewed_meaning.specs.run_types.States.{IsFittingState}

-- the two modules, and what both runs are given
pub record Setting : Type 0 where
  pub b : Building
  pub g : RenewedGiven

-- of an accepted source, with blocks on its edges
pub record KeepsAll (c : Setting) : Type 0 where
  pub given : AreGiven c.b c.g
  -- no function breaks a rule of functions
  pub rules : AllKeepFunctionRules c.g.given.code
  -- each operand is a name of the table; blocks on edges keep this
  pub uses : AreUsesNamed c.g.given.code
  pub steps : (func : ℕ) → KeepsStepRules c.g.given.code (function_at c.g.given.code func)
  pub types : KeepsAllTypes c.g.given.code
  pub same_types : c.b.framed_code.types ≡ c.g.given.code.types
  -- Y1, and structures of few fields
  pub fields : (func block at : ℕ) (i : Instr) → fetch (function_at c.g.given.code func) block at ≡ AtInstr i
      → HasFieldIndices c.g.given.code i
  -- N3: no call gives a frame
  pub ungiven : (func block at : ℕ) (i : Instr) → fetch (function_at c.g.given.code func) block at ≡ AtInstr i
      → GivesNone c.b.framed_code i
  -- slots of coroutines alone are made anew
  pub flags : (func a : ℕ) → is_coroutine c.b func ≡ false → c.g.flags func a ≡ false
  -- both runs are given the windows of their functions
  pub windows : (func : ℕ) → (facts_at c.g.given.facts func).windows ≡ windows_of (function_at c.g.given.code func)
  pub framed_windows : (func : ℕ)
      → (facts_at c.b.given.given.facts func).windows ≡ windows_of (function_at c.b.framed_code func)
  -- each resume or destroy edge has a block of its own, a jump alone
  pub returns : (func : ℕ) → is_coroutine c.b func ≡ true → HaveOwnReturns (edged (c.b.framing func))
  -- layouts put the promise behind the header, and both runs have their sizes
  pub laid : (func : ℕ) → is_coroutine c.b func ≡ true → IsPromiseLaid (c.b.framing func)
  pub frames : (func : ℕ) → frame_of c.b.given.given.sizes func ≡ frame_of c.g.given.sizes func

-- what isn't derived yet of a state of the run that makes slots anew
pub record MayStep (c : Setting) (s : State) : Type 0 where
  -- the name of an alloca has the address of its slot where a marker stands
  pub marked : is_coroutine c.b s.top.func ≡ false → (starts must_tail : Bool) (ty : Option Ty) (size : Arg) (u : Ty)
      (name : ℕ)
      → fetch (function_of c.g.given s) s.top.block s.top.at ≡ AtInstr (marking starts must_tail ty size u name)
      → (slot : Slot) × IsWholeMarked c.b s name slot
  -- where no slot is being made anew, live slots lie in no field of what crosses where an instance is suspended
  pub fields : IsNotEntering s.top.mode → AreFieldsApart c.b s
  -- what a coroutine below is given may be stored
  pub stored : (a : Activation) (more : List Activation) (arg : Option Arg) → s.below ≡ a ∷ more
      → fetch (function_of c.g.given s) s.top.block s.top.at ≡ AtTerm (Terminator.Ret arg)
      → is_coroutine c.b a.func ≡ true
      → FitsResult (c.b.framing a.func) s.top.result (given_value c.g.given.code s.top.values arg)

-- states of the two runs beside each other
pub record AreOfRuns (c : Setting) (s t : State) (r : AreBuiltOf c.b s t) : Type 0 where
  pub sound : IsSound c.g.given.code s
  pub fitting : IsFittingState c.g.given.code s
  pub called : IsCalledState c.g.given.code s
  -- slots have blocks of allocas, and instances those of allocators
  pub slots : IsSlottedState s
  pub other_slots : IsSlottedState t
  pub may : MayStep c s
