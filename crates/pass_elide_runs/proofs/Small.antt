-- A word that an allocator takes is below 2 ^ 64.
use Rattle.std.proofs.Common.{◌≡◌, ◌<◌, ◌^◌, ℕ, Bool, true, List, Option, Some, sym, subst}
use Rattle.std.specs.Prelude.{slice_get}
use Rattle.elide_shape.specs.Calls.{deals}
use Rattle.elide_shape.specs.declared.calls.Dealing.{Dealing}
use Rattle.pass_elide_proof.proofs.ElidedFound.{fetched}
use Rattle.pass_elide_proof.proofs.Facts.{some_none}
use Rattle.pass_elide_proof.specs.Places.{instrs_of}
use Rattle.pass_elide_proof.specs.pass_proofs.ir_base.declared.outcome.Word.{Word}
use Rattle.pass_elide_proof.specs.pass_proofs.ir_model.Names.{function_at}
use Rattle.pass_elide_proof.specs.pass_proofs.ir_model.Ty.{Ty}
use Rattle.pass_elide_proof.specs.pass_proofs.ir_model.declared.instr.Instr.{Instr}
use Rattle.pass_elide_proof.specs.pass_proofs.ir_model.declared.module.Module.{Module}
use Rattle.pass_elide_proof.specs.pass_proofs.ir_model.declared.operand.Allocator.{Allocator}
use Rattle.pass_elide_proof.specs.pass_proofs.ir_model.declared.operand.Arg.{Arg}
use Rattle.pass_elide_proof.specs.pass_proofs.ir_model.declared.operand.Callee.{Callee}
use Rattle.pass_elide_proof.specs.pass_proofs.run_framed.Framed.{FramedGiven, framed_state_at, framed_step, given_ramp}
use Rattle.pass_elide_proof.specs.pass_proofs.run_memory.declared.pointer.Value.{Value}
use Rattle.pass_elide_proof.specs.pass_proofs.run_source.Source.{first_state}
use Rattle.pass_elide_proof.specs.pass_proofs.run_source.declared.state.State.{State}
use Rattle.pass_elide_proof.specs.pass_proofs.run_step.Values.{arg_values, nth}
use Rattle.run_hooks.proofs.Keeping.{framed_keeps}
use Rattle.run_hooks.proofs.Steps.{framed_steps, same_runs}
use Rattle.run_hooks.specs.Hooks.{step_of}
use Rattle.run_hooks.specs.Meanings.{framed_hooks}
use Rattle.run_hooks.specs.Reached.{AllHaveSwitches}
use Rattle.run_slots.specs.Slots.{GivesNoFrames}
use Rattle.run_types.proofs.Meanings.{framed_keeps_fitting}
use Rattle.run_types.proofs.Runs.{sizes_small, states_fit}
use Rattle.run_types.specs.Rules.{KeepsAllTypes, KeepsGivenTypes}
use Rattle.run_types.specs.States.{AreArguments, IsFittingState, IsMalloc, IsNew, TakesSize}

-- where no call gives a frame nothing is asked of such calls
ungiven_types : (m : Module) → GivesNoFrames m → KeepsGivenTypes m
ungiven_types m none = record {
  calls = λ func block at result must_tail ty n args ramp there given.
      absurd (some_none (given_ramp m n) ramp given (none func block at result must_tail ty n args there));
}

takes_size : (a : Allocator) → deals Dealing.Allocates a ≡ true → TakesSize a
takes_size Allocator.Malloc h = IsMalloc
takes_size Allocator.Znwm h = IsNew
takes_size _ h = absurd (cc)

module _ (g : FramedGiven) (switches : AllHaveSwitches g.given.code) (types : KeepsAllTypes g.given.code)
    (none : GivesNoFrames g.given.code) (entry : ℕ) (args : List Word) (fit : AreArguments g.given.code entry args)
    (n : ℕ) where
  abbrev s : State
  s = framed_state_at g entry args n

  pub states_fitting : IsFittingState g.given.code (framed_state_at g entry args n)
  states_fitting =
      subst (IsFittingState g.given.code)
      (sym (same_runs (framed_step g) (step_of (framed_hooks g)) (framed_steps g) n
      (first_state g.given.code entry args)))
      (states_fit (framed_hooks g) switches (framed_keeps g) types
      (framed_keeps_fitting g types (ungiven_types g.given.code none)) entry args n fit)

  pub words_small : (a : Allocator) (result : Option ℕ) (must_tail : Bool) (ty : Option Ty) (operands : List Arg)
      (word : Word) → deals Dealing.Allocates a ≡ true
      → slice_get (instrs_of (function_at g.given.code s.top.func) s.top.block) s.top.at
      ≡ Some (Instr.Call result must_tail ty (Callee.Allocator a) operands)
      → nth (arg_values g.given.code s.top.values operands) 0 ≡ Value.Int word → word.bits < 2 ^ 64
  words_small a result must_tail ty operands word allocates there takes =
      sizes_small g.given.code (function_at g.given.code s.top.func) s.top.values (types s.top.func) states_fitting.top
      s.top.block s.top.at result must_tail ty a operands
      (fetched (function_at g.given.code s.top.func) s.top.block s.top.at
      (Instr.Call result must_tail ty (Callee.Allocator a) operands) there)
      (takes_size a allocates) word takes
