-- What stands at the place of the run that gives frames, where both runs go on from a place of a known kind.
use Rattle.std.specs.Prelude.{◌≡◌, ◌⊎◌, ℕ, Bool, true, false, List, ◌∷◌, slice_get, Some, None, Option}
use Rattle.pass_elide_proof.specs.Beginning.{IsKnownTo}
use Rattle.pass_elide_proof.specs.Callers.{IsNotEntering, MarksNoFrame, StandsAtDone, StandsAtEnd, StandsAtInstr, gives_only, saves_by}
use Rattle.pass_elide_proof.specs.CallersStack.{StandsAtRet}
use Rattle.pass_elide_proof.specs.Calling.{AreReady, IsAtCall, IsAtSite}
use Rattle.pass_elide_proof.specs.Elision.{Elision, elided_code, framed, function_in}
use Rattle.pass_elide_proof.specs.Match.{instance_in, is_given_mode, sides, was_given}
use Rattle.pass_elide_proof.specs.Waking.{GivesNone}
use Rattle.pass_elide_proof.specs.pass_proofs.ir_model.Names.{position_of}
use Rattle.pass_elide_proof.specs.pass_proofs.ir_model.Ty.{Ty}
use Rattle.pass_elide_proof.specs.pass_proofs.ir_model.declared.instr.Instr.{Instr}
use Rattle.pass_elide_proof.specs.pass_proofs.ir_model.declared.operand.Allocator.{Allocator}
use Rattle.pass_elide_proof.specs.pass_proofs.ir_model.declared.operand.Arg.{Arg}
use Rattle.pass_elide_proof.specs.pass_proofs.ir_model.declared.operand.Callee.{Callee}
use Rattle.pass_elide_proof.specs.pass_proofs.ir_model.declared.operand.Intrinsic.{Intrinsic}
use Rattle.pass_elide_proof.specs.pass_proofs.ir_model.declared.operand.Operand.{Operand}
use Rattle.pass_elide_proof.specs.pass_proofs.ir_paths.Windows.{operand_at}
use Rattle.pass_elide_proof.specs.pass_proofs.run_laws.changed.Changed.{Each}
use Rattle.pass_elide_proof.specs.pass_proofs.run_source.State.{function_of, is_finished}
use Rattle.pass_elide_proof.specs.pass_proofs.run_source.declared.state.Instance.{Instance}
use Rattle.pass_elide_proof.specs.pass_proofs.run_source.declared.state.Mode.{Mode}
use Rattle.pass_elide_proof.specs.pass_proofs.run_source.declared.state.State.{State}
use Rattle.pass_elide_proof.specs.pass_proofs.run_step.Step.{AtInstr, Work, fetch}
use Rattle.pass_elide_proof.specs.pass_proofs.run_step.Values.{arg_values, nth}

-- a call of an intrinsic stands at the place
abbrev pub StandsAtCall : Elision → State → (at : ℕ) → Intrinsic → Option ℕ → Bool → Option Ty → List Arg → Type 0
StandsAtCall e t at j result must_tail ty args =
    StandsAtInstr e t at (Instr.Call result must_tail ty (Callee.Intrinsic j) args)

-- An edge to a label leads past the blocks that allocate and free a given frame.
pub record EntersPast (e : Elision) (t : State) (label : ℕ) : Type 0 where
  pub waits : is_given_mode t.top.mode ≡ true
      → (e.shape t.top.func).waits (position_of (function_in e t.top.func) label) ≡ None
  pub frees : was_given (sides t t) t.top ≡ true
      → (e.shape t.top.func).frees (position_of (function_in e t.top.func) label) ≡ None

-- the instance of the topmost activation isn't Finished
abbrev pub GoesStill : State → Type 0
GoesStill t = (y : Instance) → instance_in t.instances t.top.instance ≡ Some y → is_finished y.status ≡ false

-- A coro.save saves, and so does a coro.suspend without a token. Behind a save the instance may be Finished.
abbrev pub SavesNow : Intrinsic → List Arg → Type 0
SavesNow j args = (j ≡ Intrinsic.CoroSave) ⊎ (operand_at args 0 ≡ Operand.None)

-- the instance of an activation that saves isn't Finished
pub record SavesAt (e : Elision) (t : State) (j : Intrinsic) (args : List Arg) : Type 0 where
  pub inside : (function_in e t.top.func).coroutine ≡ true
  pub mode : IsNotEntering t.top
  pub goes : SavesNow j args → GoesStill t

-- the framed run is at its coro.end where the activation hasn't left
abbrev pub EndsToo : Elision → (s t : State) → Option ℕ → Bool → Option Ty → List Arg → Type 0
EndsToo e s t result must_tail ty args =
    t.top.has_left ≡ false
    → fetch (function_of (framed e).given s) s.top.block s.top.at
    ≡ AtInstr (Instr.Call result must_tail ty (Callee.Intrinsic Intrinsic.CoroEnd) args)

pub data TakesStep (e : Elision) (s t : State) : Type 0 where
  Works : (at : ℕ) (i : Instr) (w : Work) → StandsAtDone e t at i w → TakesStep e s t
  Allocates : (at : ℕ) (a : Allocator) (result : Option ℕ) (must_tail : Bool) (ty : Option Ty) (args : List Arg)
      → StandsAtInstr e t at (Instr.Call result must_tail ty (Callee.Allocator a) args) → TakesStep e s t
  Marks : (at : ℕ) (j : Intrinsic) (result : Option ℕ) (must_tail : Bool) (ty : Option Ty) (args : List Arg)
      → (j ≡ Intrinsic.LifetimeStart) ⊎ (j ≡ Intrinsic.LifetimeEnd)
      → StandsAtCall e t at j result must_tail ty args
      → MarksNoFrame t (nth (arg_values (elided_code e) t.top.values args) 1) → TakesStep e s t
  Makes : (at name : ℕ) (ty : Ty) (align : ℕ) → StandsAtInstr e t at (Instr.Alloca name ty align)
      → IsNotEntering t.top → TakesStep e s t
  MakesAgain : (at name : ℕ) (ty : Ty) (align from label : ℕ) → StandsAtInstr e t at (Instr.Alloca name ty align)
      → (function_in e t.top.func).coroutine ≡ true → t.top.mode ≡ Mode.Entering from label → TakesStep e s t
  Gives : (at : ℕ) (j : Intrinsic) (result : Option ℕ) (must_tail : Bool) (ty : Option Ty) (args : List Arg)
      → gives_only j ≡ true → StandsAtCall e t at j result must_tail ty args → TakesStep e s t
  Saves : (at : ℕ) (j : Intrinsic) (result : Option ℕ) (must_tail : Bool) (ty : Option Ty) (args : List Arg)
      → saves_by j ≡ true → StandsAtCall e t at j result must_tail ty args → SavesAt e t j args → TakesStep e s t
  Begins : (at : ℕ) (result : Option ℕ) (must_tail : Bool) (ty : Option Ty) (args : List Arg)
      → StandsAtCall e t at Intrinsic.CoroBegin result must_tail ty args
      → (function_in e t.top.func).coroutine ≡ true → Each (IsKnownTo t.instances) (t.top ∷ t.below)
      → TakesStep e s t
  EndsRamp : (at : ℕ) (result : Option ℕ) (must_tail : Bool) (ty : Option Ty) (args : List Arg)
      → StandsAtCall e t at Intrinsic.CoroEnd result must_tail ty args → (t.top.mode ≡ Mode.Resumed → ⊥)
      → TakesStep e s t
  EndsResumed : (at : ℕ) (result : Option ℕ) (must_tail : Bool) (ty : Option Ty) (args : List Arg)
      → StandsAtCall e t at Intrinsic.CoroEnd result must_tail ty args → t.top.mode ≡ Mode.Resumed
      → (function_in e t.top.func).coroutine ≡ true → EndsToo e s t result must_tail ty args → TakesStep e s t
  Enters : (label : ℕ) → StandsAtEnd e t label → EntersPast e t label → TakesStep e s t
  Calls : AreReady e s t → IsAtCall e s t → TakesStep e s t
  Sites : AreReady e s t → IsAtSite e s t → TakesStep e s t
  Resumes : (at : ℕ) (result : Option ℕ) (must_tail : Bool) (ty : Option Ty) (args : List Arg)
      → StandsAtCall e t at Intrinsic.CoroResume result must_tail ty args
      → ((number : ℕ) (x : Instance) → slice_get t.instances number ≡ Some x → GivesNone e x.coroutine)
      → TakesStep e s t
  Destroys : (at : ℕ) (result : Option ℕ) (must_tail : Bool) (ty : Option Ty) (args : List Arg)
      → StandsAtCall e t at Intrinsic.CoroDestroy result must_tail ty args
      → ((number : ℕ) (x : Instance) → slice_get t.instances number ≡ Some x → GivesNone e x.coroutine)
      → TakesStep e s t
  Returns : StandsAtRet e t → TakesStep e s t
