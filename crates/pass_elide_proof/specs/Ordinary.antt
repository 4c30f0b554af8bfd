-- An ordinary instruction that both runs execute: what is asked of the place at which it stands.
use Rattle.std.specs.Prelude.{◌≡◌, ◌≢◌, ◌<◌, ◌+◌, ℕ, Bool, true, false, List, [], ◌∷◌, length, IsTrue, Some, None}
use Rattle.pass_elide_proof.specs.Elision.{Elision, Shape, differs_in, framed, function_in, rooms}
use Rattle.pass_elide_proof.specs.Match.{AreElided, is_given_mode, sides, was_given}
use Rattle.pass_elide_proof.specs.Places.{allocas_ahead, front_at, own_at, room_at}
use Rattle.pass_proofs.specs.ir_base.declared.name.Name.{Name}
use Rattle.pass_proofs.specs.ir_base.declared.outcome.Outcome.{Outcome}
use Rattle.pass_proofs.specs.ir_model.Layout.{unnamed}
use Rattle.pass_proofs.specs.ir_model.Ty.{Ty, structure}
use Rattle.pass_proofs.specs.ir_model.declared.instr.Instr.{Instr}
use Rattle.pass_proofs.specs.ir_model.declared.module.Module.{Module}
use Rattle.pass_proofs.specs.ir_model.declared.operand.Arg.{Arg}
use Rattle.pass_proofs.specs.ir_model.declared.operand.Operand.{Operand}
use Rattle.pass_proofs.specs.run_framed.Framed.{framed_context, given_ramp}
use Rattle.pass_proofs.specs.run_laws.changed.Changed.{callee_at}
use Rattle.pass_proofs.specs.run_laws.embedded.Related.{HasBytes, HasNoSlot}
use Rattle.pass_proofs.specs.run_laws.transfer.Alone.{IsNoLocal}
use Rattle.pass_proofs.specs.run_laws.transfer.Transfer.{given_at}
use Rattle.pass_proofs.specs.run_source.State.{function_of, work_of}
use Rattle.pass_proofs.specs.run_source.declared.state.State.{State}
use Rattle.pass_proofs.specs.run_step.Reads.{reads_at}
use Rattle.pass_proofs.specs.run_step.Step.{AtInstr, Done, Work, action_of, fetch}
use Rattle.pass_proofs.specs.run_step.Values.{arg_value, index_of, number_at, part_at}

-- ---- what an instruction looks like

-- an index into a structure is no local
abbrev pub IsSteady : Ty → Operand → Type 0
IsSteady (structure ts) x = IsNoLocal x
IsSteady _ x = Unit {0}

abbrev pub AreSteadyInside : Module → Ty → List Arg → Type 0
AreSteadyInside m ty [] = Unit {0}
AreSteadyInside m ty (a ∷ args) = IsSteady (unnamed m ty) a.value
    × AreSteadyInside m (part_at m (unnamed m ty) (index_of (number_at a.ty (arg_value m [] a)))).1 args

-- so it is of a getelementptr of a type
abbrev pub AreSteady : Module → Ty → List Arg → Type 0
AreSteady m ty [] = Unit {0}
AreSteady m ty (a ∷ args) = AreSteadyInside m ty args

abbrev pub HasSteadyIndices : Module → Instr → Type 0
HasSteadyIndices m (Instr.Gep name inbounds ty base indices) = AreSteady m ty indices
HasSteadyIndices m _ = Unit {0}

-- ---- names

-- by the name isn't told whether a frame was given
pub record IsPlainName (x : Shape) (ramp given : Bool) (v : ℕ) : Type 0 where
  pub need : ramp ≡ true → x.need v ≡ false
  pub freed : given ≡ true → x.freed v ≡ false
  pub tested : given ≡ true → x.tested v ≡ None

-- ---- the place

-- the activation stands at another position of its block
abbrev pub with_at : State → ℕ → State
with_at s at = record s { top = record s.top { at = at } }

-- the elided run's activation stands in front of all that is put before the place
abbrev pub StandsInFront : Elision → State → State → Type 0
StandsInFront e s t = t.top.at ≡ front_at (rooms e s.top.func) (function_in e s.top.func) s.top.block s.top.at

-- the allocas that are put in front of the entry block have been made
abbrev pub HasMadeAll : (e : Elision) (s t : State) → AreElided e s t → Type 0
HasMadeAll e s t r = length r.top.own ≡ length (allocas_ahead (rooms e s.top.func) (function_in e s.top.func))

-- The instruction is no call with a room, and stands at both places. All that is put in front of it has been executed.
pub record IsAtOwn (e : Elision) (s t : State) (i : Instr) : Type 0 where
  pub runs : s.outcome ≡ Outcome.Running
  pub there : fetch (function_of (framed e).given s) s.top.block s.top.at ≡ AtInstr i
  pub block : t.top.block ≡ s.top.block
  pub at : t.top.at ≡ own_at (rooms e s.top.func) (function_in e s.top.func) s.top.block s.top.at
  pub no_room : room_at (rooms e s.top.func) (function_in e s.top.func) s.top.block s.top.at i ≡ None
  pub no_ramp : (n : Name) → callee_at (AtInstr i) ≡ Some n → given_ramp e.code n ≡ None
  pub indices : HasSteadyIndices e.code i
  -- what it reads doesn't differ
  pub reads : (v : ℕ) → IsTrue (reads_at v (AtInstr i))
      → differs_in (e.shape s.top.func) (is_given_mode t.top.mode) (was_given (sides s t) t.top) v ≡ false
  -- what it sets is a name of the function
  pub named : (v : ℕ) → given_at (AtInstr i) ≡ Some v → v < length (function_in e s.top.func).names
  pub plain : (v : ℕ) → given_at (AtInstr i) ≡ Some v
      → IsPlainName (e.shape s.top.func) (is_given_mode t.top.mode) (was_given (sides s t) t.top) v
  -- what a given ramp's other one holds stays, and its name isn't set
  pub holds : is_given_mode t.top.mode ≡ true
      → (e.shape s.top.func).holds s.top.block (s.top.at + 1) ≡ (e.shape s.top.func).holds s.top.block s.top.at
  pub kept : (v name : ℕ) → is_given_mode t.top.mode ≡ true → given_at (AtInstr i) ≡ Some v
      → (e.shape s.top.func).holds s.top.block s.top.at ≡ Some name → name ≢ v

-- it makes, marks and allocates no block, and the first run is not undefined there
pub record IsAtOrdinary (e : Elision) (s t : State) (i : Instr) (v : Work) : Type 0 where
  pub own : IsAtOwn e s t i
  pub no_slot : HasNoSlot (AtInstr i)
  pub bytes : HasBytes (AtInstr i)
  pub does : action_of (framed_context (framed e) s) (work_of s) (AtInstr i) ≡ Done v
