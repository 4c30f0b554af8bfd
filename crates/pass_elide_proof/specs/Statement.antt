-- What is to be proved of runs in which callees are given frames.
use Rattle.std.specs.Prelude.{◌≡◌, ◌⊎◌, ◌+◌, ◌≤◌, ℕ, true, false, List, ◌∷◌, [], length, slice_get, Some, None}
use Rattle.elide_sites.specs.Destroyed.{FreesWhenDestroyed}
use Rattle.elide_sites.specs.Sites.{AreSites, callee_in}
use Rattle.pass_elide.specs.Elided.{function_frames}
use Rattle.pass_elide_proof.specs.CallersStack.{AreCalled}
use Rattle.pass_elide_proof.specs.Elision.{Elision, elided_code, function_in, rooms}
use Rattle.pass_elide_proof.specs.Invariant.{HaveCallers, IsCalledIn, IsSiteOf}
use Rattle.pass_elide_proof.specs.Match.{AreElided}
use Rattle.pass_elide_proof.specs.PlacingStates.{HavePassedBy}
use Rattle.pass_elide_proof.specs.Returning.{HaveReturned}
use Rattle.pass_elide_proof.specs.Shapes.{AsksForFrame}
use Rattle.pass_proofs.specs.ir_base.declared.outcome.Word.{Word}
use Rattle.pass_proofs.specs.ir_model.declared.instr.Instr.{Instr}
use Rattle.pass_proofs.specs.ir_paths.declared.point.Point.{Point}
use Rattle.pass_proofs.specs.ir_model.Names.{function_at}
use Rattle.pass_proofs.specs.ir_model.declared.module.Module.{Module}
use Rattle.pass_proofs.specs.run_agreement.Machines.{Machine}
use Rattle.pass_proofs.specs.run_framed.Framed.{is_given}
use Rattle.pass_proofs.specs.run_source.State.{address_in, is_finished}
use Rattle.pass_proofs.specs.run_source.declared.state.Activation.{Activation}
use Rattle.pass_proofs.specs.run_source.declared.state.Instance.{Instance}
use Rattle.pass_proofs.specs.run_source.declared.state.Mode.{Mode}
use Rattle.pass_proofs.specs.run_source.declared.state.State.{State}
use Rattle.pass_proofs.specs.run_states.moved_states.Beside.{framed_machine}
use Rattle.run_types.specs.States.{AreArguments}
use Rattle.std.specs.List.{Contains}

-- ---- the relation of the simulation

-- the states stand beside each other, and handles are held; what its caller holds no more was freed in the first run
pub record AreRelated (e : Elision) (s t : State) : Type 0 where
  pub beside : AreElided e s t
  pub callers : HaveCallers e t
  pub freed : (number : ℕ) (x y : Instance) → slice_get s.instances number ≡ Some x
      → slice_get t.instances number ≡ Some y → is_given t.world.memory y ≡ true → is_finished y.status ≡ true
      → (x.freed ≡ true) ⊎ IsCalledIn e t.world.memory y number [] (t.top ∷ t.below)
  -- so was all that began where a ramp is about to begin
  pub renewed : (number block offset : ℕ) (x y : Instance) (c : Activation) → slice_get s.instances number ≡ Some x
      → slice_get t.instances number ≡ Some y → Contains (t.top ∷ t.below) c → c.instance ≡ None
      → c.mode ≡ Mode.GivenRamp (address_in block offset) → y.block ≡ block → y.start ≡ offset → x.freed ≡ true
  -- the second run is in no block that allocates or frees a given frame, and has what its calls gave
  pub passed : HavePassedBy e t
  pub called : AreCalled e t

-- They are related, or both runs are over: behind the entry's return its allocas are dead.
abbrev pub AreRelatedOrOver : Elision → State → State → Type 0
AreRelatedOrOver e s t = AreRelated e s t ⊎ HaveReturned s t

-- ---- the statements

-- the sites are those of a source that has the same functions that are no coroutines, and no function has more than so
-- many
pub record IsElisionOf (e : Elision) (source : Module) (most : ℕ) : Type 0 where
  pub sites : AreSites source e.sites
  pub same : (func : ℕ) → (function_at source func).coroutine ≡ false
      → function_in e func ≡ function_at source func
  pub few : (func : ℕ) → length (function_frames (rooms e func) (function_in e func)) ≤ most
  -- callees are elidable: the framed form of each asks for its frame, and frees it when it is destroyed
  pub asks : (func callee : ℕ) (call : Point) (i : Instr) (name : ℕ) → IsSiteOf e func call i name
      → callee_in e.code (Some i) ≡ Some callee → AsksForFrame (function_in e callee) (e.shape callee)
  pub frees : (func callee : ℕ) (call : Point) (i : Instr) (name : ℕ) → IsSiteOf e func call i name
      → callee_in e.code (Some i) ≡ Some callee → FreesWhenDestroyed (function_in e callee)

abbrev pub framed_run : Elision → ℕ → List Word → Machine State
framed_run e entry args = framed_machine e.code e.layouts entry args e.answers

abbrev pub elided_run : Elision → ℕ → List Word → Machine State
elided_run e entry args = framed_machine (elided_code e) e.layouts entry args e.answers

-- An entry is called: a function that is no coroutine, with words that fit its parameters.
pub record IsEntryCall (e : Elision) (entry : ℕ) (args : List Word) : Type 0 where
  pub plain : (function_in e entry).coroutine ≡ false
  pub fits : AreArguments e.code entry args
