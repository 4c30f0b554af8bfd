-- How a coroutine frees its frame where what coro.free gives is tested for null, and where its activations are then.
use Rattle.std.specs.Prelude.{◌≡◌, ℕ, Bool, true, false, [], length, slice_get, Some, if◌then◌else◌}
use Rattle.elide_shape.specs.Calls.{deals_by}
use Rattle.elide_shape.specs.declared.calls.Dealing.{Dealing}
use Rattle.pass_elide_proof.specs.Edges.{GivesNone, IsEntering, IsHeldOn, phis_at}
use Rattle.pass_elide_proof.specs.Elision.{Elision, Shape, elided, framed, function_in, rooms}
use Rattle.pass_elide_proof.specs.Match.{IsAtEnd, is_given_mode, sides, was_given}
use Rattle.pass_elide_proof.specs.Places.{front_at, instrs_of}
use Rattle.pass_elide_proof.specs.Shapes.{AreSameFetches, JumpsTo}
use Rattle.pass_proofs.specs.ir_model.Names.{position_of}
use Rattle.pass_proofs.specs.ir_model.declared.instr.Instr.{Instr}
use Rattle.pass_proofs.specs.ir_model.declared.instr.Terminator.{Terminator}
use Rattle.pass_proofs.specs.ir_model.declared.module.Function.{Function}
use Rattle.pass_proofs.specs.ir_model.declared.operand.Operand.{Operand}
use Rattle.pass_proofs.specs.ir_parts.Contents.{result_of}
use Rattle.pass_proofs.specs.ir_paths.Windows.{call_operand}
use Rattle.pass_proofs.specs.run_source.Source.{left_windows}
use Rattle.pass_proofs.specs.run_source.declared.state.State.{State}
use Rattle.pass_proofs.specs.run_step.Step.{AtTerm, fetch}

-- Behind the block that frees and beside it stand two blocks of as many fetches, which lead to the same block.
pub record FreesAside (f : Function) (x : Shape) (after beside : ℕ) : Type 0 where
  pub ends : ℕ
  pub aside : x.aside after ≡ Some beside
  pub joins : JumpsTo f after ends
  pub meets : JumpsTo f beside ends
  pub loads : (k : ℕ) (i j : Instr) → slice_get (instrs_of f after) k ≡ Some i
      → slice_get (instrs_of f beside) k ≡ Some j → AreSameFetches i j
  pub many : length (instrs_of f after) ≡ length (instrs_of f beside)
  pub is_loaded : (k v : ℕ) (i : Instr) → slice_get (instrs_of f after) k ≡ Some i → result_of i ≡ Some v
      → x.passed v ≡ true
  pub is_loaded_beside : (k v : ℕ) (i : Instr) → slice_get (instrs_of f beside) k ≡ Some i → result_of i ≡ Some v
      → x.passed v ≡ true

-- What coro.free gave is tested for null at the end of one block. From that the block that frees is entered, and the
-- block beside. Where no phis stand the block that frees leads to the block beside.
pub record FreesFrame (f : Function) (x : Shape) : Type 0 where
  pub tests : ℕ
  pub frees : ℕ
  pub after : ℕ
  pub beside : ℕ
  pub tested : ℕ
  pub is_eq : Bool
  pub one : ℕ
  pub other : ℕ
  pub branch : fetch f tests (length (instrs_of f tests)) ≡ AtTerm (Terminator.Branch (Operand.Local tested) one other)
  pub to_free : position_of f (if is_eq then other else one) ≡ frees
  pub to_beside : position_of f (if is_eq then one else other) ≡ beside
  pub jumps : JumpsTo f frees after
  pub waits : x.frees frees ≡ Some tests
  -- the one call of a deallocator takes what coro.free gave
  pub freed : ℕ
  pub release : ℕ
  pub deallocator : Instr
  pub there : slice_get (instrs_of f frees) release ≡ Some deallocator
  pub is_deallocator : deals_by Dealing.Frees deallocator ≡ true
  pub once : (k : ℕ) (i : Instr) → slice_get (instrs_of f frees) k ≡ Some i
      → deals_by Dealing.Frees i ≡ true → k ≡ release
  pub takes : call_operand deallocator 0 ≡ Operand.Local freed
  -- what differs
  pub is_freed : x.freed freed ≡ true
  pub is_tested : x.tested tested ≡ Some is_eq
  pub not_need : x.need tested ≡ false
  pub is_passed : (k v : ℕ) (i : Instr) → slice_get (instrs_of f frees) k ≡ Some i → result_of i ≡ Some v
      → x.passed v ≡ true

-- both are at the end of the block of the test, and the first run goes to a label
pub record IsAtTest (e : Elision) (s t : State) (k : FreesFrame (function_in e s.top.func) (e.shape s.top.func))
    (label : ℕ) : Type 0 where
  pub enters : IsEntering (framed e) s label
  pub tests : s.top.block ≡ k.tests
  pub given : was_given (sides s t) t.top ≡ true
  pub beside : t.top.block ≡ s.top.block
  pub stands : t.top.at ≡ front_at (rooms e s.top.func) (function_in e s.top.func) s.top.block s.top.at
  pub none : GivesNone e s.top.func
  pub bare : phis_at (function_in e s.top.func) k.frees ≡ []
  pub held : is_given_mode t.top.mode ≡ true → IsHeldOn e s k.frees

-- the first run is at the end of the block that frees, and the given activation waits
pub record IsAtFreed (e : Elision) (s t : State) (k : FreesFrame (function_in e s.top.func) (e.shape s.top.func))
    (label : ℕ) : Type 0 where
  pub enters : IsEntering (framed e) s label
  pub frees : s.top.block ≡ k.frees
  pub given : was_given (sides s t) t.top ≡ true
  pub tests : t.top.block ≡ k.tests
  pub stands : IsAtEnd e t.top
  pub none : GivesNone e s.top.func
  pub bare : phis_at (function_in e s.top.func) k.after ≡ []
  pub empty : phis_at (function_in e s.top.func) k.beside ≡ []
  pub stays : left_windows (elided e).given t (if k.is_eq then k.one else k.other) ≡ []
  pub held : is_given_mode t.top.mode ≡ true → IsHeldOn e s k.after
