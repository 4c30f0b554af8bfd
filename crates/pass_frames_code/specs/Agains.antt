-- What stands in front of a block on a resume or destroy edge loads values from their fields again.
use Rattle.std.specs.Prelude.{◌≡◌, ◌⊎◌, ◌<◌, ◌≤◌, ◌+◌, ◌*◌, ℕ, List, length, Some}
use Rattle.pass_proofs.specs.flow_solver.Paths.{IsListed}
use Rattle.pass_proofs.specs.ir_model.Ty.{ptr}
use Rattle.pass_proofs.specs.pass_cells.Kept.{entry}
use Rattle.pass_proofs.specs.pass_cells.Moves.{again_values}
use Rattle.pass_proofs.specs.pass_cells.declared.plan.KeptValue.{KeptValue}
use Rattle.pass_proofs.specs.pass_frames.Framed.{begin_of}
use Rattle.pass_frames_code.specs.Code.{addressed}
use Rattle.pass_frames_code.specs.Lines.{AreInCells, HasOwnBlocks, RunsOver, at_work}
use Rattle.pass_frames_code.specs.Places.{Framing, plan}
use Rattle.pass_frames_code.specs.Related.{AreCellsRight, AreCellsThere, IsKeptAs, IsKeptValue}
use Rattle.pass_frames_code.specs.Saves.{AreCellsElsewhere, AreStorable, HoldsField}
use Rattle.pass_proofs.specs.run_laws.access.Accessed.{Span}
use Rattle.pass_proofs.specs.run_laws.access.Lines.{pointer_at}
use Rattle.pass_proofs.specs.run_laws.memory.Pointers.{Home, IsValue}
use Rattle.pass_proofs.specs.run_memory.declared.pointer.Value.{Value}
use Rattle.pass_proofs.specs.run_source.declared.state.Activation.{Activation}
use Rattle.pass_proofs.specs.run_step.Step.{Context, Work}
use Rattle.pass_proofs.specs.run_step.Values.{Env, value_in}

-- what is asked of the work in which the line begins: the cells are there, the fields of the row hold what is kept,
-- and what doesn't cross has no value
pub record MayLoadAgain (x : Framing) (homes : List Home) (c : Context) (w : Work) (a : Activation) (env : Env)
    (block start n m : ℕ) (row : List ℕ) : Type 0 where
  pub begun : value_in w.values (begin_of x.function) ≡ pointer_at block start
  pub begin_old : begin_of x.function < n
  pub room : n + 2 * length row ≤ m
  pub long : m + length row ≤ length w.values
  pub own : HasOwnBlocks a
  pub elsewhere : AreCellsElsewhere x block a
  pub storable : AreStorable x env
  pub cells : AreCellsThere x c.rights w.world.memory (at_work a w)
  pub fields : (v : ℕ) (k : KeptValue) → (kept : IsKeptValue x v k) → IsListed kept.number row
      → HoldsField x c.rights w.world.memory block start k (IsKeptAs homes env v k k.slot)
  pub slots : (v slot : ℕ) (k : KeptValue) → IsKeptValue x v k → k.slot ≡ Some slot
      → (slot < n) × IsValue homes (value_in env slot) (value_in w.values slot)
  pub pointers : (v slot : ℕ) (k : KeptValue) → IsKeptValue x v k → k.slot ≡ Some slot → k.ty ≡ ptr
  pub gone : (v : ℕ) (k : KeptValue) → (kept : IsKeptValue x v k)
      → IsListed kept.number row ⊎ (value_in env v ≡ Value.Poison)
  pub no_links : (v cell : ℕ) → entry (plan x).cells v ≡ Some cell
      → ((k : KeptValue) × (kept : IsKeptValue x v k) × IsListed kept.number row) ⊎ (value_in env v ≡ Value.Poison)

-- the line is executed, fills cells alone, and then the cells are right
pub record LoadsValues (x : Framing) (homes : List Home) (c : Context) (w : Work) (a : Activation) (env : Env)
    (k n m : ℕ) (row : List ℕ) : Type 0 where
  pub work : Work
  pub spans : List Span
  pub over : RunsOver c (addressed x k (m, tt) (again_values (plan x).kept n row)) n spans w work
  pub inside : AreInCells x a spans
  pub cells : AreCellsRight x homes c.rights work.world.memory env (at_work a work)
