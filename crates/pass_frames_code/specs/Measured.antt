-- The distance of an address from its local slot, which is summed and stored behind the getelementptr that makes it.
use Rattle.std.specs.Prelude.{◌≡◌, ◌≢◌, ◌⊎◌, ◌≤◌, ℕ, List, [], ◌∷◌, length, Some, None, Option}
use Rattle.pass_proofs.specs.ir_model.Ty.{Ty, int}
use Rattle.pass_proofs.specs.ir_model.declared.module.Module.{Module}
use Rattle.pass_proofs.specs.ir_model.declared.operand.Arg.{Arg}
use Rattle.pass_proofs.specs.pass_cells.Kept.{entry}
use Rattle.pass_proofs.specs.pass_cells.Written.{distance_from}
use Rattle.pass_proofs.specs.pass_distances.Sums.{distance_instrs, distance_next}
use Rattle.pass_proofs.specs.pass_distances.Ways.{ways_of}
use Rattle.pass_proofs.specs.pass_fetch.Fetching.{fetched_arg, next_after}
use Rattle.pass_proofs.specs.pass_fetch.declared.fetch.Fetch.{Fetch}
use Rattle.pass_frames_code.specs.Distances.{AreFields, AreWaysBelow}
use Rattle.pass_frames_code.specs.Lines.{AreCellsRightBut, AreInCells, HasOwnBlocks, RunsOver, at_work}
use Rattle.pass_frames_code.specs.Places.{Framing, named, plan}
use Rattle.pass_frames_code.specs.Related.{Anything, AreCellsRight, IsCell, root_of}
use Rattle.pass_proofs.specs.run_laws.access.Accessed.{Span}
use Rattle.pass_proofs.specs.run_laws.memory.Pointers.{Home, IsValue}
use Rattle.pass_proofs.specs.run_memory.Pointers.{moved}
use Rattle.pass_proofs.specs.run_memory.declared.pointer.Offset.{Offset}
use Rattle.pass_proofs.specs.run_memory.declared.pointer.Pointer.{Pointer}
use Rattle.pass_proofs.specs.run_memory.declared.pointer.Value.{Value}
use Rattle.pass_proofs.specs.run_source.declared.state.Activation.{Activation}
use Rattle.pass_proofs.specs.run_step.Step.{Context, Work}
use Rattle.pass_proofs.specs.run_step.Values.{Env, arg_value, distance, indices_of, pointer_to, value_in}

-- the address is poison, or so far behind its base as the indices say
abbrev pub IsMoved : Module → Env → Value → Value → Ty → List Arg → Type 0
IsMoved m values base v ty args =
    (v ≡ Value.Poison)
    ⊎ ((block : ℕ) × (o : Offset) × (far : ℕ) × (base ≡ Value.Ptr (Pointer.At block o))
    × (distance m ty (indices_of m values args) ≡ Some far) × (v ≡ Value.Ptr (Pointer.At block (moved o far))))

-- the base is the slot itself, or a name whose distance has a cell
abbrev pub IsBase : Framing → Env → (v slot : ℕ) → Option ℕ → Value → Type 0
IsBase x env v slot None base = (block : ℕ) × (value_in env slot ≡ pointer_to block) × (base ≡ value_in env slot)
IsBase x env v slot (Some cell) base =
    (u : ℕ) × (entry (plan x).cells u ≡ Some cell) × (root_of x u ≡ Some slot) × (u ≢ v) × (base ≡ value_in env u)

-- what is asked where the line behind a getelementptr begins; indices use no new name
pub record MayMeasure (x : Framing) (homes : List Home) (c : Context) (w : Work) (a : Activation) (env : Env)
    (v cell slot n : ℕ) (ty : Ty) (args : List Arg) : Type 0 where
  pub told : entry (plan x).cells v ≡ Some cell
  pub root : root_of x v ≡ Some slot
  pub own : HasOwnBlocks a
  pub right : AreCellsRightBut x homes c.rights w.world.memory env (at_work a w) v
  pub there : IsCell c.rights w.world.memory (at_work a w) cell (int 64) Anything
  pub low : length (named x).names ≤ n
  pub room : distance_next n (ways_of x.code ty args) ≤ length w.values
  pub below : AreWaysBelow n (ways_of x.code ty args)
  pub fields : AreFields c.code ty args
  pub ways : ways_of c.code ty args ≡ ways_of x.code ty args
  pub base : Value
  pub is_base : IsBase x env v slot (distance_from (plan x) v) base
  pub is_moved : IsMoved c.code w.values base (value_in env v) ty args

-- the line is executed and fills the cell, and then all cells are right
pub record Measures (x : Framing) (homes : List Home) (c : Context) (w : Work) (a : Activation) (env : Env)
    (v cell n : ℕ) (ty : Ty) (args : List Arg) : Type 0 where
  pub work : Work
  pub spans : List Span
  pub over : RunsOver c (distance_instrs n (distance_from (plan x) v) cell (ways_of x.code ty args)) n spans w work
  pub inside : AreInCells x a spans
  pub right : AreCellsRight x homes c.rights work.world.memory env (at_work a work)

-- ---- indices of two getelementptrs

-- each index that is fetched stands for the source's
abbrev pub AreArgsStanding : List (Option Fetch) → List Home → (m k : Module) → (env other : Env) → ℕ → List Arg
    → Type 0
AreArgsStanding t homes m k env other n [] = Unit {0}
AreArgsStanding t homes m k env other n (a ∷ args) =
    IsValue homes (arg_value m env a) (arg_value k other (fetched_arg t n a))
    × AreArgsStanding t homes m k env other (next_after t n a.value) args
