-- A getelementptr whose distance is kept: an ordinary step, behind which the distance is summed and stored.
use Rattle.std.specs.Prelude.{◌≡◌, ◌≢◌, ◌≤◌, ℕ, Bool, List, ◌++◌, length, Some, None, Option}
use Rattle.pass_proofs.specs.ir_model.Ty.{Ty}
use Rattle.pass_proofs.specs.ir_model.declared.instr.Instr.{Instr}
use Rattle.pass_proofs.specs.ir_model.declared.operand.Arg.{Arg}
use Rattle.pass_proofs.specs.ir_model.declared.operand.Operand.{Operand}
use Rattle.pass_proofs.specs.ir_parts.Contents.{arg_operands}
use Rattle.pass_proofs.specs.pass_cells.Cells.{fetches_of}
use Rattle.pass_proofs.specs.pass_cells.Kept.{entry}
use Rattle.pass_proofs.specs.pass_cells.Written.{distance_behind, distance_from, stored}
use Rattle.pass_proofs.specs.pass_distances.Sums.{distance_next}
use Rattle.pass_proofs.specs.pass_distances.Ways.{ways_of}
use Rattle.pass_proofs.specs.pass_fetch.Fetching.{fetched_args, next_after}
use Rattle.pass_proofs.specs.pass_fetch.Instrs.{with_fetched}
use Rattle.pass_frames_code.specs.Distances.{AreFields, AreWaysBelow}
use Rattle.pass_frames_code.specs.Ordinary.{IsResultName, MayFetch, StepsBy}
use Rattle.pass_frames_code.specs.Places.{Framing, plan}
use Rattle.pass_frames_code.specs.Related.{root_of}
use Rattle.pass_proofs.specs.run_laws.changed.Changed.{Each}
use Rattle.pass_proofs.specs.run_laws.memory.Pointers.{Home}
use Rattle.pass_proofs.specs.run_source.declared.state.Activation.{Activation}
use Rattle.pass_proofs.specs.run_step.Step.{Context, Work}
use Rattle.pass_proofs.specs.run_step.Values.{Env, distance, pointer_to, value_in}

-- an operand isn't this name
abbrev pub IsNotName : ℕ → Operand → Type 0
IsNotName r (Operand.Local v) = v ≢ r
IsNotName r _ = Unit {0}

-- the base is the slot itself, which has been made, or a name whose distance has the cell from which the sum goes on
abbrev pub GoesOnFrom : Framing → Env → (slot base : ℕ) → Option ℕ → Type 0
GoesOnFrom x env slot base None = (base ≡ slot) × ((block : ℕ) × (value_in env slot ≡ pointer_to block))
GoesOnFrom x env slot base (Some cell) = (entry (plan x).cells base ≡ Some cell) × (root_of x base ≡ Some slot)

-- the indices, of which kept ones are loaded
abbrev pub loaded_indices : Framing → (n base : ℕ) → List Arg → List Arg
loaded_indices x n base indices =
    fetched_args (fetches_of (plan x)) (next_after (fetches_of (plan x)) n (Operand.Local base)) indices

-- neither base nor index is the result itself, as rule N1 says; the sum has names from m on
pub record MayMove (x : Framing) (homes : List Home) (hides : ℕ → Bool) (c d : Context) (w y : Work) (a : Activation)
    (n m : ℕ) (r : ℕ) (inbounds : Bool) (ty : Ty) (base : ℕ) (indices : List Arg) (cell slot : ℕ) : Type 0 where
  pub operands : MayFetch x homes hides c d w y a n (Instr.Gep r inbounds ty (Operand.Local base) indices)
  pub result : IsResultName x r
  pub told : entry (plan x).cells r ≡ Some cell
  pub root : root_of x r ≡ Some slot
  pub from : GoesOnFrom x w.values slot base (distance_from (plan x) r)
  pub not_itself : (base ≢ r) × Each (IsNotName r) (arg_operands indices)
  pub fields : AreFields c.code ty indices
  pub same : (u : Ty) (is : List (Option ℕ)) → distance d.code u is ≡ distance c.code u is
  pub later : n ≤ m
  pub room : distance_next m (ways_of x.code ty (loaded_indices x n base indices)) ≤ length y.values
  pub below : AreWaysBelow m (ways_of x.code ty (loaded_indices x n base indices))
  pub loaded_fields : AreFields d.code ty (loaded_indices x n base indices)
  pub ways : ways_of d.code ty (loaded_indices x n base indices)
      ≡ ways_of x.code ty (loaded_indices x n base indices)

-- operands are loaded, the address is made, its result is stored, and its distance is summed and stored
abbrev pub Moves : Framing → List Home → (ℕ → Bool) → (c d : Context) → (y v : Work) → Activation → (n m r : ℕ) → Bool
    → Ty → ℕ → List Arg → Type 0
Moves x homes hides c d y v a n m r inbounds ty base indices =
    StepsBy x homes hides c d y v a n (Instr.Gep r inbounds ty (Operand.Local base) indices)
    (stored (plan x) r
    ++ distance_behind x.code (plan x) m
    (with_fetched (fetches_of (plan x)) n (Instr.Gep r inbounds ty (Operand.Local base) indices)))
