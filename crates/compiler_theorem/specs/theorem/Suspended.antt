-- Suspended instances in a row of states.
use Rattle.std.specs.Prelude.{◌≡◌, ◌⊎◌, ℕ, false, List, None, Option, Some, slice_get}
use Rattle.std.specs.List.{Contains}
use Rattle.compiler.specs.ir_model.Names.{function_at}
use Rattle.compiler.specs.ir_model.Ty.{int}
use Rattle.compiler.specs.ir_model.declared.module.Module.{Module}
use Rattle.compiler.specs.ir_paths.declared.point.Point.{Point}
use Rattle.compiler.specs.pass_cells.declared.plan.KeptValue.{KeptValue}
use Rattle.compiler.specs.pass_early.Early.{early_module}
use Rattle.compiler.specs.pass_fetch.Fetching.{value_bytes}
use Rattle.pass_frames_meaning.specs.pass_frames_proof.Places.{Framing}
use Rattle.pass_frames_meaning.specs.pass_frames_proof.Related.{IsKeptValue, IsSuspendNumber}
use Rattle.compiler.specs.pass_kept_proof.Needed.{IsNeededBehind}
use Rattle.compiler.specs.pass_proofs.early.early_states.Beside.{unsaved_module}
use Rattle.compiler.specs.pass_proofs.early.saves.Spots.{back_of}
use Rattle.compiler.specs.pass_proofs.edges.states.MovedState.{edges_split, placed}
use Rattle.compiler.specs.run_memory.declared.pointer.Value.{Value}
use Rattle.compiler.specs.run_source.declared.state.Instance.{Instance}
use Rattle.compiler.specs.run_source.declared.state.Status.{Status}
use Rattle.compiler.specs.run_step.Values.{Env, value_in}

-- the instance of a number is of a coroutine, and suspended there with these values; its block isn't freed
pub record IsSuspendedAs (xs : List Instance) (i func : ℕ) (suspend : Point) (values : Env) : Type 0 where
  pub instance : Instance
  pub there : slice_get xs i ≡ Some instance
  pub coroutine : instance.coroutine ≡ func
  pub status : instance.status ≡ Status.Suspended suspend values
  pub unfreed : instance.freed ≡ false

-- where a suspend of a source stands where saves are written out and edges have blocks
abbrev pub kept_place : Module → ℕ → Point → Point
kept_place m func p = placed (function_at (early_module m) func) (back_of (function_at (unsaved_module m) func) p)

-- a name has the same value in the second, unless it is poison in the first
abbrev pub HasValue : Env → Env → ℕ → Type 0
HasValue first second v = (value_in first v ≡ Value.Poison) ⊎ (value_in second v ≡ value_in first v)

-- it is so where resumes hand on less, and the names that are needed behind the suspend have their values
pub record IsSuspendedAlike (m : Module) (ys : List Instance) (i func : ℕ) (suspend : Point) (values : Env) : Type 0
  where
    pub others : Env
    pub as_it_was : IsSuspendedAs ys i func (kept_place m func suspend) others
    pub each : (v : ℕ)
        → IsNeededBehind (function_at (edges_split (early_module m)) func) (kept_place m func suspend) v
        → HasValue values others v

-- ---- fields

-- what is known of a value that crosses a suspend of a source, by what its coroutine was framed by: it is needed
-- behind it, and has a field of so many bytes
pub record IsFieldKept (m : Module) (x : Framing) (func : ℕ) (suspend : Point) (v size : ℕ) (k : KeptValue) : Type 0
  where
    pub needed : IsNeededBehind (function_at (edges_split (early_module m)) func) (kept_place m func suspend) v
    pub crossing : (j : ℕ) → IsSuspendNumber x j (kept_place m func suspend) → Contains x.contents.crossing (v, j)
    pub kept : IsKeptValue x v k
    pub bytes : value_bytes k.field_ty ≡ size

-- the field has the value itself
pub record IsValueKept (roots : ℕ → Option ℕ) (v : ℕ) (k : KeptValue) : Type 0 where
  pub unrooted : roots v ≡ None
  pub no_slot : k.slot ≡ None

-- or its distance from its slot
pub record IsDistanceKept (roots : ℕ → Option ℕ) (v : ℕ) (k : KeptValue) : Type 0 where
  pub root : ℕ
  pub rooted : roots v ≡ Some root
  pub slot : ℕ
  pub has_slot : k.slot ≡ Some slot
  pub number : k.field_ty ≡ int 64
