-- What a step reads and gives of its activation's values, and which values are needed behind a point.
use Rattle.std.specs.Prelude.{ℕ, Bool, false, List, IsTrue, IsFalse, slice_get, Some, None, Option, ◌≡◌, ◌+◌, ◌||◌, ◌⊎◌, ◌==◌}
use Rattle.std.specs.List.{list_any}
use Rattle.ir_model.specs.Names.{is_local, position_of}
use Rattle.ir_model.specs.Ty.{Ty}
use Rattle.ir_model.specs.declared.instr.Instr.{Instr}
use Rattle.ir_model.specs.declared.instr.Phi.{Phi}
use Rattle.ir_model.specs.declared.module.Function.{Function}
use Rattle.ir_model.specs.declared.operand.Allocator.{Allocator}
use Rattle.ir_model.specs.declared.operand.Arg.{Arg}
use Rattle.ir_model.specs.declared.operand.Callee.{Callee}
use Rattle.ir_model.specs.declared.operand.Intrinsic.{Intrinsic}
use Rattle.ir_paths.specs.Paths.{targets}
use Rattle.ir_paths.specs.Slots.{has_name, is_in_args, occurs_in_term}
use Rattle.ir_paths.specs.Windows.{destroy_label, is_call_of, operand_at, resume_label}
use Rattle.ir_paths.specs.declared.point.Point.{Point}
pub use Rattle.run_step.specs.Reads.{reads, reads_at, reads_call, reads_intrinsic}
use Rattle.run_step.specs.Step.{AtInstr, AtTerm, Fetched, Nowhere, fetch, incoming_from, label_of, phis_of}

-- ---- what an instruction gives: the name whose value its step sets, wherever it goes on

abbrev pub given_by_intrinsic : Intrinsic → Option ℕ → Option ℕ
given_by_intrinsic Intrinsic.CoroSizeI32 result = result
given_by_intrinsic Intrinsic.CoroSizeI64 result = result
given_by_intrinsic Intrinsic.CoroAlignI32 result = result
given_by_intrinsic Intrinsic.CoroAlignI64 result = result
given_by_intrinsic Intrinsic.CoroAlloc result = result
given_by_intrinsic Intrinsic.CoroBegin result = result
given_by_intrinsic Intrinsic.CoroFree result = result
given_by_intrinsic Intrinsic.CoroFrame result = result
given_by_intrinsic Intrinsic.CoroSuspend result = result
given_by_intrinsic Intrinsic.CoroEnd result = result
given_by_intrinsic Intrinsic.CoroDone result = result
given_by_intrinsic Intrinsic.CoroPromise result = result
given_by_intrinsic _ result = None

abbrev pub given_by_allocator : Allocator → Option ℕ → Option ℕ
given_by_allocator Allocator.Malloc result = result
given_by_allocator Allocator.Znwm result = result
given_by_allocator _ result = None

abbrev pub given_by_call : Callee → Option Ty → Option ℕ → Option ℕ
given_by_call (Callee.Named n) ty result = result
given_by_call (Callee.Allocator a) ty result = given_by_allocator a result
given_by_call (Callee.Intrinsic i) ty result = given_by_intrinsic i result
given_by_call (Callee.Local f) ty result = result

abbrev pub given_by : Instr → Option ℕ
given_by (Instr.Binary name op flags ty a b) = Some name
given_by (Instr.Icmp name pred ty a b) = Some name
given_by (Instr.Select name x a b) = Some name
given_by (Instr.Cast name op nneg arg to) = Some name
given_by (Instr.Alloca name ty align) = Some name
given_by (Instr.Load name ty p align) = Some name
given_by (Instr.Store arg p align) = None
given_by (Instr.Gep name inbounds ty base indices) = Some name
given_by (Instr.Call result must_tail ty callee args) = given_by_call callee ty result

-- ---- edges

-- behind the instruction at a point, which is no coro.end and doesn't give v, stands the next one
abbrev pub PassesBy : ℕ → Fetched → Type 0
PassesBy v Nowhere = ⊥
PassesBy v (AtInstr i) = IsFalse (is_call_of Intrinsic.CoroEnd i) × (given_by i ≡ Some v → ⊥)
PassesBy v (AtTerm t) = ⊥

-- the terminator at a point has an edge to the label
abbrev pub BranchesTo : ℕ → Fetched → Type 0
BranchesTo label Nowhere = ⊥
BranchesTo label (AtInstr i) = ⊥
BranchesTo label (AtTerm t) = IsTrue (has_name (targets t) label)

-- the phis of the block of a label
abbrev pub phis_at : Function → ℕ → List Phi
phis_at f label = phis_of (slice_get f.blocks (position_of f label))

-- on the edge from a block to a label a phi reads v; a phi gives v there
abbrev pub phis_read : ℕ → ℕ → List Phi → Bool
phis_read v from phis = list_any (λ p. is_local v (incoming_from p.incoming from)) phis

abbrev pub phis_give : ℕ → List Phi → Bool
phis_give v phis = list_any (λ p. p.result == v) phis

abbrev pub label_of_block : Function → ℕ → ℕ
label_of_block f block = label_of (slice_get f.blocks block)

-- ---- needed values

-- a path leads from a point to a use of v, with neither a definition of v nor coro.end on it
pub data IsNeeded (f : Function) (v : ℕ) : ℕ → ℕ → Type 0 where
  read : {block at : ℕ} → IsTrue (reads_at v (fetch f block at)) → IsNeeded f v block at
  next : {block at : ℕ} → PassesBy v (fetch f block at) → IsNeeded f v block (at + 1) → IsNeeded f v block at
  phi : {block at : ℕ} (label : ℕ) → BranchesTo label (fetch f block at) → IsTrue (phis_read v (label_of_block f block) (phis_at f label)) → IsNeeded f v block at
  enter : {block at : ℕ} (label : ℕ) → BranchesTo label (fetch f block at) → IsFalse (phis_give v (phis_at f label)) → IsNeeded f v (position_of f label) 0 → IsNeeded f v block at

-- the same, from the edge from a block to a label
abbrev pub IsNeededOn : Function → ℕ → ℕ → ℕ → Type 0
IsNeededOn f v block label =
    IsTrue (phis_read v (label_of_block f block) (phis_at f label)) ⊎ (IsFalse (phis_give v (phis_at f label)) × IsNeeded f v (position_of f label) 0)

-- the same, from the resume or the destroy edge of a suspend
abbrev pub IsNeededBehind : Function → Point → ℕ → Type 0
IsNeededBehind f suspend v = IsNeededOn f v suspend.block (resume_label f suspend) ⊎ IsNeededOn f v suspend.block (destroy_label f suspend)

-- ---- reached points

-- a path leads from the entry to a point
pub data IsReached (f : Function) : ℕ → ℕ → Type 0 where
  first : IsReached f 0 0
  after : {block at : ℕ} (i : Instr) → fetch f block at ≡ AtInstr i → IsReached f block at → IsReached f block (at + 1)
  along : {block at : ℕ} (label : ℕ) → BranchesTo label (fetch f block at) → IsReached f block at → IsReached f (position_of f label) 0
