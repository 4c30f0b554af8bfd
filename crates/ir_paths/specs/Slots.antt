-- Ramp slots and coroutine slots.
use Rattle.std.specs.Prelude.{ℕ, zero, suc, pred, Bool, true, false, not, List, [], length, IsTrue, IsFalse, slice_get, Some, None, filter, flat_map, Option, option_to_list, option_and_then, ◌≡◌, ◌&&◌, ◌||◌, ◌⊎◌, ◌∷◌, ◌++◌, if◌then◌else◌, ◌==◌}
use Rattle.ir_model.specs.Names.{is_local}
use Rattle.ir_model.specs.declared.operand.Arg.{Arg}
use Rattle.ir_model.specs.declared.operand.Callee.{Callee}
use Rattle.ir_model.specs.declared.instr.Instr.{Instr}
use Rattle.ir_model.specs.declared.operand.Intrinsic.{Intrinsic}
use Rattle.ir_model.specs.declared.operand.Operand.{Operand}
use Rattle.ir_model.specs.declared.instr.Phi.{Phi}
use Rattle.ir_model.specs.declared.instr.Terminator.{Terminator}
use Rattle.ir_model.specs.declared.module.Block.{Block}
use Rattle.ir_model.specs.declared.module.Function.{Function}
use Rattle.ir_paths.specs.Paths.{Leads, block_points, entry_point, found_from, has_point}
use Rattle.ir_paths.specs.Windows.{call_operand, destroy_label, end_block, instr_at, is_call_of, points_where, resume_label}
use Rattle.ir_paths.specs.declared.point.Point.{Point}
use Rattle.std.specs.List.{list_any}

-- ---- where an address occurs

abbrev pub is_in_args : ℕ → List Arg → Bool
is_in_args v args = list_any (λ a. is_local v a.value) args

-- markers and coro.id, whose occurrences are no uses
abbrev pub is_no_use : Callee → Bool
is_no_use (Callee.Intrinsic Intrinsic.LifetimeStart) = true
is_no_use (Callee.Intrinsic Intrinsic.LifetimeEnd) = true
is_no_use (Callee.Intrinsic Intrinsic.CoroId) = true
is_no_use _ = false

-- v is an operand of the instruction
abbrev pub occurs : ℕ → Instr → Bool
occurs v (Instr.Binary name op flags ty a b) = is_local v a || is_local v b
occurs v (Instr.Icmp name pred ty a b) = is_local v a || is_local v b
occurs v (Instr.Select name x a b) = is_local v x || is_local v a.value || is_local v b.value
occurs v (Instr.Cast name op nneg arg to) = is_local v arg.value
occurs v (Instr.Alloca name ty align) = false
occurs v (Instr.Load name ty p align) = is_local v p
occurs v (Instr.Store arg p align) = is_local v arg.value || is_local v p
occurs v (Instr.Gep name inbounds ty base indices) = is_local v base || is_in_args v indices
occurs v (Instr.Call result must_tail ty (Callee.Local f) args) = (v == f) || is_in_args v args
occurs v (Instr.Call result must_tail ty callee args) = is_in_args v args

abbrev pub is_memcpy : Callee → Bool
is_memcpy (Callee.Intrinsic Intrinsic.MemcpyI64) = true
is_memcpy (Callee.Intrinsic Intrinsic.MemcpyI32) = true
is_memcpy _ = false

-- v occurs otherwise than as the address of a load, store or memcpy, as the base of a getelementptr, in a marker or in coro.id
abbrev pub exposes : ℕ → Instr → Bool
exposes v (Instr.Load name ty p align) = false
exposes v (Instr.Store arg p align) = is_local v arg.value
exposes v (Instr.Gep name inbounds ty base indices) = is_in_args v indices
exposes v (Instr.Call result must_tail ty callee args) = not (is_no_use callee) && not (is_memcpy callee) && occurs v (Instr.Call result must_tail ty callee args)
exposes v i = occurs v i

abbrev pub occurs_in_phi : ℕ → Phi → Bool
occurs_in_phi v p = list_any (λ i. is_local v i.value) p.incoming

abbrev pub occurs_in_term : ℕ → Terminator → Bool
occurs_in_term v (Terminator.Jump label) = false
occurs_in_term v (Terminator.Branch x a b) = is_local v x
occurs_in_term v (Terminator.Switch arg default cases) = is_local v arg.value
occurs_in_term v (Terminator.Ret None) = false
occurs_in_term v (Terminator.Ret (Some arg)) = is_local v arg.value
occurs_in_term v Terminator.Unreachable = false

-- ---- the addresses of a slot: the alloca's, and those of getelementptrs of it

abbrev pub geps_from : (ℕ → Bool) → List Instr → List ℕ
geps_from is_base [] = []
geps_from is_base (Instr.Gep name inbounds ty (Operand.Local v) indices ∷ is) = (if is_base v then name ∷ [] else []) ++ geps_from is_base is
geps_from is_base (i ∷ is) = geps_from is_base is

abbrev pub has_name : List ℕ → ℕ → Bool
has_name vs v = list_any (λ u. u == v) vs

-- the addresses by chains of at most so many getelementptrs
abbrev pub addresses_within : ℕ → Function → ℕ → List ℕ
addresses_within zero f alloca = alloca ∷ []
addresses_within (suc n) f alloca = alloca ∷ flat_map (λ b. geps_from (has_name (addresses_within n f alloca)) b.instrs) f.blocks

abbrev pub is_gep : Instr → Bool
is_gep (Instr.Gep name inbounds ty base indices) = true
is_gep _ = false

abbrev pub addresses_of : Function → ℕ → List ℕ
addresses_of f alloca = addresses_within (length (points_where is_gep f)) f alloca

-- ---- escaped slots

abbrev pub exposed_in_block : ℕ → Block → Bool
exposed_in_block v b = list_any (occurs_in_phi v) b.phis || list_any (exposes v) b.instrs || occurs_in_term v b.term

abbrev pub is_escaped : Function → ℕ → Bool
is_escaped f alloca = list_any (λ v. list_any (exposed_in_block v) f.blocks) (addresses_of f alloca)

-- ---- uses and markers of a slot

abbrev pub touches : List ℕ → Instr → Bool
touches addresses i = list_any (λ v. occurs v i) addresses && not (is_call_of Intrinsic.CoroId i)

-- the instructions with a use or a marker of a slot that isn't escaped
abbrev pub touching_points : Function → ℕ → List Point
touching_points f alloca = points_where (touches (addresses_of f alloca)) f

-- ---- behind a suspend

-- where the resume and destroy edges lead
abbrev pub behind_suspends : Function → List Point
behind_suspends f = flat_map (λ s. entry_point f (resume_label f s) ∷ entry_point f (destroy_label f s) ∷ []) (points_where (is_call_of Intrinsic.CoroSuspend) f)

abbrev pub points_at : ℕ → Option Block → List Point
points_at n None = []
points_at n (Some b) = block_points n (length b.instrs)

abbrev pub end_points : Function → List Point
end_points f = points_at (end_block f) (slice_get f.blocks (end_block f))

-- a path leads from a resume or destroy edge to p with no point of the end block on it
pub record IsBehindSuspend (f : Function) (p : Point) : Type 0 where
  pub first : Point
  pub is_first : IsTrue (has_point (behind_suspends f) first)
  pub path : (first ≡ p) ⊎ (IsFalse (has_point (end_points f) first) × Leads f (end_points f) first p)
  pub is_not_in_end : IsFalse (has_point (end_points f) p)

-- the same, found by a search
abbrev pub points_behind : Function → List Point
points_behind f = filter (λ p. not (has_point (end_points f) p)) (found_from f (end_points f) (behind_suspends f))

-- ---- the classes

-- the alloca that coro.id names
abbrev pub local_of : Operand → Option ℕ
local_of (Operand.Local v) = Some v
local_of _ = None

abbrev pub promise_of : Function → Option ℕ
promise_of f = option_and_then (λ i. local_of (call_operand i 1)) (option_and_then (instr_at f) (slice_get (points_where (is_call_of Intrinsic.CoroId) f) 0))

abbrev pub is_promise : Function → ℕ → Bool
is_promise f alloca = has_name (option_to_list (promise_of f)) alloca

-- an alloca that isn't the promise, isn't escaped, and none of whose uses and markers is behind a suspend
pub record IsRampSlot (f : Function) (alloca : ℕ) : Type 0 where
  pub is_not_promise : IsFalse (is_promise f alloca)
  pub is_not_escaped : IsFalse (is_escaped f alloca)
  pub in_ramp : (p : Point) → IsTrue (has_point (touching_points f alloca) p) → ¬ IsBehindSuspend f p

-- a point is among both
abbrev pub have_common : List Point → List Point → Bool
have_common ps [] = false
have_common ps (q ∷ qs) = has_point ps q || have_common ps qs

-- the same, found by a search
abbrev pub is_ramp_slot : Function → ℕ → Bool
is_ramp_slot f alloca =
    not (is_promise f alloca) && not (is_escaped f alloca) && not (have_common (points_behind f) (touching_points f alloca))

abbrev pub allocas_in : List Instr → List ℕ
allocas_in [] = []
allocas_in (Instr.Alloca name ty align ∷ is) = name ∷ allocas_in is
allocas_in (i ∷ is) = allocas_in is

abbrev pub allocas_of : Function → List ℕ
allocas_of f = flat_map (λ b. allocas_in b.instrs) f.blocks
