-- How an elidable coroutine asks whether its frame is to be allocated.
use Rattle.std.specs.Prelude.{ℕ, Bool, false, List, [], find, count_by, slice_get, Some, None, Option, ◌&&◌, ◌∷◌, ◌==◌, if◌then◌else◌}
use Rattle.std.specs.List.{list_all}
use Rattle.ir_calls.specs.Calls.{is_null}
use Rattle.rule_shape.specs.Uses.{phi_operands, uses_of}
use Rattle.elide_shape.specs.Calls.{is_size_value, only_call, value_at}
use Rattle.elide_shape.specs.Edges.{edges_into, jumps_to, ways_in}
use Rattle.elide_shape.specs.Phis.{given, gives_same, is_given}
use Rattle.elide_shape.specs.declared.calls.Dealing.{Dealing}
use Rattle.ir_model.specs.Names.{is_local, position_of}
use Rattle.ir_model.specs.declared.instr.Instr.{Instr}
use Rattle.ir_model.specs.declared.instr.Phi.{Phi}
use Rattle.ir_model.specs.declared.module.Block.{Block}
use Rattle.ir_model.specs.declared.module.Function.{Function}
use Rattle.ir_model.specs.declared.operand.Intrinsic.{Intrinsic}
use Rattle.ir_paths.specs.Windows.{call_operand, call_result, is_call_of, points_where}
use Rattle.ir_paths.specs.declared.point.Point.{Point}

-- ---- the block D that allocates

abbrev pub value_if_sized : Function → Option Instr → Option ℕ
value_if_sized f None = None
value_if_sized f (Some i) = if is_size_value f (call_operand i 0) then call_result i else None

-- D holds only calls of coro.size and one allocator call whose size is a coro.size value, and ends `br label B`: that call's value
abbrev pub allocated_in : Function → ℕ → Block → Option ℕ
allocated_in f b d = if jumps_to f b d.term then value_if_sized f (only_call Dealing.Allocates d) else None

-- ---- the block B that begins

-- the phi gives null from A and the value m from D, and m has no other use
abbrev pub is_memory_phi : Function → ℕ → ℕ → ℕ → Phi → Bool
is_memory_phi f a d m p =
    is_given is_null (given f a p) && (is_given (is_local m) (given f d p) && (uses_of f m == count_by (is_local m) (phi_operands p)))

abbrev pub takes_second : ℕ → Option Instr → Bool
takes_second v None = false
takes_second v (Some i) = is_local v (call_operand i 1)

-- begin stands in B and takes the phi's value, which has no other use
abbrev pub begins_with : Function → ℕ → Block → Bool
begins_with f v b = takes_second v (find (is_call_of Intrinsic.CoroBegin) b.instrs) && (uses_of f v == 1)

-- B begins with that phi, and its other phis have equal operands from A and D
abbrev pub joins : Function → ℕ → ℕ → ℕ → Block → List Phi → Bool
joins f a d m b [] = false
joins f a d m b (p ∷ ps) = is_memory_phi f a d m p && (list_all (gives_same f a d) ps && begins_with f p.result b)

abbrev pub joins_value : Function → ℕ → ℕ → Option ℕ → Block → Bool
joins_value f a d None b = false
joins_value f a d (Some m) b = joins f a d m b b.phis

-- ---- the branch

abbrev pub are_blocks : Function → ℕ → ℕ → ℕ → Option Block → Option Block → Bool
are_blocks f a d b (Some x) (Some y) = joins_value f a d (allocated_in f b x) y
are_blocks f a d b _ _ = false

-- A's branch leads to D, the one edge into it, and to B, whose other edge is D's
abbrev pub is_guard : Function → ℕ → ℕ → ℕ → Bool
is_guard f a d b = (edges_into f d == 1) && ((edges_into f b == 2) && are_blocks f a d b (slice_get f.blocks d) (slice_get f.blocks b))

abbrev pub is_guard_to : Function → ℕ → Option (ℕ × ℕ) → Bool
is_guard_to f a None = false
is_guard_to f a (Some ways) = is_guard f a (position_of f ways.0) (position_of f ways.1)

abbrev pub is_used_once : Function → Option ℕ → Bool
is_used_once f None = false
is_used_once f (Some v) = uses_of f v == 1

-- the coro.alloc at a point is used only by the end of its block A: `br i1 %need, label D, label B`
abbrev pub guards_at : Function → Point → Bool
guards_at f p = is_used_once f (value_at f p) && is_guard_to f p.block (ways_in (value_at f p) (slice_get f.blocks p.block))

abbrev pub guards_by : Function → List Point → Bool
guards_by f (p ∷ []) = guards_at f p
guards_by f _ = false

-- there is one coro.alloc, and it guards the allocation
abbrev pub is_guarded : Function → Bool
is_guarded f = guards_by f (points_where (is_call_of Intrinsic.CoroAlloc) f)
