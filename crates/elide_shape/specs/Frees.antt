-- What stands right after a coro.free.
use Rattle.std.specs.Prelude.{ℕ, Bool, false, List, length, slice_get, Some, None, Option, option_map, ◌+◌, ◌&&◌, ◌||◌, ◌==◌, if◌then◌else◌}
use Rattle.std.specs.List.{list_all}
use Rattle.ir_base.specs.declared.ops.Pred.{Pred}
use Rattle.ir_calls.specs.Calls.{is_null}
use Rattle.rule_shape.specs.Uses.{uses_of}
use Rattle.elide_shape.specs.Calls.{deals_by, only_call, value_at}
use Rattle.elide_shape.specs.Edges.{edges_into, jumps_to, ways_on}
use Rattle.elide_shape.specs.Phis.{gives_same, phis_of}
use Rattle.elide_shape.specs.declared.calls.Dealing.{Dealing}
use Rattle.ir_model.specs.Names.{is_local, position_of}
use Rattle.ir_model.specs.declared.instr.Instr.{Instr}
use Rattle.ir_model.specs.declared.instr.Terminator.{Terminator}
use Rattle.ir_model.specs.declared.module.Block.{Block}
use Rattle.ir_model.specs.declared.module.Function.{Function}
use Rattle.ir_model.specs.declared.operand.Intrinsic.{Intrinsic}
use Rattle.ir_model.specs.declared.operand.Operand.{Operand}
use Rattle.ir_paths.specs.Windows.{call_operand, is_call_of, points_where}
use Rattle.ir_paths.specs.declared.point.Point.{Point}

-- a deallocator call of the value
abbrev pub releases : ℕ → Option Instr → Bool
releases v None = false
releases v (Some i) = deals_by Dealing.Frees i && is_local v (call_operand i 0)

-- ---- a test for null

abbrev pub is_null_test : ℕ → Operand → Operand → Bool
is_null_test v a b = (is_local v a && is_null b) || (is_null a && is_local v b)

abbrev pub turned : ℕ × ℕ → ℕ × ℕ
turned ways = (ways.1, ways.0)

-- of the two ways of a test with null first the one where it isn't null
abbrev pub not_null_first : Pred → Option (ℕ × ℕ) → Option (ℕ × ℕ)
not_null_first Pred.Ne ways = ways
not_null_first Pred.Eq ways = option_map turned ways
not_null_first _ ways = None

abbrev pub sides_if : Function → ℕ → Pred → Bool → Terminator → Option (ℕ × ℕ)
sides_if f c pred b t = if b && (uses_of f c == 1) then not_null_first pred (ways_on (Some c) t) else None

-- where the branch leads on an `icmp` of the value with null, which has no other use: first where the value isn't null
abbrev pub sides_of : Function → ℕ → Option Instr → Terminator → Option (ℕ × ℕ)
sides_of f v (Some (Instr.Icmp c pred ty a b)) t = sides_if f c pred (is_null_test v a b) t
sides_of f v _ t = None

-- ---- the two sides

-- the block holds only calls of coro.size and one deallocator call of the value, and ends `br label` to the null side
abbrev pub is_release_block : Function → ℕ → ℕ → Option Block → Bool
is_release_block f v null_side None = false
is_release_block f v null_side (Some b) = jumps_to f null_side b.term && releases v (only_call Dealing.Frees b)

-- from the block `from` the not-null side is entered by the one edge into it, and the null side's phis have equal operands from both
abbrev pub are_sides : Function → ℕ → ℕ → ℕ → ℕ → Bool
are_sides f from v side null_side =
    (edges_into f side == 1) && (is_release_block f v null_side (slice_get f.blocks side)
    && list_all (gives_same f from side) (phis_of (slice_get f.blocks null_side)))

abbrev pub are_sides_at : Function → ℕ → ℕ → Option (ℕ × ℕ) → Bool
are_sides_at f from v None = false
are_sides_at f from v (Some ways) = are_sides f from v (position_of f ways.0) (position_of f ways.1)

-- ---- right after a coro.free

-- the next instruction is a deallocator call of the value, which has no other use
abbrev pub is_released_next : Function → ℕ → Option Instr → Bool
is_released_next f v next = releases v next && (uses_of f v == 1)

-- the next instruction is a test for null with the branch on it, and the value has but two uses
abbrev pub is_tested_next : Function → ℕ → ℕ → Block → ℕ → Bool
is_tested_next f from v b at =
    (uses_of f v == 2) && ((at + 1 == length b.instrs) && are_sides_at f from v (sides_of f v (slice_get b.instrs at) b.term))

abbrev pub is_released_in : Function → ℕ → ℕ → Option Block → ℕ → Bool
is_released_in f from v None at = false
is_released_in f from v (Some b) at = is_released_next f v (slice_get b.instrs at) || is_tested_next f from v b at

abbrev pub is_released_by : Function → Point → Option ℕ → Bool
is_released_by f p None = false
is_released_by f p (Some v) = is_released_in f p.block v (slice_get f.blocks p.block) (p.at + 1)

-- the value of the coro.free at a point is released right after it
abbrev pub is_released : Function → Point → Bool
is_released f p = is_released_by f p (value_at f p)

abbrev pub frees_of : Function → List Point
frees_of f = points_where (is_call_of Intrinsic.CoroFree) f

-- so is that of each coro.free
abbrev pub are_released : Function → Bool
are_released f = list_all (is_released f) (frees_of f)
