-- Where the value of a name is used, and where the markers of a slot stand.
use Rattle.std.specs.Prelude.{◌≡◌, ℕ, Bool, false, List, length, slice_get, Some, IsTrue, IsFalse, ◌&&◌}
use Rattle.ir_model.specs.Names.{is_local}
use Rattle.ir_model.specs.declared.instr.Instr.{Instr}
use Rattle.ir_model.specs.declared.module.Block.{Block}
use Rattle.ir_model.specs.declared.module.Function.{Function}
use Rattle.ir_model.specs.declared.operand.Intrinsic.{Intrinsic}
use Rattle.ir_paths.specs.Slots.{is_no_use, occurs, occurs_in_term}
use Rattle.ir_paths.specs.Windows.{call_operand, instr_at, is_call_of, points_where}
use Rattle.ir_paths.specs.declared.point.Point.{Point}

-- ---- uses

-- markers and coro.id, in which an address isn't used
abbrev pub is_no_use_in : Instr → Bool
is_no_use_in (Instr.Call result must_tail ty callee args) = is_no_use callee
is_no_use_in i = false

-- what stands at the point, an instruction or a terminator, uses the value
pub data UsesAt (f : Function) (v : ℕ) (p : Point) : Type 0 where
  ByInstr : (i : Instr) → instr_at f p ≡ Some i → IsFalse (is_no_use_in i) → IsTrue (occurs v i) → UsesAt f v p
  ByTerm : (b : Block) → slice_get f.blocks p.block ≡ Some b → p.at ≡ length b.instrs → IsTrue (occurs_in_term v b.term) → UsesAt f v p

-- ---- markers

abbrev pub is_marker_of : Intrinsic → ℕ → Instr → Bool
is_marker_of marker slot i = is_call_of marker i && is_local slot (call_operand i 1)

abbrev pub starts_of : Function → ℕ → List Point
starts_of f slot = points_where (is_marker_of Intrinsic.LifetimeStart slot) f

abbrev pub ends_of : Function → ℕ → List Point
ends_of f slot = points_where (is_marker_of Intrinsic.LifetimeEnd slot) f
