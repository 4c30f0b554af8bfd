-- Calls of coro.size and of allocators, and what stands beside them.
use Rattle.std.specs.Prelude.{ℕ, Bool, true, false, not, List, [], find, count_by, Some, None, Option, option_and_then, ◌&&◌, ◌||◌, ◌∷◌, ◌==◌, if◌then◌else◌}
use Rattle.std.specs.List.{list_any}
use Rattle.elide_shape.specs.declared.calls.Dealing.{Dealing}
use Rattle.ir_model.specs.declared.instr.Instr.{Instr}
use Rattle.ir_model.specs.declared.instr.Phi.{Phi}
use Rattle.ir_model.specs.declared.module.Block.{Block}
use Rattle.ir_model.specs.declared.module.Function.{Function}
use Rattle.ir_model.specs.declared.operand.Allocator.{Allocator}
use Rattle.ir_model.specs.declared.operand.Callee.{Callee}
use Rattle.ir_model.specs.declared.operand.Intrinsic.{Intrinsic}
use Rattle.ir_model.specs.declared.operand.Operand.{Operand}
use Rattle.ir_paths.specs.Windows.{call_result, instr_at, is_call_of}
use Rattle.ir_paths.specs.declared.point.Point.{Point}

-- ---- allocators

abbrev pub deals : Dealing → Allocator → Bool
deals Dealing.Allocates Allocator.Malloc = true
deals Dealing.Allocates Allocator.Znwm = true
deals Dealing.Frees Allocator.Free = true
deals Dealing.Frees Allocator.ZdlPv = true
deals Dealing.Frees Allocator.ZdlPvm = true
deals _ _ = false

-- the instruction calls an allocator, or a deallocator
abbrev pub deals_by : Dealing → Instr → Bool
deals_by d (Instr.Call result must_tail ty (Callee.Allocator a) args) = deals d a
deals_by d _ = false

-- ---- calls of coro.size

abbrev pub is_size_call : Instr → Bool
is_size_call i = is_call_of Intrinsic.CoroSizeI32 i || is_call_of Intrinsic.CoroSizeI64 i

abbrev pub is_the_result : ℕ → Option ℕ → Bool
is_the_result v None = false
is_the_result v (Some u) = v == u

abbrev pub gives_size : ℕ → Instr → Bool
gives_size v i = is_size_call i && is_the_result v (call_result i)

-- the operand is the value of some call of coro.size
abbrev pub is_size_value : Function → Operand → Bool
is_size_value f (Operand.Local v) = list_any (λ b. list_any (gives_size v) b.instrs) f.blocks
is_size_value f _ = false

-- ---- blocks that hold calls of coro.size and one call more

abbrev pub is_other : Instr → Bool
is_other i = not (is_size_call i)

-- the one instruction that is no call of coro.size
abbrev pub one_other : List Instr → Option Instr
one_other is = if count_by is_other is == 1 then find is_other is else None

abbrev pub passing : (Instr → Bool) → Option Instr → Option Instr
passing test None = None
passing test (Some i) = if test i then Some i else None

abbrev pub is_without_phis : List Phi → Bool
is_without_phis [] = true
is_without_phis (p ∷ ps) = false

-- the block holds only calls of coro.size and one call of an allocator, or of a deallocator: that call
abbrev pub only_call : Dealing → Block → Option Instr
only_call d b = if is_without_phis b.phis then passing (deals_by d) (one_other b.instrs) else None

-- ---- values

-- the value of the call at a point
abbrev pub value_at : Function → Point → Option ℕ
value_at f p = option_and_then call_result (instr_at f p)
