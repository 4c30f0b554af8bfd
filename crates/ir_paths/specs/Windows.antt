-- Saves, suspends and the windows between them.
use Rattle.std.specs.Prelude.{ℕ, zero, suc, Bool, false, not, List, [], map, length, pos, IsFalse, slice_get, Some, None, filter, filter_map, Option, unwrap_or, option_map, option_and_then, ◌&&◌, ◌∷◌, ◌++◌, if◌then◌else◌, ◌==◌}
use Rattle.ir_model.specs.Names.{first_where, is_local, same_intrinsic}
use Rattle.ir_model.specs.declared.operand.Arg.{Arg}
use Rattle.ir_model.specs.declared.operand.Callee.{Callee}
use Rattle.ir_model.specs.declared.instr.Case.{Case}
use Rattle.ir_model.specs.declared.instr.Instr.{Instr}
use Rattle.ir_model.specs.declared.operand.Intrinsic.{Intrinsic}
use Rattle.ir_model.specs.declared.operand.Operand.{Operand}
use Rattle.ir_model.specs.declared.instr.Terminator.{Terminator}
use Rattle.ir_model.specs.declared.module.Block.{Block}
use Rattle.ir_model.specs.declared.module.Function.{Function}
use Rattle.ir_paths.specs.Paths.{Leads, has_point, led_to, same_point}
use Rattle.ir_paths.specs.declared.point.Point.{Point}
use Rattle.ir_paths.specs.declared.point.Window.{Window}
use Rattle.std.specs.List.{list_any}

-- ---- the calls of a coroutine

abbrev pub is_call_of : Intrinsic → Instr → Bool
is_call_of i (Instr.Call result must_tail ty (Callee.Intrinsic j) args) = same_intrinsic i j
is_call_of i _ = false

-- the operand at a position of a call
abbrev pub operand_at : List Arg → ℕ → Operand
operand_at [] i = Operand.None
operand_at (a ∷ args) zero = a.value
operand_at (a ∷ args) (suc i) = operand_at args i

abbrev pub call_operand : Instr → ℕ → Operand
call_operand (Instr.Call result must_tail ty callee args) i = operand_at args i
call_operand _ i = Operand.None

abbrev pub call_result : Instr → Option ℕ
call_result (Instr.Call result must_tail ty callee args) = result
call_result _ = None

-- the points of a block's instructions that pass a test, from a position on
abbrev pub points_from : (Instr → Bool) → ℕ → ℕ → List Instr → List Point
points_from test block at [] = []
points_from test block at (i ∷ is) =
    if test i then record { block = block; at = at } ∷ points_from test block (suc at) is else points_from test block (suc at) is

abbrev pub points_in : (Instr → Bool) → ℕ → List Block → List Point
points_in test block [] = []
points_in test block (b ∷ blocks) = points_from test block 0 b.instrs ++ points_in test (suc block) blocks

-- the points of the instructions that pass a test, in order of the text
abbrev pub points_where : (Instr → Bool) → Function → List Point
points_where test f = points_in test 0 f.blocks

abbrev pub instr_in : Option Block → ℕ → Option Instr
instr_in None at = None
instr_in (Some b) at = slice_get b.instrs at

abbrev pub instr_at : Function → Point → Option Instr
instr_at f p = instr_in (slice_get f.blocks p.block) p.at

-- the position of the block of coro.end, or that behind the last block where there is none
abbrev pub end_block : Function → ℕ
end_block f = unwrap_or (first_where (λ b. list_any (is_call_of Intrinsic.CoroEnd) b.instrs) f.blocks) (length f.blocks)

-- ---- a suspend's switch

abbrev pub is_number : ℕ → Operand → Bool
is_number n (Operand.Number (pos k)) = n == k
is_number n _ = false

abbrev pub label_in : ℕ → List Case → ℕ → ℕ
label_in n [] default = default
label_in n (k ∷ cases) default = if is_number n k.arg.value then k.target else label_in n cases default

abbrev pub label_of_term : ℕ → Terminator → ℕ
label_of_term n (Terminator.Switch arg default cases) = label_in n cases default
label_of_term n _ = 0

abbrev pub label_at : ℕ → Option Block → ℕ
label_at n None = 0
label_at n (Some b) = label_of_term n b.term

-- the label of 0 and that of 1 of a suspend's switch
abbrev pub resume_label : Function → Point → ℕ
resume_label f suspend = label_at 0 (slice_get f.blocks suspend.block)

abbrev pub destroy_label : Function → Point → ℕ
destroy_label f suspend = label_at 1 (slice_get f.blocks suspend.block)

-- ---- windows

abbrev pub is_suspend_of : Option ℕ → Instr → Bool
is_suspend_of None i = false
is_suspend_of (Some save) i = is_call_of Intrinsic.CoroSuspend i && is_local save (call_operand i 0)

-- the suspend of a save, which takes its token
abbrev pub suspend_of : Function → Point → Option Point
suspend_of f save = slice_get (points_where (is_suspend_of (option_and_then call_result (instr_at f save))) f) 0

-- p is in the window of a save with its suspend
pub record IsInWindow (f : Function) (save suspend p : Point) : Type 0 where
  pub is_not_save : IsFalse (same_point p save)
  pub is_not_suspend : IsFalse (same_point p suspend)
  pub from_save : Leads f (save ∷ suspend ∷ []) save p
  pub to_suspend : Leads f (save ∷ suspend ∷ []) p suspend

-- the same, found by a search
abbrev pub window_points : Function → Point → Point → List Point
window_points f save suspend =
    filter (λ p. not (same_point p save) && not (same_point p suspend) && has_point (led_to f (save ∷ suspend ∷ []) p) suspend)
    (led_to f (save ∷ suspend ∷ []) save)

abbrev pub window_of : Function → Point → Point → Window
window_of f save suspend = record { save = save; suspend = suspend; inside = window_points f save suspend }

-- the saves with their suspends, in order of the text
abbrev pub saves_of : Function → List (Point × Point)
saves_of f = filter_map (λ save. option_map (λ suspend. (save, suspend)) (suspend_of f save)) (points_where (is_call_of Intrinsic.CoroSave) f)

abbrev pub windows_of : Function → List Window
windows_of f = map (λ (save, suspend). window_of f save suspend) (saves_of f)

-- the edge from p to q goes out of the window, and not to its suspend
abbrev pub leaves : Point → Point → Window → Bool
leaves p q w = has_point w.inside p && not (has_point w.inside q) && not (same_point q w.suspend)
