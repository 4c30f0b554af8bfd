-- Coro intrinsics where they may not stand (rule K1).
use Rattle.std.specs.Prelude.{ℕ, Bool, true, false, not, Option, ◌&&◌, ◌||◌}
use Rattle.std.specs.List.{list_all}
use Rattle.ir_base.specs.declared.outcome.Place.{Place}
use Rattle.ir_parts.specs.Contents.{part_operands}
use Rattle.ir_parts.specs.Parts.{Part, Signature, OfInstr, first_part, parts_of}
use Rattle.ir_model.specs.Table.{callee_named}
use Rattle.ir_model.specs.declared.instr.Instr.{Instr}
use Rattle.ir_model.specs.declared.module.Function.{Function}
use Rattle.ir_model.specs.declared.operand.Callee.{Callee}
use Rattle.ir_model.specs.declared.operand.Intrinsic.{Intrinsic}
use Rattle.ir_model.specs.declared.operand.Operand.{Operand}
use Rattle.rule_locals.specs.Instrs.{on_instr}
use Rattle.rule_names.specs.declared.stage.Stage.{Stage}

-- the intrinsics that stand in coroutines alone
abbrev pub is_inner : Intrinsic → Bool
is_inner Intrinsic.CoroId = true
is_inner Intrinsic.CoroSizeI32 = true
is_inner Intrinsic.CoroSizeI64 = true
is_inner Intrinsic.CoroAlignI32 = true
is_inner Intrinsic.CoroAlignI64 = true
is_inner Intrinsic.CoroAlloc = true
is_inner Intrinsic.CoroBegin = true
is_inner Intrinsic.CoroFree = true
is_inner Intrinsic.CoroFrame = true
is_inner Intrinsic.CoroSave = true
is_inner Intrinsic.CoroSuspend = true
is_inner Intrinsic.CoroEnd = true
is_inner i = false

-- the coro intrinsics: these, and those that stand anywhere in a source
abbrev pub is_coro : Intrinsic → Bool
is_coro Intrinsic.CoroResume = true
is_coro Intrinsic.CoroDestroy = true
is_coro Intrinsic.CoroDone = true
is_coro Intrinsic.CoroPromise = true
is_coro i = is_inner i

abbrev pub is_call_of : (Intrinsic → Bool) → Callee → Bool
is_call_of test (Callee.Intrinsic i) = test i
is_call_of test c = false

-- in a source: one of the inner intrinsics outside a coroutine
abbrev pub calls_inner : Bool → Place → Instr → Bool
calls_inner coroutine place (Instr.Call r must_tail ty callee args) = not coroutine && is_call_of is_inner callee
calls_inner coroutine place i = false

-- no coro intrinsic's address
abbrev pub is_no_coro : Operand → Bool
is_no_coro (Operand.Global n) = not (is_call_of is_coro (callee_named n))
is_no_coro x = true

abbrev pub is_coro_part : Part → Bool
is_coro_part (Signature f) = f.coroutine
is_coro_part (OfInstr (Instr.Call r must_tail ty callee args)) = is_call_of is_coro callee
is_coro_part x = false

-- in a plain module: a coro intrinsic, called or its address, and a coroutine
abbrev pub has_coro : Place → Part → Bool
has_coro place part = is_coro_part part || not (list_all is_no_coro (part_operands part))

-- K1
abbrev pub misplaces : Stage → Bool → Place → Part → Bool
misplaces Stage.Source coroutine = on_instr (calls_inner coroutine)
misplaces Stage.Plain coroutine = has_coro

abbrev pub first_misplaced : Stage → ℕ → Function → Option Place
first_misplaced stage k f = first_part (misplaces stage f.coroutine) (parts_of k f)
