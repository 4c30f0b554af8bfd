-- The last pass: the calls of `coro.id` go, and the declarations of the coro intrinsics.
use Rattle.std.specs.Prelude.{Bool, true, false, not, map, filter}
use Rattle.ir_model.specs.Table.{callee_named}
use Rattle.ir_model.specs.declared.instr.Instr.{Instr}
use Rattle.ir_model.specs.declared.module.Block.{Block}
use Rattle.ir_model.specs.declared.module.Declaration.{Declaration}
use Rattle.ir_model.specs.declared.module.Function.{Function}
use Rattle.ir_model.specs.declared.module.Module.{Module}
use Rattle.ir_model.specs.declared.operand.Callee.{Callee}
use Rattle.ir_model.specs.declared.operand.Intrinsic.{Intrinsic}

-- the markers and memcpy are no coro intrinsics
abbrev pub is_coro : Intrinsic → Bool
is_coro Intrinsic.LifetimeStart = false
is_coro Intrinsic.LifetimeEnd = false
is_coro Intrinsic.MemcpyI64 = false
is_coro Intrinsic.MemcpyI32 = false
is_coro _ = true

abbrev pub is_kept_instr : Instr → Bool
is_kept_instr (Instr.Call result must_tail ty (Callee.Intrinsic Intrinsic.CoroId) args) = false
is_kept_instr _ = true

abbrev pub is_kept_callee : Callee → Bool
is_kept_callee (Callee.Intrinsic i) = not (is_coro i)
is_kept_callee _ = true

abbrev pub is_kept_declaration : Declaration → Bool
is_kept_declaration d = is_kept_callee (callee_named d.name)

abbrev pub clean_block : Block → Block
clean_block b = record { label = b.label; phis = b.phis; instrs = filter is_kept_instr b.instrs; term = b.term }

abbrev pub clean_function : Function → Function
clean_function f =
    record { name = f.name; result = f.result; params = f.params; coroutine = f.coroutine; blocks = map clean_block f.blocks; names = f.names }

abbrev pub clean_module : Module → Module
clean_module m =
    record {
      types = m.types;
      globals = m.globals;
      declarations = filter is_kept_declaration m.declarations;
      functions = map clean_function m.functions;
    }
