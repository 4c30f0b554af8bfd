-- Which modules hold no coro intrinsic.
use Rattle.std.specs.Prelude.{Bool, true, not, List, ◌&&◌, ◌||◌}
use Rattle.std.specs.List.{list_all}
use Rattle.pass_cleanup.specs.Cleanup.{is_kept_callee, is_kept_declaration, is_kept_instr}
use Rattle.ir_model.specs.declared.instr.Instr.{Instr}
use Rattle.ir_model.specs.declared.module.Function.{Function}
use Rattle.ir_model.specs.declared.module.Module.{Module}

-- the instruction calls no coro intrinsic
abbrev pub is_free : Instr → Bool
is_free (Instr.Call result must_tail ty callee args) = is_kept_callee callee
is_free _ = true

-- each instruction of the functions passes a test
abbrev pub each_instr : (Instr → Bool) → List Function → Bool
each_instr test functions = list_all (λ f. list_all (λ b. list_all test b.instrs) f.blocks) functions

-- of the coro intrinsics none is called but coro.id
abbrev pub calls_id_alone : Module → Bool
calls_id_alone m = each_instr (λ i. not (is_kept_instr i) || is_free i) m.functions

-- no coro intrinsic is called or declared
abbrev pub is_free_module : Module → Bool
is_free_module m = each_instr is_free m.functions && list_all is_kept_declaration m.declarations
