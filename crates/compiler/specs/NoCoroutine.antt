-- What is lowered has no coroutine and no coro intrinsic.
use Rattle.std.specs.Prelude.{◌≡◌, Bool, true, not, ◌&&◌}
use Rattle.std.specs.List.{list_all}
use Rattle.pass_cleanup.specs.Free.{is_free_module}
use Rattle.ir_model.specs.declared.module.Module.{Module}
use Rattle.compiler.specs.Lowering.{OfLowered}
use Rattle.compiler.specs.declared.lowered.Lowering.{Lowering}

-- no function is a coroutine, and no coro intrinsic is called or declared
abbrev pub has_no_coroutine : Module → Bool
has_no_coroutine m = list_all (λ f. not f.coroutine) m.functions && is_free_module m

-- the lowered module, where there is one, is such a module
abbrev pub LeavesNoCoroutine : Lowering → Type 0
LeavesNoCoroutine = OfLowered (λ l. has_no_coroutine l.«module» ≡ true)
