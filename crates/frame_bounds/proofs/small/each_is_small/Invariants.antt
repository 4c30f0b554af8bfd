use Rattle.std.proofs.Common.{◌≡◌, ℕ, ◌<◌, ◌≤◌, ◌^◌, Some}
use Rattle.std.specs.Prelude.{IsTrue, slice_get}
use Rattle.frame_bounds.specs.Bounds.{frame_bound}
use Rattle.ir_model.specs.declared.module.Function.{Function}
use Rattle.frame_bounds.proofs.small.each_is_small.Given as goal

abbrev pub invariant-loop-function : goal.invariant-loop-function
invariant-loop-function l = (i : ℕ) (f : Function) → i < l.function-index → slice_get l.functions i ≡ Some f → IsTrue f.coroutine → frame_bound l.sizes.names.now.source.now f ≤ 2 ^ 24
