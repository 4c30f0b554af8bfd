-- Coroutines in which the end comes between a suspend and a return.
use Rattle.pass_fetch_proof.specs.flow_solver.Paths.{IsListed}
use Rattle.pass_fetch_proof.specs.pass_intrinsics.Shapes.{suspends_of}
use Rattle.pass_fetch_proof.specs.pass_intrinsics.declared.shape.SuspendPoint.{SuspendPoint}
use Rattle.ir_model.specs.declared.module.Function.{Function}
use Rattle.pass_exits_proof.specs.split.rules.Reached.{IsLedTo}
use Rattle.pass_fetch_proof.specs.rule_laws.frames.replaced.Splittable.{IsEndedFirst}

-- from the edges of suspends that are reached no path leads to a return outside the end's block
abbrev pub AreEndedFirst : Function → Type 0
AreEndedFirst f = (p : SuspendPoint) → IsListed p (suspends_of f) → IsLedTo f p.block → IsEndedFirst f p
