-- Lemmas on splittable.
use Rattle.std.specs.Prelude.{◌≡◌, ℕ, true, None, Some, slice_get}
use Rattle.pass_fetch_proof.specs.rule_shape.OneOfEach.{wrong_call}
use Rattle.pass_fetch_proof.specs.rule_shape.Switches.{wrong_switch}
use Rattle.pass_fetch_proof.specs.flow_solver.Paths.{IsListed}
use Rattle.pass_fetch_proof.specs.rule_laws.rules.function_rules.Kept.{KeepsFunctionRules}
use Rattle.pass_fetch_proof.specs.pass_front.Front.{with_allocas_first}
use Rattle.pass_fetch_proof.specs.pass_intrinsics.Shapes.{suspends_of}
use Rattle.pass_fetch_proof.specs.pass_intrinsics.declared.shape.SuspendPoint.{SuspendPoint}
use Rattle.ir_model.specs.Calls.{first_result}
use Rattle.ir_model.specs.declared.module.Block.{Block}
use Rattle.ir_model.specs.declared.module.Function.{Function}
use Rattle.ir_model.specs.declared.module.Module.{Module}
use Rattle.ir_model.specs.declared.operand.Intrinsic.{Intrinsic}
use Rattle.pass_fetch_proof.specs.ir_paths.declared.point.Point.{Point}
use Rattle.pass_exits_proof.specs.split.rules.Reached.{IsLedTo}
use Rattle.pass_fetch_proof.specs.run_laws.changed.Changed.{Each}
use Rattle.pass_fetch_proof.specs.frame_crossing.Crossing.{suspends_of as suspend_points}
use Rattle.pass_fetch_proof.specs.frame_crossing.Paths.{IsDefinedBefore, IsNeededBehind}
use Rattle.pass_fetch_proof.specs.ir_laws.paths.woven_rules.Pairs.{AreDifferent}
use Rattle.pass_fetch_proof.specs.rule_laws.rules.woven_rules.Pairs.{AreIncomingOnce}
use Rattle.pass_fetch_proof.specs.rule_laws.frames.replaced.Splittable.{HasOwnEdges, IsEndedFirst, may_cross, tokens_taken}
use Rattle.pass_fetch_proof.specs.rule_laws.rules.replaced.Splittable.{AreBlocksBegun}

-- ---- the coroutine

-- A coroutine of a module, whose begin's value is named and whose allocas stand in front. It breaks no rule of functions, neither K2
-- nor K3, and nothing that asks for begin stands where begin may be missing. Each suspend has a save and edges of its own. Behind those
-- to which paths lead the end comes before a return, and no further values cross them.
pub record IsSplittable (m : Module) (k : ℕ) (f : Function) (begin : ℕ) : Type 0 where
  pub coroutine : f.coroutine ≡ true
  pub rules : KeepsFunctionRules m k f
  pub once : AreIncomingOnce f
  pub calls : wrong_call k f ≡ None
  pub switches : wrong_switch k f ≡ None
  pub named : first_result Intrinsic.CoroBegin f ≡ Some begin
  pub front : with_allocas_first f.blocks ≡ f.blocks
  pub begun : AreBlocksBegun f begin 0 f.blocks
  pub tokens : AreDifferent (tokens_taken f)
  pub edges : Each (HasOwnEdges f) (suspends_of f)
  pub returns : (p : SuspendPoint) → IsListed p (suspends_of f) → IsLedTo f p.block → IsEndedFirst f p
  pub crossing : (v : ℕ) (s : Point) (b : Block) → IsListed s (suspend_points f) → slice_get f.blocks s.block ≡ Some b → IsLedTo f b.label → IsDefinedBefore f v s.block s.at → IsNeededBehind f v s → may_cross m f v ≡ true
