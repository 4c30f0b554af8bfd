-- Coroutines whose frames may be built.
use Rattle.std.specs.Prelude.{◌≡◌, ◌<◌, ◌^◌, ℕ, true, List, None, Some, length}
use Rattle.pass_proofs.specs.frames.begin_order.Behind.{AreBlocksBehind}
use Rattle.pass_proofs.specs.frames.begin_order.Frames.{slot_offsets}
use Rattle.pass_exits_proof.specs.rule_laws.rules.counted.Widths.{first_other_width}
use Rattle.pass_exits_proof.specs.rule_shape.OneOfEach.{wrong_call}
use Rattle.pass_exits_proof.specs.rule_shape.Switches.{wrong_switch}
use Rattle.pass_exits_proof.specs.frame_contents.Frames.{AreContents}
use Rattle.pass_exits_proof.specs.frame_contents.declared.contents.Contents.{Contents}
use Rattle.pass_exits_proof.specs.frame_layout.declared.layout.Layout.{Layout}
use Rattle.pass_exits_proof.specs.rule_laws.rules.function_rules.Kept.{KeepsFunctionRules}
use Rattle.ir_model.specs.Calls.{first_result}
use Rattle.ir_model.specs.declared.module.Function.{Function}
use Rattle.ir_model.specs.declared.module.Module.{Module}
use Rattle.ir_model.specs.declared.operand.Intrinsic.{Intrinsic}
use Rattle.pass_exits_proof.specs.frame_classes.declared.class.SlotClass.{SlotClass}
use Rattle.pass_frames.specs.Framed.{AreBefore, celled, copied}
use Rattle.pass_frames.specs.Tables.{class_flags, offset_at}
use Rattle.pass_exits_proof.specs.rule_windows.Outside.{IsFirstOutside}
use Rattle.pass_exits_proof.specs.rule_windows.Windows.{IsFirstWindow}

-- The coroutine breaks none of the rules of functions, nor K2, K3, K5 and K6, its begin's value has a name, its integer types have the
-- widths that types are written with, offsets are numbers of 64 bits, and its frame slots are used behind begin, but for accesses.
pub record IsBuildable (m : Module) (k : ℕ) (l : Layout) (f : Function) (c : Contents) (before : List ℕ) (begin : ℕ) : Type 0 where
  pub rules : KeepsFunctionRules m k f
  pub coroutine : f.coroutine ≡ true
  pub calls : wrong_call k f ≡ None
  pub switches : wrong_switch k f ≡ None
  pub outside : IsFirstOutside k f None
  pub window : IsFirstWindow k f None
  pub named : first_result Intrinsic.CoroBegin f ≡ Some begin
  pub contents : AreContents m f c
  pub widths : first_other_width k f ≡ None
  pub before_are : AreBefore (celled m f c) before
  pub near : (n : ℕ) → offset_at l n < 2 ^ 64
  pub uses : AreBlocksBehind f begin (class_flags f c.classes SlotClass.Frame) (slot_offsets l c (length (copied f c (celled m f c) before).names))
