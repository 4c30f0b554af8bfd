-- Coroutines whose frames are built by their contents and a layout.
use Rattle.std.specs.Prelude.{◌≡◌, ℕ, true, List, None, Option, Some, replicate, ◌^◌, ◌<◌}
use Rattle.pass_proofs.specs.frames.begin_order.Behind.{AreBlocksBehind}
use Rattle.pass_exits_proof.specs.cells.rules.Asked.{AreCellsFor}
use Rattle.pass_exits_proof.specs.rule_shape.OneOfEach.{wrong_call}
use Rattle.pass_exits_proof.specs.frame_contents.Frames.{AreContents}
use Rattle.pass_exits_proof.specs.frame_contents.declared.contents.Contents.{Contents}
use Rattle.pass_exits_proof.specs.ir_laws.paths.threads.Labels.{HasNamedLabels}
use Rattle.pass_exits_proof.specs.edges.paths.Phis.{AreLabelsOnce}
use Rattle.pass_edges.specs.EdgeBlocks.{with_edge_blocks}
use Rattle.pass_exits_proof.specs.frame_layout.declared.layout.Layout.{Layout}
use Rattle.pass_exits_proof.specs.rule_laws.rules.function_rules.Kept.{KeepsFunctionRules}
use Rattle.pass_exits_proof.specs.pass_intrinsics.Shapes.{suspends_of}
use Rattle.ir_model.specs.Calls.{first_result}
use Rattle.ir_model.specs.declared.module.Function.{Function}
use Rattle.ir_model.specs.declared.module.Module.{Module}
use Rattle.ir_model.specs.declared.operand.Intrinsic.{Intrinsic}
use Rattle.pass_exits_proof.specs.frame_classes.declared.class.SlotClass.{SlotClass}
use Rattle.pass_frames.specs.Framed.{celled}
use Rattle.pass_frames.specs.Tables.{class_flags, offset_at, with_slot_offsets}
use Rattle.pass_exits_proof.specs.rule_laws.rules.replaced.Splittable.{AreBlocksBegun}
use Rattle.pass_exits_proof.specs.rule_laws.frames.replaced.Splittable.{HasOwnEdges}
use Rattle.pass_exits_proof.specs.run_laws.changed.Changed.{Each}
use Rattle.pass_exits_proof.specs.rule_laws.rules.woven_rules.Pairs.{AreIncomingOnce}

-- the offsets of slots alone, for so many names
abbrev pub slot_offsets : Layout → Contents → ℕ → List (Option ℕ)
slot_offsets l c names = with_slot_offsets l 0 c.held (replicate names None)

-- The coroutine with blocks on its edges breaks no rule of functions and asks for begin only behind it, cells do for its crossing values and
-- leave its suspends as they are, its calls break no rule (K2), offsets are numbers of 64 bits, and frame slots are used behind begin.
pub record IsFrameable (m : Module) (k : ℕ) (l : Layout) (f : Function) (c : Contents) (begin names : ℕ) : Type 0 where
  pub rules : KeepsFunctionRules m k (with_edge_blocks f)
  pub once : AreIncomingOnce (with_edge_blocks f)
  pub cells : AreCellsFor k (with_edge_blocks f) c.crossing (class_flags f c.classes SlotClass.Local)
  pub contents : AreContents m f c
  pub suspends : suspends_of (celled m f c) ≡ suspends_of (with_edge_blocks f)
  pub begun : AreBlocksBegun (with_edge_blocks f) begin 0 (with_edge_blocks f).blocks
  pub edges : Each (HasOwnEdges (with_edge_blocks f)) (suspends_of (with_edge_blocks f))
  pub begins : first_result Intrinsic.CoroBegin f ≡ Some begin
  pub coroutine : f.coroutine ≡ true
  pub calls : wrong_call k (with_edge_blocks f) ≡ None
  pub near : (n : ℕ) → offset_at l n < 2 ^ 64
  pub labels : HasNamedLabels f
  pub apart : AreLabelsOnce f
  pub uses : AreBlocksBehind f begin (class_flags f c.classes SlotClass.Frame) (slot_offsets l c names)
