-- Lemmas on passes.
use Rattle.std.specs.Prelude.{◌≡◌, ℕ, List, None, length, ◌∷◌}
use Rattle.pass_exits_proof.specs.addresses.rules.Addresses.{AddressesFit}
use Rattle.pass_exits_proof.specs.rule_laws.rules.counted.Widths.{first_other_width}
use Rattle.pass_exits_proof.specs.copies.rules.Copies.{CopiesFit, copied_slots}
use Rattle.pass_exits_proof.specs.frame_contents.declared.contents.Contents.{Contents}
use Rattle.pass_exits_proof.specs.frame_layout.declared.layout.Layout.{Layout}
use Rattle.ir_model.specs.declared.module.Function.{Function}
use Rattle.ir_model.specs.declared.module.Module.{Module}
use Rattle.pass_exits_proof.specs.frame_classes.declared.class.SlotClass.{SlotClass}
use Rattle.pass_frames.specs.Framed.{begin_block, begin_of, celled, copied, offsets_of}
use Rattle.pass_frames.specs.Tables.{class_flags, label_flags, sizes_by_name}

-- what the passes ask: integer types have the widths that types are written with, slots are copied at begin, and slots become bytes of
-- the frame
pub record PassesFit (m : Module) (k : ℕ) (l : Layout) (f : Function) (c : Contents) (before : List ℕ) : Type 0 where
  pub widths : first_other_width k f ≡ None
  pub copies : CopiesFit (celled m f c) (copied_slots (celled m f c) (class_flags f c.classes SlotClass.Frame) (label_flags (celled m f c) (begin_block (celled m f c) ∷ before)) (sizes_by_name f c.held))
  pub addresses : AddressesFit k (copied f c (celled m f c) before) (begin_of f) (offsets_of l f c (length (copied f c (celled m f c) before).names)) (class_flags f c.classes SlotClass.Ramp)
