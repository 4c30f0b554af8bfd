-- The coroutine of which the framed form is made, before addresses in frames are put in, breaks no rule of functions.
use Rattle.std.proofs.Common.{◌≡◌, ℕ, Bool, List, ◌∷◌, length, refl, sym, ap, ◌∙◌, subst}
use Rattle.compiler.specs.frame_classes.declared.class.SlotClass.{SlotClass}
use Rattle.compiler.specs.frame_contents.declared.contents.Contents.{Contents}
use Rattle.compiler.specs.frame_layout.declared.layout.Layout.{Layout}
use Rattle.compiler.specs.ir_model.Names.{position_of}
use Rattle.compiler.specs.ir_model.declared.module.Function.{Function}
use Rattle.compiler.specs.ir_model.declared.module.Module.{Module}
use Rattle.compiler.specs.pass_addresses.Placing.{without_markers}
use Rattle.compiler.specs.pass_copies.BeginCopies.{with_begin_copies}
use Rattle.compiler.specs.pass_edges.EdgeBlocks.{with_edge_blocks}
use Rattle.compiler.specs.pass_frames.Framed.{begin_block, begin_of, celled, copied}
use Rattle.compiler.specs.pass_frames.Tables.{class_flags, label_flags, sizes_by_name}
use Rattle.pass_frames_meaning.specs.pass_frames_proof.Places.{Framing, edged, offsets, unmarked}
use Rattle.compiler.proofs.pass_proofs.addresses.begin_order.Passing.{woven_passes}
use Rattle.compiler.proofs.pass_proofs.addresses.rules.Unmarked.{left_woven, markers_woven, stays_all, unmarked_keeps}
use Rattle.compiler.proofs.pass_proofs.copies.rules.KeptCopies.{with_copies_keeps, with_copies_woven}
use Rattle.compiler.proofs.pass_proofs.frames.begin_order.Framed.{celled_keeps, celled_once, woven}
use Rattle.compiler.proofs.pass_proofs.frames.rules.Built.{frameable, passes_fit}
use Rattle.compiler.specs.pass_proofs.addresses.rules.Addresses.{HasBegin, left_over, turning_weaving}
use Rattle.compiler.specs.pass_proofs.cells.rules.Weaving.{cells_weaving}
use Rattle.compiler.specs.pass_proofs.copies.rules.Copies.{copied_slots, copy_weaving}
use Rattle.compiler.specs.pass_proofs.frames.begin_order.Frames.{IsFrameable}
use Rattle.compiler.specs.pass_proofs.frames.rules.Buildable.{IsBuildable}
use Rattle.compiler.specs.pass_proofs.frames.shape.Passes.{PassesFit}
use Rattle.compiler.proofs.rule_laws.rules.woven_rules.All.{rules_woven}
use Rattle.compiler.proofs.rule_laws.rules.woven_rules.Edges.{incoming_woven}
use Rattle.compiler.specs.rule_laws.rules.function_rules.Kept.{KeepsFunctionRules}
use Rattle.compiler.specs.rule_laws.rules.woven_rules.Pairs.{AreIncomingOnce}
use Rattle.compiler.specs.rule_uses.Undefined.{ReachesWithout}
use Rattle.compiler.specs.rule_uses.Uses.{uses_of}
use Rattle.compiler.specs.run_laws.changed.Changed.{Each}

module _ (m : Module) (k : ℕ) (l : Layout) (f : Function) (c : Contents) (before : List ℕ) (begin : ℕ)
    (h : IsBuildable m k l f c before begin) where
  abbrev pub built_of : Framing
  built_of = record { code = m; layout = l; function = f; contents = c; before = before }

  abbrev Copied : Function
  Copied = copied f c (celled m f c) before

  abbrev names : ℕ
  names = length (copied f c (celled m f c) before).names

  abbrev Slots : List Bool
  Slots = class_flags f c.classes SlotClass.Frame

  abbrev Marked : List Bool
  Marked = class_flags f c.classes SlotClass.Ramp

  abbrev Before : List Bool
  Before = label_flags (celled m f c) (begin_block (celled m f c) ∷ before)

  abbrev Sizes : List ℕ
  Sizes = sizes_by_name f c.held

  may : IsFrameable m k l f c begin (length (copied f c (celled m f c) before).names)
  may = frameable m k l f c before begin h

  fit : PassesFit m k l f c before
  fit = passes_fit m k l f c before begin h

  keeps : KeepsFunctionRules m k (celled m f c)
  keeps = celled_keeps m k l f c begin names may

  once : AreIncomingOnce (celled m f c)
  once = celled_once m k l f c begin names may

  copied_rules : KeepsFunctionRules m k (copied f c (celled m f c) before)
  unfolding copied
  copied_rules = with_copies_keeps m k (celled m f c) Slots Before Sizes keeps once fit.copies

  copied_once : AreIncomingOnce (copied f c (celled m f c) before)
  unfolding copied
  copied_once = incoming_woven (copy_weaving (celled m f c) Before (copied_slots (celled m f c) Slots Before Sizes)) m
      (celled m f c) (with_begin_copies (celled m f c) Slots Before Sizes)
      (with_copies_woven m k (celled m f c) Slots Before Sizes keeps fit.copies) once

  -- labels stand where they stood
  cells_position : (label : ℕ) → position_of (celled m f c) label ≡ position_of (with_edge_blocks f) label
  unfolding celled
  cells_position = (woven_passes
      (cells_weaving m (with_edge_blocks f) c.crossing (class_flags f c.classes SlotClass.Local))
      m k (with_edge_blocks f) (celled m f c) begin (woven m k l f c begin names may) may.rules may.once refl).position

  copies_position : (label : ℕ) → position_of (copied f c (celled m f c) before) label ≡ position_of
      (celled m f c) label
  unfolding copied
  copies_position = (woven_passes
      (copy_weaving (celled m f c) Before (copied_slots (celled m f c) Slots Before Sizes)) m k
      (celled m f c) (with_begin_copies (celled m f c) Slots Before Sizes) begin
      (with_copies_woven m k (celled m f c) Slots Before Sizes keeps fit.copies) keeps once refl).position

  markers_rules : KeepsFunctionRules m k (without_markers Marked (copied f c (celled m f c) before))
  markers_rules = rules_woven (turning_weaving Copied stays_all) m k Copied (without_markers Marked Copied)
      (markers_woven m k Copied Marked copied_rules) copied_rules copied_once

  markers_once : AreIncomingOnce (without_markers Marked (copied f c (celled m f c) before))
  markers_once = incoming_woven (turning_weaving Copied stays_all) m Copied (without_markers Marked Copied)
      (markers_woven m k Copied Marked copied_rules) copied_once

  markers_position : (label : ℕ) → position_of (without_markers Marked Copied) label ≡ position_of Copied label
  markers_position = (woven_passes (turning_weaving Copied stays_all) m k Copied (without_markers Marked Copied) begin
      (markers_woven m k Copied Marked copied_rules) copied_rules copied_once refl).position

  left_position : (label : ℕ) → position_of (left_over Marked Copied) label
      ≡ position_of (without_markers Marked Copied) label
  left_position = (woven_passes (turning_weaving (without_markers Marked Copied) stays_all) m k
      (without_markers Marked Copied) (left_over Marked Copied) begin
      (left_woven m k Copied Marked copied_rules copied_once) markers_rules markers_once refl).position

  unmarked_is : left_over Marked (copied f c (celled m f c) before) ≡ unmarked (built_of)
  unfolding celled copied
  unmarked_is = refl

  pub left_rules : KeepsFunctionRules m k (unmarked (built_of))
  left_rules = subst (KeepsFunctionRules m k) unmarked_is (unmarked_keeps m k Copied Marked copied_rules copied_once)

  pub left_positions : (label : ℕ) → position_of (unmarked (built_of)) label ≡ position_of (edged (built_of)) label
  left_positions label =
      ap (λ (g : Function). position_of g label) (sym unmarked_is) ∙ left_position label ∙ markers_position label
      ∙ copies_position label ∙ cells_position label

  copies_path : (block : ℕ) → ReachesWithout (copied f c (celled m f c) before) begin block
      → ReachesWithout (celled m f c) begin block
  unfolding copied
  copies_path block path = (woven_passes
      (copy_weaving (celled m f c) Before (copied_slots (celled m f c) Slots Before Sizes)) m k
      (celled m f c) (with_begin_copies (celled m f c) Slots Before Sizes) begin
      (with_copies_woven m k (celled m f c) Slots Before Sizes keeps fit.copies) keeps once refl).path block path

  markers_path : (block : ℕ) → ReachesWithout (without_markers Marked Copied) begin block
      → ReachesWithout Copied begin block
  markers_path block path = (woven_passes (turning_weaving Copied stays_all) m k Copied (without_markers Marked Copied)
      begin (markers_woven m k Copied Marked copied_rules) copied_rules copied_once refl).path block path

  left_over_path : (block : ℕ) → ReachesWithout (left_over Marked Copied) begin block
      → ReachesWithout (without_markers Marked Copied) begin block
  left_over_path block path = (woven_passes (turning_weaving (without_markers Marked Copied) stays_all) m k
      (without_markers Marked Copied) (left_over Marked Copied) begin
      (left_woven m k Copied Marked copied_rules copied_once) markers_rules markers_once refl).path block path

  -- a path without begin's value leads there where values are in cells, too
  pub left_path : (block : ℕ) → ReachesWithout (unmarked (built_of)) begin block
      → ReachesWithout (celled m f c) begin block
  left_path block path = copies_path block (markers_path block (left_over_path block
      (subst (λ (g : Function). ReachesWithout g begin block) (sym unmarked_is) path)))

  pub left_uses : Each (HasBegin (unmarked (built_of)) (begin_of f) (offsets (built_of)))
      (uses_of k (unmarked (built_of)))
  unfolding celled copied
  left_uses = fit.addresses.behind
