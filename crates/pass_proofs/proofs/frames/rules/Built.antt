-- The passes that build a frame, by what is asked of the coroutine.
use Rattle.std.proofs.Common.{ℕ, Bool, List, length}
use Rattle.pass_proofs.proofs.frames.begin_order.Framed.{framed_addresses, framed_copies}
use Rattle.pass_proofs.proofs.frames.begin_order.Sizes.{held_sized}
use Rattle.pass_exits_proof.specs.ir_laws.facts.begin_order.Behind.{AreSizes}
use Rattle.pass_proofs.specs.frames.begin_order.Frames.{IsFrameable}
use Rattle.pass_exits_proof.proofs.cells.rules.Whole.{is_woven}
use Rattle.pass_exits_proof.specs.cells.rules.Asked.{AreCellsFor}
use Rattle.pass_exits_proof.specs.cells.rules.Weaving.{cells_weaving}
use Rattle.pass_exits_proof.specs.frame_contents.declared.contents.Contents.{Contents}
use Rattle.pass_exits_proof.proofs.rule_laws.rules.source_rules.Locals.{own_label}
use Rattle.pass_exits_proof.proofs.edges.rules.Kept.{crossing_kept, labels_different, phis_by_jumps, rules_kept, suspend_blocks}
use Rattle.pass_edges.specs.EdgeBlocks.{with_edge_blocks}
use Rattle.pass_exits_proof.proofs.rule_laws.rules.known_labels.Known.{labels_known}
use Rattle.pass_exits_proof.specs.frame_layout.declared.layout.Layout.{Layout}
use Rattle.pass_proofs.specs.frames.rules.Buildable.{IsBuildable}
use Rattle.pass_proofs.proofs.frames.shape.Cells.{cells_keep}
use Rattle.pass_exits_proof.proofs.edges.calls.Edges.{edges_shaped}
use Rattle.pass_proofs.proofs.frames.shape.Fits.{cells_fit}
use Rattle.pass_proofs.proofs.frames.shape.Framed.{all_framed, returns_quiet}
use Rattle.pass_exits_proof.specs.rule_laws.frames.shape.Passes.{IsKept}
use Rattle.pass_proofs.specs.frames.shape.Passes.{PassesFit}
use Rattle.pass_exits_proof.specs.rule_laws.rules.function_rules.Kept.{KeepsFunctionRules}
use Rattle.ir_model.specs.declared.module.Function.{Function}
use Rattle.ir_model.specs.declared.module.Module.{Module}
use Rattle.pass_exits_proof.specs.frame_classes.declared.class.SlotClass.{SlotClass}
use Rattle.pass_frames.specs.Framed.{celled, copied, placed}
use Rattle.pass_frames.specs.Tables.{class_flags, sizes_by_name}
use Rattle.pass_exits_proof.specs.frame_crossing.Crossing.{AreCrossing}
use Rattle.pass_exits_proof.specs.rule_laws.rules.woven_rules.Blocks.{IsWoven}
use Rattle.pass_exits_proof.proofs.rule_laws.frames.woven_shape.Shaped.{suspends_kept}
use Rattle.pass_exits_proof.specs.rule_laws.frames.woven_shape.Shaped.{IsShaped, KeepsCalls}

module _ (m : Module) (k : ℕ) (l : Layout) (f : Function) (c : Contents) (before : List ℕ) (begin : ℕ) (h : IsBuildable m k l f c before begin) where
  abbrev E : Function
  E = with_edge_blocks f

  abbrev Local : List Bool
  Local = class_flags f c.classes SlotClass.Local

  shape : IsShaped k E begin
  shape = edges_shaped m k f begin h.rules h.coroutine h.calls h.switches h.outside h.window h.named

  cells : AreCellsFor k E c.crossing Local
  cells = cells_fit m k f c h.rules h.coroutine h.calls h.switches h.contents.crossing_are h.widths

  rules : KeepsFunctionRules m k E
  rules = rules_kept m k f h.rules

  crossed : AreCrossing E c.crossing
  crossed = (crossing_kept m k f h.rules h.coroutine h.switches c.crossing).0 h.contents.crossing_are

  woven : IsWoven (cells_weaving m E c.crossing Local) m E (celled m f c)
  unfolding celled
  woven = is_woven m k E rules c.crossing Local cells

  keeps : KeepsCalls (cells_weaving m E c.crossing Local) E (celled m f c)
  unfolding celled
  keeps = cells_keep m k E c.crossing Local begin rules cells crossed h.coroutine shape (phis_by_jumps m k f h.rules) (returns_quiet m k E rules (suspend_blocks m k f h.rules h.coroutine h.switches))

  pub frameable : IsFrameable m k l f c begin (length (copied f c (celled m f c) before).names)
  frameable =
      record {
        rules = rules;
        once = labels_different m k f h.rules;
        cells = cells;
        contents = h.contents;
        suspends = suspends_kept (cells_weaving m E c.crossing Local) m E (celled m f c) woven keeps;
        begun = shape.begun;
        edges = shape.edges;
        begins = h.named;
        coroutine = h.coroutine;
        calls = shape.calls;
        near = h.near;
        labels = labels_known k f h.rules.tabled m h.rules.known;
        apart = own_label k f h.rules.definitions;
        uses = h.uses;
      }

  sized : AreSizes (sizes_by_name f c.held)
  sized = held_sized m k f c h.widths h.contents.held_are

  pub passes_fit : PassesFit m k l f c before
  passes_fit =
      record {
        widths = h.widths;
        copies = framed_copies m k l f c before begin (length (copied f c (celled m f c) before).names) frameable h.before_are sized;
        addresses = framed_addresses m k l f c before begin frameable h.before_are sized;
      }

  pub form_kept : IsKept m k (placed l f c (copied f c (celled m f c) before)) begin
  form_kept = all_framed m k l f c before begin h.rules h.coroutine h.calls h.switches h.outside h.window h.named h.contents.crossing_are passes_fit
