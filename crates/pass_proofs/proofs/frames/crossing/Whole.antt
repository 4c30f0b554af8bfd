-- All the passes that build a coroutine's frame, one behind another.
use Rattle.std.proofs.Common.{◌≡◌, ℕ, ◌<◌, ◌≤◌, Bool, true, List, [], ◌∷◌, length, refl, sym, ◌∙◌, subst}
use Rattle.std.specs.Prelude.{None, Some}
use Rattle.pass_exits_proof.specs.addresses.rules.Addresses.{AddressesFit}
use Rattle.pass_exits_proof.proofs.cells.crossing.Whole.{nothing_needed, was_needed}
use Rattle.pass_exits_proof.specs.rule_laws.frames.crossing.Crossed.{IsNothingNeeded}
use Rattle.pass_exits_proof.proofs.rule_laws.rules.local_rules.Names.{numbers}
use Rattle.pass_exits_proof.proofs.rule_laws.rules.local_rules.Woven.{apart_names}
use Rattle.pass_exits_proof.proofs.ir_laws.paths.source_rules.Locals.{Apart}
use Rattle.pass_exits_proof.proofs.rule_laws.rules.source_rules.Locals.{names_are}
use Rattle.pass_exits_proof.proofs.rule_laws.rules.counted.DefinedKinds.{made_in}
use Rattle.pass_exits_proof.proofs.rule_laws.rules.counted.Slots.{instr_size}
use Rattle.pass_exits_proof.proofs.rule_laws.rules.counted.Times.{apart_times}
use Rattle.pass_exits_proof.proofs.rule_laws.rules.woven_rules.Once.{names_below}
use Rattle.pass_exits_proof.specs.cells.rules.Asked.{AreCellsFor}
use Rattle.pass_exits_proof.specs.ir_laws.facts.woven_rules.Pairs.{times}
use Rattle.pass_exits_proof.specs.ir_parts.Locals.{locals_of}
use Rattle.pass_exits_proof.specs.cells.rules.Weaving.{cells_weaving}
use Rattle.pass_exits_proof.specs.copies.rules.Copies.{CopiesFit, copied_slots, copy_weaving}
use Rattle.pass_exits_proof.specs.rule_shape.OneOfEach.{wrong_call}
use Rattle.pass_exits_proof.specs.rule_shape.Switches.{wrong_switch}
use Rattle.pass_exits_proof.specs.frame_contents.declared.contents.Contents.{Contents}
use Rattle.pass_edges.specs.EdgeBlocks.{with_edge_blocks}
use Rattle.pass_exits_proof.specs.frame_layout.declared.layout.Layout.{Layout}
use Rattle.pass_exits_proof.proofs.copies.crossing.Copied.{copies_follow, fronts_apart}
use Rattle.pass_proofs.proofs.frames.crossing.Ending.{edges_end_first}
use Rattle.pass_proofs.proofs.frames.crossing.Framed.{addresses_end_first, addresses_frames, addresses_nothing}
use Rattle.pass_exits_proof.proofs.split.crossing.Steps.{IsQuiet, frame_back, frame_named, frames_stay, nothing_stays}
use Rattle.pass_exits_proof.proofs.split.crossing.Ways.{woven_end_first}
use Rattle.pass_exits_proof.specs.rule_laws.frames.needed.Crossed.{AreFramesUnneeded}
use Rattle.pass_exits_proof.specs.split.crossing.Ended.{AreEndedFirst}
use Rattle.pass_exits_proof.proofs.cells.shape.Apart.{edges_apart}
use Rattle.pass_exits_proof.proofs.edges.calls.Edges.{edges_shaped}
use Rattle.pass_proofs.proofs.frames.shape.Fits.{cells_fit}
use Rattle.pass_proofs.proofs.frames.shape.Framed.{begin_is, coroutine_c, coroutine_d, crossed_e, jumps_d, keeps_c, keeps_d, once_d, rules_c, rules_d, rules_e, shape_c, shape_d, woven_c, woven_d}
use Rattle.pass_proofs.specs.frames.shape.Passes.{PassesFit}
use Rattle.pass_exits_proof.specs.rule_laws.rules.function_rules.Kept.{KeepsFunctionRules}
use Rattle.ir_model.specs.Calls.{first_result}
use Rattle.ir_model.specs.declared.instr.Instr.{Instr}
use Rattle.ir_model.specs.declared.module.Function.{Function}
use Rattle.ir_model.specs.declared.module.Module.{Module}
use Rattle.ir_model.specs.declared.operand.Intrinsic.{Intrinsic}
use Rattle.pass_exits_proof.specs.ir_paths.Windows.{instr_at, is_call_of}
use Rattle.pass_exits_proof.specs.ir_paths.declared.point.Point.{Point}
use Rattle.pass_exits_proof.specs.rule_locals.Markers.{made_size, slot_size}
use Rattle.pass_exits_proof.proofs.edges.unused_frames.Edges.{unused_where_edges_have_blocks}
use Rattle.pass_exits_proof.proofs.early.unused_frames.Flags.{IsFrame}
use Rattle.pass_exits_proof.proofs.ir_laws.paths.unused.Standing.{stands_at}
use Rattle.pass_exits_proof.proofs.rule_laws.frames.unused.Unneeded.{unneeded}
use Rattle.pass_exits_proof.specs.rule_laws.rules.unused.Unused.{AreFramesUnused}
use Rattle.pass_exits_proof.specs.frame_classes.declared.class.SlotClass.{SlotClass}
use Rattle.pass_frames.specs.Framed.{begin_block, begin_of, celled, copied, offsets_of, placed}
use Rattle.pass_frames.specs.Tables.{class_flags, label_flags, sizes_by_name}
use Rattle.pass_exits_proof.specs.frame_crossing.Crossing.{AreCrossing}
use Rattle.pass_exits_proof.specs.rule_windows.Outside.{IsFirstOutside}
use Rattle.pass_exits_proof.specs.rule_windows.Windows.{IsFirstWindow}
use Rattle.pass_exits_proof.specs.rule_laws.rules.woven_rules.Blocks.{IsWoven}
use Rattle.pass_exits_proof.specs.rule_laws.rules.woven_rules.Weaving.{Weaving}
use Rattle.pass_exits_proof.specs.rule_laws.frames.woven_shape.Shaped.{IsShaped, KeepsCalls}

no_size : (m : Module) (i : Instr) (v : ℕ) → is_call_of Intrinsic.CoroFrame i ≡ true → made_size m i v ≡ None
no_size m (Instr.Alloca r ty align) v e = absurd (cc)
no_size m _ v e = refl

module _ (m : Module) (k : ℕ) (f : Function) (c : Contents) (begin : ℕ) (rules : KeepsFunctionRules m k f) (coroutine : f.coroutine ≡ true) (calls : wrong_call k f ≡ None) (switches : wrong_switch k f ≡ None) (crossed : AreCrossing f c.crossing) (shape : IsShaped k (with_edge_blocks f) begin) where
  abbrev Edged : Function
  Edged = with_edge_blocks f

  abbrev Local : List Bool
  Local = class_flags f c.classes SlotClass.Local

  abbrev Celled : Function
  Celled = celled m f c

  abbrev Frame : List Bool
  Frame = class_flags f c.classes SlotClass.Frame

  abbrev Ramp : List Bool
  Ramp = class_flags f c.classes SlotClass.Ramp

  abbrev Sizes : List ℕ
  Sizes = sizes_by_name f c.held

  module _ (asked : AreCellsFor k Edged c.crossing Local) (before : List ℕ) where
    abbrev Flags : List Bool
    Flags = label_flags Celled (begin_block Celled ∷ before)

    abbrev Copied : Function
    Copied = copied f c Celled before

    abbrev celling : Weaving
    celling = cells_weaving m Edged c.crossing Local

    abbrev copying : Weaving
    copying = copy_weaving Celled Flags (copied_slots Celled Frame Flags Sizes)

    cells_nothing : IsNothingNeeded Celled
    unfolding celled
    cells_nothing =
        nothing_needed m k Edged (rules_e m k f c begin rules coroutine calls switches crossed shape) c.crossing Local asked
        (edges_apart m k f rules coroutine calls switches)
        (crossed_e m k f c begin rules coroutine calls switches crossed shape)

    frame_sizeless : (v : ℕ) (p : Point) (i : Instr) → instr_at Edged p ≡ Some i → IsFrame v i → slot_size m Edged v ≡ None
    frame_sizeless v p i there h =
        let x = stands_at Edged p i there in
        let rules_now : KeepsFunctionRules m k Edged = rules_e m k f c begin rules coroutine calls switches crossed shape in
        let once : times v (numbers Edged) ≤ 1 = apart_times v (numbers Edged) (subst Apart (names_are k Edged) (apart_names [] (locals_of k Edged) rules_now.definitions)) in
        instr_size m v Edged once p.block x.block p.at i x.got x.there (made_in i v h.makes) ∙ no_size m i v h.calls

    cells_frames : AreFramesUnneeded Edged → AreFramesUnneeded Celled
    unfolding celled
    cells_frames h p i v there called makes s l needed =
        let rules_now : KeepsFunctionRules m k Edged = rules_e m k f c begin rules coroutine calls switches crossed shape in
        let woven : IsWoven celling m Edged Celled = woven_c m k f c begin rules coroutine calls switches crossed shape asked in
        let same : KeepsCalls celling Edged Celled = keeps_c m k f c begin rules coroutine calls switches crossed shape asked in
        let y = frame_back celling m Edged Celled woven same v p i there (record { calls = called; makes = makes }) in
        let own : IsFrame v y.instr = y.makes in
        let low : v < length Edged.names = names_below k Edged rules_now.tabled v (frame_named celling m Edged Celled woven same v y) in
        let x =
        was_needed m k Edged rules_now c.crossing Local asked (edges_apart m k f rules coroutine calls switches)
        (crossed_e m k f c begin rules coroutine calls switches crossed shape)
        v (subst (λ (n : ℕ). v < n) (sym woven.first) low) (frame_sizeless v y.point y.instr y.there own) s l needed in
        h y.point y.instr v y.there own.calls own.makes x.point x.listed x.needed

    cells_end : AreEndedFirst Edged → AreEndedFirst Celled
    cells_end =
        woven_end_first celling m Edged Celled (woven_c m k f c begin rules coroutine calls switches crossed shape asked)
        (keeps_c m k f c begin rules coroutine calls switches crossed shape asked)

    module _ (copies : CopiesFit Celled (copied_slots Celled Frame Flags Sizes)) where
      woven_copied : IsWoven copying m Celled Copied
      woven_copied = woven_d m k f c begin rules coroutine calls switches crossed shape asked before copies

      same_copied : KeepsCalls copying Celled Copied
      same_copied = keeps_d m k f c begin rules coroutine calls switches crossed shape asked before copies

      rules_C : KeepsFunctionRules m k Celled
      rules_C = rules_c m k f c begin rules coroutine calls switches crossed shape asked

      rules_D : KeepsFunctionRules m k Copied
      rules_D = rules_d m k f c begin rules coroutine calls switches crossed shape asked before copies

      shape_C : IsShaped k Celled begin
      shape_C = shape_c m k f c begin rules coroutine calls switches crossed shape asked

      coroutine_C : Celled.coroutine ≡ true
      coroutine_C = coroutine_c m k f c begin rules coroutine calls switches crossed shape asked

      copies_quiet : IsQuiet copying m Celled Copied woven_copied same_copied k rules_C coroutine_C begin shape_C
      unfolding copied
      copies_quiet = record {
        follows = copies_follow m k Celled Frame Flags Sizes rules_C;
        fronts = fronts_apart m k Celled Frame Flags Sizes rules_C rules_D;
      }

      copies_nothing : IsNothingNeeded Celled → IsNothingNeeded Copied
      copies_nothing = nothing_stays copying m Celled Copied woven_copied same_copied k rules_C coroutine_C begin shape_C copies_quiet

      copies_frames : AreFramesUnneeded Celled → AreFramesUnneeded Copied
      copies_frames = frames_stay copying m Celled Copied woven_copied same_copied k rules_C coroutine_C begin shape_C copies_quiet

      copies_end : AreEndedFirst Celled → AreEndedFirst Copied
      copies_end = woven_end_first copying m Celled Copied woven_copied same_copied

      module _ (l : Layout) (fit : AddressesFit k Copied (begin_of f) (offsets_of l f c (length Copied.names)) Ramp) where
        abbrev Built : Function
        Built = placed l f c Copied

        placed_nothing : IsNothingNeeded Copied → IsNothingNeeded Built
        unfolding placed
        placed_nothing =
            addresses_nothing m k Copied (begin_of f) (offsets_of l f c (length Copied.names)) Ramp rules_D
            (once_d m k f c begin rules coroutine calls switches crossed shape asked before copies) fit
            (coroutine_d m k f c begin rules coroutine calls switches crossed shape asked before copies)
            (subst (IsShaped k Copied) (sym (begin_is m k f c begin rules coroutine calls switches crossed shape)) (shape_d m k f c begin rules coroutine calls switches crossed shape asked before copies))
            (jumps_d m k f c begin rules coroutine calls switches crossed shape asked before copies)

        placed_frames : AreFramesUnneeded Copied → AreFramesUnneeded Built
        unfolding placed
        placed_frames =
            addresses_frames m k Copied (begin_of f) (offsets_of l f c (length Copied.names)) Ramp rules_D
            (once_d m k f c begin rules coroutine calls switches crossed shape asked before copies) fit
            (coroutine_d m k f c begin rules coroutine calls switches crossed shape asked before copies)
            (subst (IsShaped k Copied) (sym (begin_is m k f c begin rules coroutine calls switches crossed shape)) (shape_d m k f c begin rules coroutine calls switches crossed shape asked before copies))
            (jumps_d m k f c begin rules coroutine calls switches crossed shape asked before copies)

        placed_end : AreEndedFirst Copied → AreEndedFirst Built
        unfolding placed
        placed_end =
            addresses_end_first m k Copied (begin_of f) (offsets_of l f c (length Copied.names)) Ramp rules_D
            (once_d m k f c begin rules coroutine calls switches crossed shape asked before copies) fit
            (coroutine_d m k f c begin rules coroutine calls switches crossed shape asked before copies)
            (subst (IsShaped k Copied) (sym (begin_is m k f c begin rules coroutine calls switches crossed shape)) (shape_d m k f c begin rules coroutine calls switches crossed shape asked before copies))
            (jumps_d m k f c begin rules coroutine calls switches crossed shape asked before copies)

        pub all_frames : AreFramesUnneeded Edged → AreFramesUnneeded Built
        all_frames h = placed_frames (copies_frames (cells_frames h))

        pub all_nothing : IsNothingNeeded Built
        all_nothing = placed_nothing (copies_nothing cells_nothing)

        pub all_end : AreEndedFirst Edged → AreEndedFirst Built
        all_end h = placed_end (copies_end (cells_end h))

pub framed_end_first : (m : Module) (k : ℕ) (l : Layout) (f : Function) (c : Contents) (before : List ℕ) (begin : ℕ) → KeepsFunctionRules m k f → f.coroutine ≡ true → wrong_call k f ≡ None → wrong_switch k f ≡ None → IsFirstOutside k f None → IsFirstWindow k f None → first_result Intrinsic.CoroBegin f ≡ Some begin → AreCrossing f c.crossing → PassesFit m k l f c before → AreEndedFirst (placed l f c (copied f c (celled m f c) before))
framed_end_first m k l f c before begin rules coroutine calls switches outside window named crossed fit =
    all_end m k f c begin rules coroutine calls switches crossed (edges_shaped m k f begin rules coroutine calls switches outside window named)
    (cells_fit m k f c rules coroutine calls switches crossed fit.widths) before fit.copies l fit.addresses
    (edges_end_first m k f rules coroutine calls switches outside)

pub framed_nothing : (m : Module) (k : ℕ) (l : Layout) (f : Function) (c : Contents) (before : List ℕ) (begin : ℕ) → KeepsFunctionRules m k f → f.coroutine ≡ true → wrong_call k f ≡ None → wrong_switch k f ≡ None → IsFirstOutside k f None → IsFirstWindow k f None → first_result Intrinsic.CoroBegin f ≡ Some begin → AreCrossing f c.crossing → PassesFit m k l f c before → IsNothingNeeded (placed l f c (copied f c (celled m f c) before))
framed_nothing m k l f c before begin rules coroutine calls switches outside window named crossed fit =
    all_nothing m k f c begin rules coroutine calls switches crossed (edges_shaped m k f begin rules coroutine calls switches outside window named)
    (cells_fit m k f c rules coroutine calls switches crossed fit.widths) before fit.copies l fit.addresses

pub framed_frames : (m : Module) (k : ℕ) (l : Layout) (f : Function) (c : Contents) (before : List ℕ) (begin : ℕ) → KeepsFunctionRules m k f → f.coroutine ≡ true → wrong_call k f ≡ None → wrong_switch k f ≡ None → IsFirstOutside k f None → IsFirstWindow k f None → first_result Intrinsic.CoroBegin f ≡ Some begin → AreCrossing f c.crossing → PassesFit m k l f c before → AreFramesUnused k f → AreFramesUnneeded (placed l f c (copied f c (celled m f c) before))
framed_frames m k l f c before begin rules coroutine calls switches outside window named crossed fit unused =
    all_frames m k f c begin rules coroutine calls switches crossed (edges_shaped m k f begin rules coroutine calls switches outside window named)
    (cells_fit m k f c rules coroutine calls switches crossed fit.widths) before fit.copies l fit.addresses
    (unneeded k (with_edge_blocks f) (unused_where_edges_have_blocks k f unused))
