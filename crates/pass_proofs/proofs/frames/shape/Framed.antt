-- The passes that build the frame of a coroutine, one behind another.
use Rattle.std.proofs.Common.{◌≡◌, ℕ, Bool, true, List, [], ◌∷◌, length, sym, ap, ◌∙◌, subst}
use Rattle.std.specs.Prelude.{Some, None, Option, slice_get, unwrap_or}
use Rattle.pass_exits_proof.proofs.addresses.rules.Placed.{placed_keeps, placed_once}
use Rattle.pass_exits_proof.specs.addresses.rules.Addresses.{AddressesFit}
use Rattle.pass_exits_proof.proofs.cells.rules.Whole.{is_woven}
use Rattle.pass_exits_proof.specs.cells.rules.Asked.{AreCellsFor}
use Rattle.pass_exits_proof.specs.cells.rules.Weaving.{cells_weaving}
use Rattle.pass_exits_proof.proofs.copies.rules.KeptCopies.{with_copies_woven}
use Rattle.pass_exits_proof.specs.copies.rules.Copies.{CopiesFit, copied_slots, copy_weaving}
use Rattle.pass_exits_proof.specs.rule_shape.OneOfEach.{wrong_call}
use Rattle.pass_exits_proof.specs.rule_shape.Switches.{wrong_switch}
use Rattle.pass_exits_proof.specs.frame_contents.declared.contents.Contents.{Contents}
use Rattle.pass_exits_proof.proofs.rule_laws.rules.source_rules.Locals.{own_label}
use Rattle.pass_exits_proof.proofs.edges.rules.Kept.{crossing_kept, labels_different, phis_by_jumps, rules_kept, suspend_blocks}
use Rattle.pass_exits_proof.specs.edges.rules.Phis.{ArePhisEnteredByJumps}
use Rattle.pass_exits_proof.specs.rule_laws.frames.rows.Returns.{HaveOwnReturns, return_labels}
use Rattle.pass_exits_proof.proofs.edges.shape.Kept.{begin_kept}
use Rattle.pass_edges.specs.EdgeBlocks.{with_edge_blocks}
use Rattle.pass_exits_proof.specs.flow_solver.Paths.{IsListed}
use Rattle.pass_addresses.specs.Placing.{with_frame_addresses}
use Rattle.pass_exits_proof.specs.frame_layout.declared.layout.Layout.{Layout}
use Rattle.pass_proofs.proofs.frames.shape.Addresses.{addressed_shape}
use Rattle.pass_proofs.proofs.frames.shape.Cells.{cells_keep, cells_steady}
use Rattle.pass_exits_proof.proofs.copies.shape.Copies.{copies_keep}
use Rattle.pass_exits_proof.proofs.edges.calls.Edges.{edges_shaped}
use Rattle.pass_proofs.proofs.frames.shape.Fits.{cells_fit}
use Rattle.pass_exits_proof.proofs.edges.calls.Jumps.{jumps_stay}
use Rattle.pass_exits_proof.proofs.edges.calls.Steadily.{quiet_there}
use Rattle.pass_exits_proof.specs.rule_laws.frames.shape.Passes.{IsKept}
use Rattle.pass_proofs.specs.frames.shape.Passes.{PassesFit}
use Rattle.pass_exits_proof.specs.rule_laws.frames.shape.Quiet.{AreReturnsQuiet}
use Rattle.pass_exits_proof.specs.rule_laws.rules.function_rules.Kept.{KeepsFunctionRules}
use Rattle.pass_exits_proof.specs.pass_intrinsics.declared.shape.SuspendPoint.{SuspendPoint}
use Rattle.ir_model.specs.Calls.{first_result}
use Rattle.ir_model.specs.Names.{position_of}
use Rattle.ir_model.specs.declared.module.Block.{Block}
use Rattle.ir_model.specs.declared.module.Function.{Function}
use Rattle.ir_model.specs.declared.module.Module.{Module}
use Rattle.ir_model.specs.declared.operand.Intrinsic.{Intrinsic}
use Rattle.pass_exits_proof.specs.frame_classes.declared.class.SlotClass.{SlotClass}
use Rattle.pass_frames.specs.Framed.{begin_block, begin_of, celled, copied, offsets_of, placed}
use Rattle.pass_frames.specs.Tables.{class_flags, label_flags, sizes_by_name}
use Rattle.pass_exits_proof.specs.frame_crossing.Crossing.{AreCrossing}
use Rattle.pass_exits_proof.specs.rule_windows.Outside.{IsFirstOutside}
use Rattle.pass_exits_proof.specs.rule_windows.Windows.{IsFirstWindow}
use Rattle.pass_exits_proof.proofs.rule_laws.rules.woven_rules.All.{rules_woven}
use Rattle.pass_exits_proof.proofs.rule_laws.rules.woven_rules.Edges.{incoming_woven}
use Rattle.pass_exits_proof.specs.rule_laws.rules.woven_rules.Blocks.{IsWoven}
use Rattle.pass_exits_proof.specs.rule_laws.rules.woven_rules.Pairs.{AreIncomingOnce}
use Rattle.pass_exits_proof.specs.rule_laws.rules.woven_rules.Weaving.{Weaving}
use Rattle.pass_exits_proof.proofs.rule_laws.frames.woven_shape.Shaped.{shape_kept, suspends_kept}
use Rattle.pass_exits_proof.specs.rule_laws.rules.woven_shape.Calls.{calls_in, calls_of_block}
use Rattle.pass_exits_proof.specs.rule_laws.frames.woven_shape.Shaped.{IsShaped, KeepsCalls}

-- ---- blocks of their own have no calls

no_calls : (b : Block) → b.instrs ≡ [] → calls_of_block b ≡ []
no_calls b e = ap (calls_in b (length b.phis)) e

pub returns_quiet : (m : Module) (k : ℕ) (f : Function) → KeepsFunctionRules m k f → HaveOwnReturns f → AreReturnsQuiet f
returns_quiet m k f rules own label listed j b got same =
    let x = own.own label listed in
    let at : position_of f label ≡ j = ap (position_of f) (sym same) ∙ own_label k f rules.definitions j b got in
    let both : Some x.block ≡ Some b = sym x.got ∙ ap (slice_get f.blocks) at ∙ got in
    let one : x.block ≡ b = cc in
    no_calls b (ap (λ (c : Block). c.instrs) (sym one) ∙ x.no_instrs)

-- ---- the passes

module _ (m : Module) (k : ℕ) (f : Function) (c : Contents) (begin : ℕ) (rules : KeepsFunctionRules m k f) (coroutine : f.coroutine ≡ true) (calls : wrong_call k f ≡ None) (switches : wrong_switch k f ≡ None) (crossed : AreCrossing f c.crossing) (shape : IsShaped k (with_edge_blocks f) begin) where
  abbrev Edged : Function
  Edged = with_edge_blocks f

  pub rules_e : KeepsFunctionRules m k Edged
  rules_e = rules_kept m k f rules

  pub once_e : AreIncomingOnce Edged
  once_e = labels_different m k f rules

  pub jumps_e : ArePhisEnteredByJumps Edged
  jumps_e = phis_by_jumps m k f rules

  pub quiet_e : AreReturnsQuiet Edged
  quiet_e = returns_quiet m k Edged rules_e (suspend_blocks m k f rules coroutine switches)

  pub crossed_e : AreCrossing Edged c.crossing
  crossed_e = (crossing_kept m k f rules coroutine switches c.crossing).0 crossed

  pub begin_is : begin_of f ≡ begin
  begin_is = ap (λ (o : Option ℕ). unwrap_or o 0) (sym (begin_kept m k f rules coroutine calls switches) ∙ shape.named)

  -- ---- cells

  abbrev Local : List Bool
  Local = class_flags f c.classes SlotClass.Local

  module _ (asked : AreCellsFor k Edged c.crossing Local) where
    abbrev celling : Weaving
    celling = cells_weaving m Edged c.crossing Local

    abbrev Celled : Function
    Celled = celled m f c

    pub woven_c : IsWoven celling m Edged Celled
    unfolding celled
    woven_c = is_woven m k Edged rules_e c.crossing Local asked

    pub keeps_c : KeepsCalls celling Edged Celled
    unfolding celled
    keeps_c = cells_keep m k Edged c.crossing Local begin rules_e asked crossed_e coroutine shape jumps_e quiet_e

    pub rules_c : KeepsFunctionRules m k Celled
    rules_c = rules_woven celling m k Edged Celled woven_c rules_e once_e

    pub once_c : AreIncomingOnce Celled
    once_c = incoming_woven celling m Edged Celled woven_c once_e

    pub shape_c : IsShaped k Celled begin
    shape_c = shape_kept celling m Edged Celled woven_c keeps_c k rules_e once_e begin coroutine shape

    pub jumps_c : ArePhisEnteredByJumps Celled
    jumps_c = jumps_stay celling m Edged Celled woven_c jumps_e

    pub coroutine_c : Celled.coroutine ≡ true
    coroutine_c = woven_c.coroutine ∙ coroutine

    quiet_c : AreReturnsQuiet Celled
    unfolding celled
    quiet_c label listed =
        let x = cells_steady m k Edged c.crossing Local begin rules_e asked crossed_e coroutine shape jumps_e quiet_e in
        quiet_there Edged.blocks Celled.blocks x.labels x.calls label
        (quiet_e label (subst (λ (ss : List SuspendPoint). IsListed label (return_labels ss)) (suspends_kept celling m Edged Celled woven_c keeps_c) listed))

    -- ---- copies at begin

    module _ (before : List ℕ) where
      abbrev Slots : List Bool
      Slots = class_flags f c.classes SlotClass.Frame

      abbrev Flags : List Bool
      Flags = label_flags Celled (begin_block Celled ∷ before)

      abbrev Sizes : List ℕ
      Sizes = sizes_by_name f c.held

      module _ (copies : CopiesFit Celled (copied_slots Celled Slots Flags Sizes)) where
        abbrev copying : Weaving
        copying = copy_weaving Celled Flags (copied_slots Celled Slots Flags Sizes)

        abbrev Copied : Function
        Copied = copied f c Celled before

        pub woven_d : IsWoven copying m Celled Copied
        unfolding copied
        woven_d = with_copies_woven m k Celled Slots Flags Sizes rules_c copies

        pub keeps_d : KeepsCalls copying Celled Copied
        unfolding copied
        keeps_d = copies_keep m k Celled Slots Flags Sizes begin rules_c coroutine_c shape_c quiet_c

        pub rules_d : KeepsFunctionRules m k Copied
        rules_d = rules_woven copying m k Celled Copied woven_d rules_c once_c

        pub once_d : AreIncomingOnce Copied
        once_d = incoming_woven copying m Celled Copied woven_d once_c

        pub shape_d : IsShaped k Copied begin
        shape_d = shape_kept copying m Celled Copied woven_d keeps_d k rules_c once_c begin coroutine_c shape_c

        pub jumps_d : ArePhisEnteredByJumps Copied
        jumps_d = jumps_stay copying m Celled Copied woven_d jumps_c

        pub coroutine_d : Copied.coroutine ≡ true
        coroutine_d = woven_d.coroutine ∙ coroutine_c

        -- ---- slots in the frame

        module _ (l : Layout) where
          abbrev Offsets : List (Option ℕ)
          Offsets = offsets_of l f c (length Copied.names)

          abbrev Ramp : List Bool
          Ramp = class_flags f c.classes SlotClass.Ramp

          module _ (fit : AddressesFit k Copied (begin_of f) Offsets Ramp) where
            abbrev Built : Function
            Built = placed l f c Copied

            rules_r : KeepsFunctionRules m k Built
            unfolding placed
            rules_r = placed_keeps m k Copied (begin_of f) Offsets Ramp rules_d once_d fit

            once_r : AreIncomingOnce Built
            unfolding placed
            once_r = placed_once m k Copied (begin_of f) Offsets Ramp rules_d once_d fit

            shape_r : IsShaped k Built begin
            unfolding placed
            shape_r =
                subst (IsShaped k (with_frame_addresses Copied (begin_of f) Offsets Ramp)) begin_is
                (addressed_shape m k Copied (begin_of f) Offsets Ramp rules_d once_d fit coroutine_d (subst (IsShaped k Copied) (sym begin_is) shape_d) jumps_d)

            coroutine_r : Built.coroutine ≡ true
            unfolding placed
            coroutine_r = coroutine_d

            kept_r : IsKept m k Built begin
            kept_r = record { coroutine = coroutine_r; rules = rules_r; once = once_r; shape = shape_r }

  framed_kept : (l : Layout) (before : List ℕ) → PassesFit m k l f c before → IsKept m k (placed l f c (copied f c (celled m f c) before)) begin
  framed_kept l before fit = kept_r (cells_fit m k f c rules coroutine calls switches crossed fit.widths) before fit.copies l fit.addresses

pub all_framed : (m : Module) (k : ℕ) (l : Layout) (f : Function) (c : Contents) (before : List ℕ) (begin : ℕ) → KeepsFunctionRules m k f → f.coroutine ≡ true → wrong_call k f ≡ None → wrong_switch k f ≡ None → IsFirstOutside k f None → IsFirstWindow k f None → first_result Intrinsic.CoroBegin f ≡ Some begin → AreCrossing f c.crossing → PassesFit m k l f c before → IsKept m k (placed l f c (copied f c (celled m f c) before)) begin
all_framed m k l f c before begin rules coroutine calls switches outside window named crossed fit =
    framed_kept m k f c begin rules coroutine calls switches crossed (edges_shaped m k f begin rules coroutine calls switches outside window named) l before fit
