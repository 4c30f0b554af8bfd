-- A coroutine whose frame is built has its suspends where they were, and each block has its calls.
use Rattle.std.proofs.Common.{◌≡◌, ℕ, ◌+◌, Bool, true, List, ◌∷◌, length, refl, sym, ◌∙◌, subst}
use Rattle.compiler_theorem.proofs.parts.Ways.{way_of}
use Rattle.compiler.specs.ir_laws.facts.woven_rules.Parts.{TermStays}
use Rattle.compiler.specs.ir_model.declared.instr.Terminator.{Terminator}
use Rattle.compiler.specs.ir_model.declared.operand.Operand.{Operand}
use Rattle.compiler.specs.ir_paths.Paths.{targets}
use Rattle.compiler.proofs.rule_laws.rules.shape.Edges.{targets_are}
use Rattle.compiler.proofs.rule_laws.rules.woven_rules.Operands.{same_labels}
use Rattle.compiler.specs.rule_uses.Uses.{block_values}
use Rattle.std.specs.Prelude.{None, Option, Some, codes, map}
use Rattle.compiler.proofs.pass_proofs.addresses.rules.Placed.{fetched, slots_woven}
use Rattle.compiler.proofs.pass_proofs.addresses.rules.Unmarked.{left_woven, markers_woven, stays_all}
use Rattle.compiler.specs.pass_proofs.addresses.rules.Addresses.{AddressesFit, left_over, lies_in_frame, turning_weaving}
use Rattle.compiler.specs.pass_proofs.cells.rules.Asked.{AreCellsFor}
use Rattle.compiler.specs.pass_proofs.cells.rules.Weaving.{cells_weaving}
use Rattle.compiler.specs.pass_proofs.copies.rules.Copies.{copied_slots, copy_weaving}
use Rattle.compiler.specs.rule_shape.OneOfEach.{wrong_call}
use Rattle.compiler.specs.rule_shape.Switches.{wrong_switch}
use Rattle.compiler.specs.frame_contents.declared.contents.Contents.{Contents}
use Rattle.compiler.specs.pass_proofs.edges.rules.Phis.{ArePhisEnteredByJumps}
use Rattle.compiler.specs.pass_edges.EdgeBlocks.{with_edge_blocks}
use Rattle.compiler.specs.pass_proofs.fetch.rules.Fetches.{fetch_weaving}
use Rattle.compiler.specs.pass_addresses.Placing.{slot_fetches, with_frame_addresses, without_markers}
use Rattle.compiler.specs.frame_layout.declared.layout.Layout.{Layout}
use Rattle.compiler.specs.pass_intrinsics.Shapes.{suspends_of}
use Rattle.compiler.proofs.pass_proofs.frames.shape.Addresses.{keeps_addressed, keeps_refetched, keeps_unmarked, keeps_unpromised}
use Rattle.compiler.proofs.pass_proofs.edges.calls.Edges.{edges_shaped}
use Rattle.compiler.proofs.pass_proofs.frames.shape.Fits.{cells_fit}
use Rattle.compiler.proofs.pass_proofs.frames.shape.Framed.{begin_is, coroutine_d, jumps_d, keeps_c, keeps_d, once_d, rules_d, shape_d, woven_c, woven_d}
use Rattle.compiler.specs.pass_proofs.frames.shape.Passes.{PassesFit}
use Rattle.compiler.proofs.rule_laws.frames.woven_shape.Shaped.{suspends_kept}
use Rattle.compiler.specs.rule_laws.rules.function_rules.Kept.{KeepsFunctionRules}
use Rattle.compiler.specs.rule_laws.rules.woven_shape.Calls.{calls_of_block}
use Rattle.compiler.specs.ir_model.Calls.{first_result}
use Rattle.compiler.specs.ir_model.declared.module.Block.{Block}
use Rattle.compiler.specs.ir_model.declared.module.Function.{Function}
use Rattle.compiler.specs.ir_model.declared.module.Module.{Module}
use Rattle.compiler.specs.ir_model.declared.operand.Intrinsic.{Intrinsic}
use Rattle.compiler.specs.frame_classes.declared.class.SlotClass.{SlotClass}
use Rattle.compiler.specs.pass_frames.Framed.{begin_block, begin_of, celled, copied, offsets_of, placed}
use Rattle.compiler.specs.pass_frames.Tables.{class_flags, label_flags, sizes_by_name}
use Rattle.compiler.specs.frame_crossing.Crossing.{AreCrossing}
use Rattle.compiler.specs.pass_fetch.Blocks.{with_fetches}
use Rattle.compiler.specs.pass_fetch.declared.fetch.Fetch.{Fetch}
use Rattle.compiler.specs.rule_windows.Outside.{IsFirstOutside}
use Rattle.compiler.specs.rule_windows.Windows.{IsFirstWindow}
use Rattle.compiler.specs.rule_laws.frames.woven_shape.Shaped.{IsShaped, KeepsCalls}
use Rattle.compiler.specs.rule_laws.rules.woven_rules.Blocks.{AreWovenBlocks, IsWoven, NoBlock, OneBlock}
use Rattle.compiler.specs.rule_laws.rules.woven_rules.Pairs.{AreIncomingOnce}
use Rattle.compiler.specs.rule_laws.rules.woven_rules.Weaving.{IsInPlace, Weaving}

-- suspends, calls and edges stay, block by block
pub record StaysCalled (f g : Function) : Type 0 where
  pub suspends : suspends_of g ≡ suspends_of f
  pub calls : map calls_of_block g.blocks ≡ map calls_of_block f.blocks
  pub ways : map way_of g.blocks ≡ map way_of f.blocks

called_both : (f g h : Function) → StaysCalled f g → StaysCalled g h → StaysCalled f h
called_both f g h x y = record {
  suspends = y.suspends ∙ x.suspends;
  calls = y.calls ∙ x.calls;
  ways = y.ways ∙ x.ways;
}

same_targets : (R : Operand → Operand → Type 0) (t u : Terminator) → TermStays R t u → targets u ≡ targets t
same_targets R t u s = targets_are u ∙ same_labels R t u s ∙ sym (targets_are t)

woven_ways : (w : Weaving) (m : Module) (f g : Function) (k : ℕ) (bs cs : List Block)
    → AreWovenBlocks w m f g k bs cs → map way_of cs ≡ map way_of bs
woven_ways w m f g k _ _ (NoBlock _) = refl
woven_ways w m f g k _ _ (OneBlock _ b c bs cs s rest) =
    let ways = woven_ways w m f g (k + 1) bs cs rest in
    λ i. (s.label i, same_targets (IsInPlace w f (block_values c)) b.term c.term s.term i) ∷ ways i

by_weaving : (w : Weaving) (m : Module) (f g : Function) → IsWoven w m f g → KeepsCalls w f g → StaysCalled f g
by_weaving w m f g woven keeps = record {
  suspends = suspends_kept w m f g woven keeps;
  calls = keeps.calls;
  ways = woven_ways w m f g 0 f.blocks g.blocks woven.blocks;
}

-- ---- slots become bytes of the frame

module _ (m : Module) (k : ℕ) (f : Function) (begin : ℕ) (offsets : List (Option ℕ)) (marked : List Bool)
    (rules : KeepsFunctionRules m k f) (once : AreIncomingOnce f) (fit : AddressesFit k f begin offsets marked)
    (coroutine : f.coroutine ≡ true) (shape : IsShaped k f begin) (jumps : ArePhisEnteredByJumps f) where
  abbrev Unmarked : Function
  Unmarked = without_markers marked f

  abbrev Unpromised : Function
  Unpromised = left_over marked f

  abbrev Table : List (Option Fetch)
  Table = slot_fetches begin offsets

  abbrev Refetched : Function
  Refetched = with_fetches Unpromised Table (codes "$c.at.")

  abbrev Addressed : Function
  Addressed = with_frame_addresses f begin offsets marked

  addresses_called : StaysCalled f Addressed
  addresses_called =
      called_both f Refetched Addressed
      (called_both f Unpromised Refetched
      (called_both f Unmarked Unpromised
      (by_weaving (turning_weaving f stays_all) m f Unmarked (markers_woven m k f marked rules)
      (keeps_unmarked m k f begin offsets marked rules once fit coroutine shape jumps))
      (by_weaving (turning_weaving Unmarked stays_all) m Unmarked Unpromised (left_woven m k f marked rules once)
      (keeps_unpromised m k f begin offsets marked rules once fit coroutine shape jumps)))
      (by_weaving (fetch_weaving Unpromised Table (codes "$c.at.")) m Unpromised Refetched
      (fetched m k f begin offsets marked rules once fit)
      (keeps_refetched m k f begin offsets marked rules once fit coroutine shape jumps)))
      (by_weaving (turning_weaving Refetched (lies_in_frame offsets)) m Refetched Addressed
      (slots_woven m k f begin offsets marked rules once fit)
      (keeps_addressed m k f begin offsets marked rules once fit coroutine shape jumps))

-- ---- the passes

module _ (m : Module) (k : ℕ) (l : Layout) (f : Function) (c : Contents) (before : List ℕ) (begin : ℕ)
    (rules : KeepsFunctionRules m k f) (coroutine : f.coroutine ≡ true) (calls : wrong_call k f ≡ None)
    (switches : wrong_switch k f ≡ None) (outside : IsFirstOutside k f None) (window : IsFirstWindow k f None)
    (named : first_result Intrinsic.CoroBegin f ≡ Some begin) (crossed : AreCrossing f c.crossing)
    (fit : PassesFit m k l f c before) where
  abbrev Edged : Function
  Edged = with_edge_blocks f

  abbrev Celled : Function
  Celled = celled m f c

  abbrev Copied : Function
  Copied = copied f c Celled before

  abbrev Built : Function
  Built = placed l f c Copied

  abbrev Frame : List Bool
  Frame = class_flags f c.classes SlotClass.Frame

  abbrev Flags : List Bool
  Flags = label_flags Celled (begin_block Celled ∷ before)

  abbrev Sizes : List ℕ
  Sizes = sizes_by_name f c.held

  shape_e : IsShaped k Edged begin
  shape_e = edges_shaped m k f begin rules coroutine calls switches outside window named

  cells : AreCellsFor k Edged c.crossing (class_flags f c.classes SlotClass.Local)
  cells = cells_fit m k f c rules coroutine calls switches crossed fit.widths

  celled_called : StaysCalled Edged Celled
  celled_called =
      by_weaving (cells_weaving m Edged c.crossing (class_flags f c.classes SlotClass.Local)) m Edged Celled
      (woven_c m k f c begin rules coroutine calls switches crossed shape_e cells)
      (keeps_c m k f c begin rules coroutine calls switches crossed shape_e cells)

  copied_called : StaysCalled Celled Copied
  copied_called =
      by_weaving (copy_weaving Celled Flags (copied_slots Celled Frame Flags Sizes)) m Celled Copied
      (woven_d m k f c begin rules coroutine calls switches crossed shape_e cells before fit.copies)
      (keeps_d m k f c begin rules coroutine calls switches crossed shape_e cells before fit.copies)

  placed_called : StaysCalled Copied Built
  unfolding placed
  placed_called =
      addresses_called m k Copied (begin_of f) (offsets_of l f c (length Copied.names))
      (class_flags f c.classes SlotClass.Ramp)
      (rules_d m k f c begin rules coroutine calls switches crossed shape_e cells before fit.copies)
      (once_d m k f c begin rules coroutine calls switches crossed shape_e cells before fit.copies) fit.addresses
      (coroutine_d m k f c begin rules coroutine calls switches crossed shape_e cells before fit.copies)
      (subst (IsShaped k Copied) (sym (begin_is m k f c begin rules coroutine calls switches crossed shape_e))
      (shape_d m k f c begin rules coroutine calls switches crossed shape_e cells before fit.copies))
      (jumps_d m k f c begin rules coroutine calls switches crossed shape_e cells before fit.copies)

  pub built_called : StaysCalled Edged Built
  built_called =
      called_both Edged Copied Built (called_both Edged Celled Copied celled_called copied_called) placed_called
