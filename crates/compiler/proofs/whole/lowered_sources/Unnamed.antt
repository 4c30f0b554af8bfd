-- A coroutine whose frame is built names no coro intrinsic but where it calls it, and jumps alone lead to its phis.
use Rattle.std.proofs.Common.{◌≡◌, ℕ, Bool, true, List, ◌∷◌, length, sym, subst}
use Rattle.std.specs.Prelude.{None, Some, Option, codes}
use Rattle.pass_proofs.proofs.addresses.rules.Placed.{fetched, fetched_keeps, fetched_once, slots_woven}
use Rattle.pass_proofs.proofs.addresses.rules.Unmarked.{left_woven, markers_woven, stays_all, unmarked_keeps, unmarked_once}
use Rattle.pass_proofs.specs.addresses.rules.Addresses.{AddressesFit, left_over, lies_in_frame, turning_weaving}
use Rattle.pass_proofs.specs.cells.rules.Asked.{AreCellsFor}
use Rattle.pass_proofs.specs.cells.rules.Weaving.{cells_weaving}
use Rattle.pass_proofs.specs.copies.rules.Copies.{copied_slots, copy_weaving}
use Rattle.pass_proofs.specs.rule_shape.OneOfEach.{wrong_call}
use Rattle.pass_proofs.specs.rule_shape.Switches.{wrong_switch}
use Rattle.pass_proofs.specs.frame_contents.declared.contents.Contents.{Contents}
use Rattle.pass_proofs.specs.edges.rules.Phis.{ArePhisEnteredByJumps}
use Rattle.pass_proofs.specs.pass_edges.EdgeBlocks.{with_edge_blocks}
use Rattle.pass_proofs.specs.fetch.rules.Fetches.{fetch_weaving}
use Rattle.pass_proofs.specs.pass_addresses.Placing.{slot_fetches, with_frame_addresses, without_markers}
use Rattle.frame_layout.specs.declared.layout.Layout.{Layout}
use Rattle.pass_proofs.proofs.frames.shape.Addresses.{once_unmarked, rules_unmarked}
use Rattle.pass_proofs.proofs.edges.calls.Edges.{edges_shaped}
use Rattle.pass_proofs.proofs.frames.shape.Fits.{cells_fit}
use Rattle.pass_proofs.proofs.frames.shape.Framed.{begin_is, coroutine_d, jumps_d, once_c, once_d, once_e, rules_c, rules_d, rules_e, woven_c, woven_d, shape_d}
use Rattle.pass_proofs.proofs.edges.calls.Jumps.{jumps_stay}
use Rattle.pass_proofs.specs.frames.shape.Passes.{PassesFit}
use Rattle.pass_proofs.specs.rule_laws.rules.function_rules.Kept.{KeepsFunctionRules}
use Rattle.ir_model.specs.Calls.{first_result}
use Rattle.ir_model.specs.declared.module.Function.{Function}
use Rattle.ir_model.specs.declared.module.Module.{Module}
use Rattle.ir_model.specs.declared.operand.Intrinsic.{Intrinsic}
use Rattle.pass_proofs.specs.frame_classes.declared.class.SlotClass.{SlotClass}
use Rattle.pass_frames.specs.Framed.{begin_block, begin_of, celled, copied, offsets_of, placed}
use Rattle.pass_frames.specs.Tables.{class_flags, label_flags, sizes_by_name}
use Rattle.pass_proofs.specs.frame_crossing.Crossing.{AreCrossing}
use Rattle.compiler.proofs.whole.unnamed_intrinsics.Early.{edges_free}
use Rattle.compiler.proofs.cleanup.unnamed_intrinsics.Woven.{woven_free}
use Rattle.compiler.specs.cleanup.unnamed_intrinsics.Unnamed.{NamesNoIntrinsic}
use Rattle.pass_proofs.specs.pass_fetch.Blocks.{with_fetches}
use Rattle.pass_proofs.specs.pass_fetch.declared.fetch.Fetch.{Fetch}
use Rattle.pass_proofs.specs.rule_windows.Outside.{IsFirstOutside}
use Rattle.pass_proofs.specs.rule_windows.Windows.{IsFirstWindow}
use Rattle.pass_proofs.specs.rule_laws.rules.woven_rules.Blocks.{IsWoven}
use Rattle.pass_proofs.specs.rule_laws.rules.woven_rules.Pairs.{AreIncomingOnce}
use Rattle.pass_proofs.specs.rule_laws.rules.woven_rules.Weaving.{Weaving}
use Rattle.pass_proofs.specs.rule_laws.frames.woven_shape.Shaped.{IsShaped}

-- ---- slots become bytes of the frame

module _ (m : Module) (k : ℕ) (f : Function) (begin : ℕ) (offsets : List (Option ℕ)) (marked : List Bool) (rules : KeepsFunctionRules m k f) (once : AreIncomingOnce f) (fit : AddressesFit k f begin offsets marked) (coroutine : f.coroutine ≡ true) (shape : IsShaped k f begin) (jumps : ArePhisEnteredByJumps f) where
  abbrev Unmarked : Function
  Unmarked = without_markers marked f

  abbrev Unpromised : Function
  Unpromised = left_over marked f

  abbrev Table : List (Option Fetch)
  Table = slot_fetches begin offsets

  abbrev Refetched : Function
  Refetched = with_fetches Unpromised Table (codes "$c.at.")

  abbrev Addressed : Function
  Addressed = with_frame_addresses f begin offsets marked

  abbrev unmarking : Weaving
  unmarking = turning_weaving f stays_all

  abbrev unpromising : Weaving
  unpromising = turning_weaving Unmarked stays_all

  abbrev refetching : Weaving
  refetching = fetch_weaving Unpromised Table (codes "$c.at.")

  abbrev addressing : Weaving
  addressing = turning_weaving Refetched (lies_in_frame offsets)

  woven_unmarked : IsWoven unmarking m f Unmarked
  woven_unmarked = markers_woven m k f marked rules

  woven_unpromised : IsWoven unpromising m Unmarked Unpromised
  woven_unpromised = left_woven m k f marked rules once

  woven_refetched : IsWoven refetching m Unpromised Refetched
  woven_refetched = fetched m k f begin offsets marked rules once fit

  woven_addressed : IsWoven addressing m Refetched Addressed
  woven_addressed = slots_woven m k f begin offsets marked rules once fit

  pub addresses_free : NamesNoIntrinsic k f → NamesNoIntrinsic k Addressed
  addresses_free h =
      woven_free addressing m k Refetched Addressed woven_addressed (fetched_keeps m k f begin offsets marked rules once fit) (fetched_once m k f begin offsets marked rules once fit)
      (woven_free refetching m k Unpromised Refetched woven_refetched (unmarked_keeps m k f marked rules once) (unmarked_once m k f marked rules once)
      (woven_free unpromising m k Unmarked Unpromised woven_unpromised (rules_unmarked m k f begin offsets marked rules once fit coroutine shape jumps) (once_unmarked m k f begin offsets marked rules once fit coroutine shape jumps)
      (woven_free unmarking m k f Unmarked woven_unmarked rules once h)))

  pub addresses_jumped : ArePhisEnteredByJumps Addressed
  addresses_jumped = jumps_stay addressing m Refetched Addressed woven_addressed (jumps_stay refetching m Unpromised Refetched woven_refetched (jumps_stay unpromising m Unmarked Unpromised woven_unpromised (jumps_stay unmarking m f Unmarked woven_unmarked jumps)))

-- ---- the passes

module _ (m : Module) (k : ℕ) (l : Layout) (f : Function) (c : Contents) (before : List ℕ) (begin : ℕ) (rules : KeepsFunctionRules m k f) (coroutine : f.coroutine ≡ true) (calls : wrong_call k f ≡ None) (switches : wrong_switch k f ≡ None) (outside : IsFirstOutside k f None) (window : IsFirstWindow k f None) (named : first_result Intrinsic.CoroBegin f ≡ Some begin) (crossed : AreCrossing f c.crossing) (fit : PassesFit m k l f c before) where
  abbrev Edged : Function
  Edged = with_edge_blocks f

  abbrev Celled : Function
  Celled = celled m f c

  abbrev Copied : Function
  Copied = copied f c Celled before

  abbrev Built : Function
  Built = placed l f c Copied

  abbrev Frame : List Bool
  Frame = class_flags f c.classes SlotClass.Frame

  abbrev Flags : List Bool
  Flags = label_flags Celled (begin_block Celled ∷ before)

  abbrev Sizes : List ℕ
  Sizes = sizes_by_name f c.held

  abbrev celling : Weaving
  celling = cells_weaving m Edged c.crossing (class_flags f c.classes SlotClass.Local)

  abbrev copying : Weaving
  copying = copy_weaving Celled Flags (copied_slots Celled Frame Flags Sizes)

  shape_e : IsShaped k Edged begin
  shape_e = edges_shaped m k f begin rules coroutine calls switches outside window named

  cells : AreCellsFor k Edged c.crossing (class_flags f c.classes SlotClass.Local)
  cells = cells_fit m k f c rules coroutine calls switches crossed fit.widths

  celled_free : NamesNoIntrinsic k f → NamesNoIntrinsic k Celled
  celled_free h =
      woven_free celling m k Edged Celled (woven_c m k f c begin rules coroutine calls switches crossed shape_e cells)
      (rules_e m k f c begin rules coroutine calls switches crossed shape_e) (once_e m k f c begin rules coroutine calls switches crossed shape_e) (edges_free k f h)

  copied_free : NamesNoIntrinsic k f → NamesNoIntrinsic k Copied
  copied_free h =
      woven_free copying m k Celled Copied (woven_d m k f c begin rules coroutine calls switches crossed shape_e cells before fit.copies)
      (rules_c m k f c begin rules coroutine calls switches crossed shape_e cells) (once_c m k f c begin rules coroutine calls switches crossed shape_e cells) (celled_free h)

  pub framed_free : NamesNoIntrinsic k f → NamesNoIntrinsic k Built
  unfolding placed
  framed_free h =
      addresses_free m k Copied (begin_of f) (offsets_of l f c (length Copied.names)) (class_flags f c.classes SlotClass.Ramp)
      (rules_d m k f c begin rules coroutine calls switches crossed shape_e cells before fit.copies)
      (once_d m k f c begin rules coroutine calls switches crossed shape_e cells before fit.copies) fit.addresses
      (coroutine_d m k f c begin rules coroutine calls switches crossed shape_e cells before fit.copies)
      (subst (IsShaped k Copied) (sym (begin_is m k f c begin rules coroutine calls switches crossed shape_e)) (shape_d m k f c begin rules coroutine calls switches crossed shape_e cells before fit.copies))
      (jumps_d m k f c begin rules coroutine calls switches crossed shape_e cells before fit.copies)
      (copied_free h)

  pub framed_jumped : ArePhisEnteredByJumps Built
  unfolding placed
  framed_jumped =
      addresses_jumped m k Copied (begin_of f) (offsets_of l f c (length Copied.names)) (class_flags f c.classes SlotClass.Ramp)
      (rules_d m k f c begin rules coroutine calls switches crossed shape_e cells before fit.copies)
      (once_d m k f c begin rules coroutine calls switches crossed shape_e cells before fit.copies) fit.addresses
      (coroutine_d m k f c begin rules coroutine calls switches crossed shape_e cells before fit.copies)
      (subst (IsShaped k Copied) (sym (begin_is m k f c begin rules coroutine calls switches crossed shape_e)) (shape_d m k f c begin rules coroutine calls switches crossed shape_e cells before fit.copies))
      (jumps_d m k f c begin rules coroutine calls switches crossed shape_e cells before fit.copies)
