-- A coroutine whose frame is built has its suspends' saves, and names of saves.
use Rattle.std.proofs.Common.{◌≡◌, ℕ, Bool, true, List, ◌∷◌, length, sym, subst}
use Rattle.std.specs.Prelude.{None, Some, Option, codes}
use Rattle.compiler_theorem.proofs.parts.Tokens.{HasTokens, edges_tokens, woven_tokens}
use Rattle.compiler.proofs.pass_proofs.addresses.rules.Placed.{fetched, fetched_keeps, fetched_once, slots_woven}
use Rattle.compiler.proofs.pass_proofs.addresses.rules.Unmarked.{left_woven, markers_woven, stays_all, unmarked_keeps, unmarked_once}
use Rattle.compiler.specs.pass_proofs.addresses.rules.Addresses.{AddressesFit, left_over, lies_in_frame, turning_weaving}
use Rattle.compiler.specs.pass_proofs.cells.rules.Asked.{AreCellsFor}
use Rattle.compiler.specs.pass_proofs.cells.rules.Weaving.{cells_weaving}
use Rattle.compiler.specs.pass_proofs.copies.rules.Copies.{copied_slots, copy_weaving}
use Rattle.compiler.specs.rule_shape.OneOfEach.{wrong_call}
use Rattle.compiler.specs.rule_shape.Switches.{wrong_switch}
use Rattle.compiler.specs.frame_contents.declared.contents.Contents.{Contents}
use Rattle.compiler.specs.pass_proofs.edges.rules.Phis.{ArePhisEnteredByJumps}
use Rattle.compiler.specs.pass_edges.EdgeBlocks.{with_edge_blocks}
use Rattle.compiler.specs.pass_proofs.fetch.rules.Fetches.{fetch_weaving}
use Rattle.compiler.specs.pass_addresses.Placing.{slot_fetches, with_frame_addresses, without_markers}
use Rattle.compiler.specs.frame_layout.declared.layout.Layout.{Layout}
use Rattle.compiler.proofs.pass_proofs.frames.shape.Addresses.{once_unmarked, rules_unmarked}
use Rattle.compiler.proofs.pass_proofs.edges.calls.Edges.{edges_shaped}
use Rattle.compiler.proofs.pass_proofs.frames.shape.Fits.{cells_fit}
use Rattle.compiler.proofs.pass_proofs.frames.shape.Framed.{begin_is, coroutine_d, jumps_d, once_c, once_d, once_e, rules_c, rules_d, rules_e, woven_c, woven_d, shape_d}
use Rattle.compiler.specs.pass_proofs.frames.shape.Passes.{PassesFit}
use Rattle.compiler.specs.rule_laws.rules.function_rules.Kept.{KeepsFunctionRules}
use Rattle.compiler.specs.ir_model.Calls.{first_result}
use Rattle.compiler.specs.ir_model.declared.module.Function.{Function}
use Rattle.compiler.specs.ir_model.declared.module.Module.{Module}
use Rattle.compiler.specs.ir_model.declared.operand.Intrinsic.{Intrinsic}
use Rattle.compiler.specs.frame_classes.declared.class.SlotClass.{SlotClass}
use Rattle.compiler.specs.pass_frames.Framed.{begin_block, begin_of, celled, copied, offsets_of, placed}
use Rattle.compiler.specs.pass_frames.Tables.{class_flags, label_flags, sizes_by_name}
use Rattle.compiler.specs.frame_crossing.Crossing.{AreCrossing}
use Rattle.compiler.specs.pass_fetch.Blocks.{with_fetches}
use Rattle.compiler.specs.pass_fetch.declared.fetch.Fetch.{Fetch}
use Rattle.compiler.specs.rule_windows.Outside.{IsFirstOutside}
use Rattle.compiler.specs.rule_windows.Windows.{IsFirstWindow}
use Rattle.compiler.specs.rule_laws.rules.woven_rules.Blocks.{IsWoven}
use Rattle.compiler.specs.rule_laws.rules.woven_rules.Pairs.{AreIncomingOnce}
use Rattle.compiler.specs.rule_laws.rules.woven_rules.Weaving.{Weaving}
use Rattle.compiler.specs.rule_laws.frames.woven_shape.Shaped.{IsShaped}

-- ---- slots become bytes of the frame

module _ (m : Module) (k : ℕ) (f : Function) (begin : ℕ) (offsets : List (Option ℕ)) (marked : List Bool) (rules : KeepsFunctionRules m k f) (once : AreIncomingOnce f) (fit : AddressesFit k f begin offsets marked) (coroutine : f.coroutine ≡ true) (shape : IsShaped k f begin) (jumps : ArePhisEnteredByJumps f) where
  abbrev Unmarked : Function
  Unmarked = without_markers marked f

  abbrev Unpromised : Function
  Unpromised = left_over marked f

  abbrev Table : List (Option Fetch)
  Table = slot_fetches begin offsets

  abbrev Refetched : Function
  Refetched = with_fetches Unpromised Table (codes "$c.at.")

  abbrev Addressed : Function
  Addressed = with_frame_addresses f begin offsets marked

  abbrev unmarking : Weaving
  unmarking = turning_weaving f stays_all

  abbrev unpromising : Weaving
  unpromising = turning_weaving Unmarked stays_all

  abbrev refetching : Weaving
  refetching = fetch_weaving Unpromised Table (codes "$c.at.")

  abbrev addressing : Weaving
  addressing = turning_weaving Refetched (lies_in_frame offsets)

  woven_unmarked : IsWoven unmarking m f Unmarked
  woven_unmarked = markers_woven m k f marked rules

  woven_unpromised : IsWoven unpromising m Unmarked Unpromised
  woven_unpromised = left_woven m k f marked rules once

  woven_refetched : IsWoven refetching m Unpromised Refetched
  woven_refetched = fetched m k f begin offsets marked rules once fit

  woven_addressed : IsWoven addressing m Refetched Addressed
  woven_addressed = slots_woven m k f begin offsets marked rules once fit

  pub addresses_tokens : HasTokens k f → HasTokens k Addressed
  addresses_tokens h =
      woven_tokens addressing m k Refetched Addressed woven_addressed (fetched_keeps m k f begin offsets marked rules once fit) (fetched_once m k f begin offsets marked rules once fit)
      (woven_tokens refetching m k Unpromised Refetched woven_refetched (unmarked_keeps m k f marked rules once) (unmarked_once m k f marked rules once)
      (woven_tokens unpromising m k Unmarked Unpromised woven_unpromised (rules_unmarked m k f begin offsets marked rules once fit coroutine shape jumps) (once_unmarked m k f begin offsets marked rules once fit coroutine shape jumps)
      (woven_tokens unmarking m k f Unmarked woven_unmarked rules once h)))

-- ---- the passes

module _ (m : Module) (k : ℕ) (l : Layout) (f : Function) (c : Contents) (before : List ℕ) (begin : ℕ) (rules : KeepsFunctionRules m k f) (coroutine : f.coroutine ≡ true) (calls : wrong_call k f ≡ None) (switches : wrong_switch k f ≡ None) (outside : IsFirstOutside k f None) (window : IsFirstWindow k f None) (named : first_result Intrinsic.CoroBegin f ≡ Some begin) (crossed : AreCrossing f c.crossing) (fit : PassesFit m k l f c before) where
  abbrev Edged : Function
  Edged = with_edge_blocks f

  abbrev Celled : Function
  Celled = celled m f c

  abbrev Copied : Function
  Copied = copied f c Celled before

  abbrev Built : Function
  Built = placed l f c Copied

  abbrev Frame : List Bool
  Frame = class_flags f c.classes SlotClass.Frame

  abbrev Flags : List Bool
  Flags = label_flags Celled (begin_block Celled ∷ before)

  abbrev Sizes : List ℕ
  Sizes = sizes_by_name f c.held

  abbrev celling : Weaving
  celling = cells_weaving m Edged c.crossing (class_flags f c.classes SlotClass.Local)

  abbrev copying : Weaving
  copying = copy_weaving Celled Flags (copied_slots Celled Frame Flags Sizes)

  shape_e : IsShaped k Edged begin
  shape_e = edges_shaped m k f begin rules coroutine calls switches outside window named

  cells : AreCellsFor k Edged c.crossing (class_flags f c.classes SlotClass.Local)
  cells = cells_fit m k f c rules coroutine calls switches crossed fit.widths

  celled_tokens : HasTokens k f → HasTokens k Celled
  celled_tokens h =
      woven_tokens celling m k Edged Celled (woven_c m k f c begin rules coroutine calls switches crossed shape_e cells)
      (rules_e m k f c begin rules coroutine calls switches crossed shape_e) (once_e m k f c begin rules coroutine calls switches crossed shape_e) (edges_tokens k f h)

  copied_tokens : HasTokens k f → HasTokens k Copied
  copied_tokens h =
      woven_tokens copying m k Celled Copied (woven_d m k f c begin rules coroutine calls switches crossed shape_e cells before fit.copies)
      (rules_c m k f c begin rules coroutine calls switches crossed shape_e cells) (once_c m k f c begin rules coroutine calls switches crossed shape_e cells) (celled_tokens h)

  pub framed_tokens : HasTokens k f → HasTokens k Built
  unfolding placed
  framed_tokens h =
      addresses_tokens m k Copied (begin_of f) (offsets_of l f c (length Copied.names)) (class_flags f c.classes SlotClass.Ramp)
      (rules_d m k f c begin rules coroutine calls switches crossed shape_e cells before fit.copies)
      (once_d m k f c begin rules coroutine calls switches crossed shape_e cells before fit.copies) fit.addresses
      (coroutine_d m k f c begin rules coroutine calls switches crossed shape_e cells before fit.copies)
      (subst (IsShaped k Copied) (sym (begin_is m k f c begin rules coroutine calls switches crossed shape_e)) (shape_d m k f c begin rules coroutine calls switches crossed shape_e cells before fit.copies))
      (jumps_d m k f c begin rules coroutine calls switches crossed shape_e cells before fit.copies)
      (copied_tokens h)
