-- In a coroutine whose frame is built nothing is needed behind a suspend that is reached, and the end comes before a return.
use Rattle.std.proofs.Common.{◌≡◌, ℕ, Bool, true, false, List, length, refl, sym, ap, ◌∙◌, arith}
use Rattle.std.specs.Prelude.{Option, codes, filter, map}
use Rattle.pass_exits_proof.proofs.addresses.rules.Placed.{fetched, fetched_keeps, slots_woven}
use Rattle.pass_exits_proof.proofs.addresses.rules.Unmarked.{left_woven, markers_woven, stays_all, unmarked_keeps}
use Rattle.pass_exits_proof.specs.addresses.rules.Addresses.{AddressesFit, left_over, lies_in_frame, turning_weaving}
use Rattle.pass_exits_proof.specs.rule_laws.frames.crossing.Crossed.{IsNothingNeeded}
use Rattle.pass_exits_proof.specs.edges.rules.Phis.{ArePhisEnteredByJumps}
use Rattle.pass_exits_proof.proofs.fetch.rules.Ends.{blocks_rise}
use Rattle.pass_exits_proof.specs.fetch.rules.Fetches.{base_of, fetch_weaving, second_name}
use Rattle.pass_addresses.specs.Placing.{lies_outside, slot_fetches, stays, with_frame_addresses, without_markers, without_promise_of}
use Rattle.pass_exits_proof.proofs.fetch.crossing.Fetched.{fetches_follow}
use Rattle.pass_exits_proof.proofs.addresses.crossing.Marks.{marker_none}
use Rattle.pass_exits_proof.proofs.rule_laws.frames.needed.Others.{is_address, other_than_begin}
use Rattle.pass_exits_proof.proofs.split.crossing.Steps.{IsQuiet, frames_stay, nothing_stays}
use Rattle.pass_exits_proof.proofs.addresses.crossing.Turned.{filter_follows, promise_follows, turned_follows}
use Rattle.pass_exits_proof.proofs.split.crossing.Ways.{woven_end_first}
use Rattle.pass_exits_proof.specs.rule_laws.frames.needed.Crossed.{AreFramesUnneeded}
use Rattle.pass_exits_proof.specs.split.crossing.Ended.{AreEndedFirst}
use Rattle.pass_proofs.proofs.frames.shape.Addresses.{address_found, keeps_unmarked, keeps_unpromised, keeps_refetched, keeps_addressed, rules_unmarked, shape_unmarked, shape_unpromised, shape_refetched}
use Rattle.pass_exits_proof.specs.rule_laws.rules.function_rules.Kept.{KeepsFunctionRules}
use Rattle.ir_model.specs.declared.instr.Instr.{Instr}
use Rattle.ir_model.specs.declared.module.Block.{Block}
use Rattle.ir_model.specs.declared.module.Function.{Function}
use Rattle.ir_model.specs.declared.module.Module.{Module}
use Rattle.pass_exits_proof.specs.ir_paths.Windows.{instr_in}
use Rattle.pass_exits_proof.specs.ir_paths.declared.point.Point.{Point}
use Rattle.pass_exits_proof.specs.pass_fetch.Blocks.{with_fetches}
use Rattle.pass_exits_proof.specs.pass_fetch.declared.fetch.Fetch.{Fetch}
use Rattle.pass_exits_proof.specs.rule_laws.rules.woven_rules.Blocks.{IsWoven}
use Rattle.pass_exits_proof.specs.rule_laws.rules.woven_rules.Pairs.{AreIncomingOnce}
use Rattle.pass_exits_proof.specs.rule_laws.rules.woven_rules.Weaving.{Weaving}
use Rattle.pass_exits_proof.specs.rule_laws.frames.woven_shape.Shaped.{IsShaped, KeepsCalls}
use Rattle.pass_exits_proof.proofs.ir_laws.paths.crossing.Values.{listed_at}

-- what lies in the frame is an alloca
lies_in : (offsets : List (Option ℕ)) (i : Instr) → lies_outside offsets i ≡ false → is_address i ≡ true
lies_in offsets (Instr.Alloca r ty align) e = refl
lies_in offsets _ e = absurd (cc)

-- ---- slots become bytes of the frame

module _ (m : Module) (k : ℕ) (f : Function) (begin : ℕ) (offsets : List (Option ℕ)) (marked : List Bool) (rules : KeepsFunctionRules m k f) (once : AreIncomingOnce f) (fit : AddressesFit k f begin offsets marked) (coroutine : f.coroutine ≡ true) (shape : IsShaped k f begin) (jumps : ArePhisEnteredByJumps f) where
  abbrev Unmarked : Function
  Unmarked = without_markers marked f

  abbrev Unpromised : Function
  Unpromised = left_over marked f

  abbrev Table : List (Option Fetch)
  Table = slot_fetches begin offsets

  abbrev word : List ℕ
  word = codes "$c.at."

  abbrev Refetched : Function
  Refetched = with_fetches Unpromised Table word

  abbrev Addressed : Function
  Addressed = with_frame_addresses f begin offsets marked

  abbrev unmarking : Weaving
  unmarking = turning_weaving f stays_all

  abbrev unpromising : Weaving
  unpromising = turning_weaving Unmarked stays_all

  abbrev refetching : Weaving
  refetching = fetch_weaving Unpromised Table word

  abbrev addressing : Weaving
  addressing = turning_weaving Refetched (lies_in_frame offsets)

  woven_unmarked : IsWoven unmarking m f Unmarked
  woven_unmarked = markers_woven m k f marked rules

  woven_unpromised : IsWoven unpromising m Unmarked Unpromised
  woven_unpromised = left_woven m k f marked rules once

  woven_refetched : IsWoven refetching m Unpromised Refetched
  woven_refetched = fetched m k f begin offsets marked rules once fit

  woven_addressed : IsWoven addressing m Refetched Addressed
  woven_addressed = slots_woven m k f begin offsets marked rules once fit

  same_unmarked : KeepsCalls unmarking f Unmarked
  same_unmarked = keeps_unmarked m k f begin offsets marked rules once fit coroutine shape jumps

  same_unpromised : KeepsCalls unpromising Unmarked Unpromised
  same_unpromised = keeps_unpromised m k f begin offsets marked rules once fit coroutine shape jumps

  same_refetched : KeepsCalls refetching Unpromised Refetched
  same_refetched = keeps_refetched m k f begin offsets marked rules once fit coroutine shape jumps

  same_addressed : KeepsCalls addressing Refetched Addressed
  same_addressed = keeps_addressed m k f begin offsets marked rules once fit coroutine shape jumps

  pub addresses_end_first : AreEndedFirst f → AreEndedFirst Addressed
  addresses_end_first h = woven_end_first addressing m Refetched Addressed woven_addressed same_addressed (woven_end_first refetching m Unpromised Refetched woven_refetched same_refetched (woven_end_first unpromising m Unmarked Unpromised woven_unpromised same_unpromised (woven_end_first unmarking m f Unmarked woven_unmarked same_unmarked h)))

  -- ---- nothing is needed

  abbrev point : ℕ → ℕ → Point
  point q at = record { block = q; at = at }

  markers_quiet : IsQuiet unmarking m f Unmarked woven_unmarked same_unmarked k rules coroutine begin shape
  markers_quiet = record {
    follows = λ v old other q b c got now away. turned_follows v (filter (stays marked)) f.blocks q b c got now (filter_follows v (stays marked) b.instrs (λ i l e. marker_none m k f marked rules q b i got l e v));
    fronts = λ v l. absurd l;
  }

  rules_of_unmarked : KeepsFunctionRules m k Unmarked
  rules_of_unmarked = rules_unmarked m k f begin offsets marked rules once fit coroutine shape jumps

  shape_of_unmarked : IsShaped k Unmarked begin
  shape_of_unmarked = shape_unmarked m k f begin offsets marked rules once fit coroutine shape jumps

  promise_quiet : IsQuiet unpromising m Unmarked Unpromised woven_unpromised same_unpromised k rules_of_unmarked coroutine begin shape_of_unmarked
  promise_quiet = record {
    follows = λ v old other q b c got now away. turned_follows v (map without_promise_of) Unmarked.blocks q b c got now (promise_follows v b.instrs);
    fronts = λ v l. absurd l;
  }

  rules_of_unpromised : KeepsFunctionRules m k Unpromised
  rules_of_unpromised = unmarked_keeps m k f marked rules once

  shape_of_unpromised : IsShaped k Unpromised begin
  shape_of_unpromised = shape_unpromised m k f begin offsets marked rules once fit coroutine shape jumps

  fetches_quiet : IsQuiet refetching m Unpromised Refetched woven_refetched same_refetched k rules_of_unpromised coroutine begin shape_of_unpromised
  fetches_quiet = record {
    follows = λ v old other q b c got now away.
        fetches_follow Table (length Unpromised.names) v old
        (λ u x e same.
        let y = address_found begin offsets u x e in
        let is : begin ≡ v = ap base_of (sym y.same) ∙ same in
        other_than_begin m k Unpromised rules_of_unpromised begin v shape_of_unpromised.named other is)
        (length Unpromised.names) (length Unpromised.names) (second_name Unpromised Table) Unpromised.blocks Unpromised.blocks (omega arith) (blocks_rise Table (length Unpromised.names) Unpromised.blocks) q b c got now;
    fronts = λ v l. absurd l;
  }

  rules_3 : KeepsFunctionRules m k Refetched
  rules_3 = fetched_keeps m k f begin offsets marked rules once fit

  shape_3 : IsShaped k Refetched begin
  shape_3 = shape_refetched m k f begin offsets marked rules once fit coroutine shape jumps

  slots_quiet : IsQuiet addressing m Refetched Addressed woven_addressed same_addressed k rules_3 coroutine begin shape_3
  slots_quiet = record {
    follows = λ v old other q b c got now away.
        turned_follows v (filter (lies_outside offsets)) Refetched.blocks q b c got now
        (filter_follows v (lies_outside offsets) b.instrs
        (λ i l e makes.
        let x = listed_at b.instrs i l in
        other (point q x.0) i (ap (λ (o : Option Block). instr_in o x.0) got ∙ x.1) makes (lies_in offsets i e)));
    fronts = λ v l. absurd l;
  }

  pub addresses_nothing : IsNothingNeeded f → IsNothingNeeded Addressed
  addresses_nothing h =
      nothing_stays addressing m Refetched Addressed woven_addressed same_addressed k rules_3 coroutine begin shape_3 slots_quiet
      (nothing_stays refetching m Unpromised Refetched woven_refetched same_refetched k rules_of_unpromised coroutine begin shape_of_unpromised fetches_quiet
      (nothing_stays unpromising m Unmarked Unpromised woven_unpromised same_unpromised k rules_of_unmarked coroutine begin shape_of_unmarked promise_quiet
      (nothing_stays unmarking m f Unmarked woven_unmarked same_unmarked k rules coroutine begin shape markers_quiet h)))

  -- ---- no value of coro.frame is either

  pub addresses_frames : AreFramesUnneeded f → AreFramesUnneeded Addressed
  addresses_frames h =
      frames_stay addressing m Refetched Addressed woven_addressed same_addressed k rules_3 coroutine begin shape_3 slots_quiet
      (frames_stay refetching m Unpromised Refetched woven_refetched same_refetched k rules_of_unpromised coroutine begin shape_of_unpromised fetches_quiet
      (frames_stay unpromising m Unmarked Unpromised woven_unpromised same_unpromised k rules_of_unmarked coroutine begin shape_of_unmarked promise_quiet
      (frames_stay unmarking m f Unmarked woven_unmarked same_unmarked k rules coroutine begin shape markers_quiet h)))
