-- What stands at the end of a block is executed in a row.
use Rattle.std.proofs.Common.{◌≡◌, ℕ, ◌<◌, ◌≤◌, List, ◌++◌, length, arith}
use Rattle.std.specs.Prelude.{Option}
use Rattle.pass_proofs.specs.ir_model.declared.instr.Instr.{Instr}
use Rattle.pass_proofs.specs.ir_model.declared.module.Function.{Function}
use Rattle.pass_proofs.specs.ir_model.declared.operand.Operand.{Operand}
use Rattle.pass_proofs.specs.pass_fetch.Blocks.{end_at, next_after_phis_by}
use Rattle.pass_proofs.specs.pass_fetch.Fetching.{fetches_of_all, next_after_all}
use Rattle.pass_proofs.specs.pass_fetch.declared.fetch.Fetch.{Fetch}
use Rattle.pass_frames_code.proofs.distances.Sums.{sets_on}
use Rattle.pass_frames_code.proofs.fetched.Runs.{fetched}
use Rattle.pass_frames_code.proofs.phis.Ends.{blocks_stay, phis_fetched}
use Rattle.pass_frames_code.specs.Distances.{SetsFrom}
use Rattle.pass_frames_code.specs.Ends.{Ends, MayEnd, end_line}
use Rattle.pass_frames_code.specs.Fetched.{AreFetched}
use Rattle.pass_frames_code.specs.Passes.{phi_ends}
use Rattle.pass_frames_code.specs.Phis.{AreBlocksSeen, ArePhisFetched}
use Rattle.pass_proofs.proofs.fetch.rules.Ends.{blocks_rise}
use Rattle.pass_proofs.proofs.fetch.rules.Puts.{fetch_rises}
use Rattle.pass_proofs.proofs.run_laws.access.Lines.{runs_append}
use Rattle.pass_proofs.specs.run_laws.access.Lines.{Runs}
use Rattle.pass_proofs.specs.run_memory.declared.pointer.Value.{Value}
use Rattle.pass_proofs.specs.run_step.Step.{Context, Work}

module _ (T S : List (Option Fetch)) (given reached : ℕ → Value) (c : Context) (f h : Function) (label n p : ℕ)
    (xs ys : List Operand) (w : Work) (m : MayEnd T S given reached c f h label n p xs ys w) where
  abbrev N : ℕ
  N = length f.names

  abbrev U : ℕ
  U = length h.names

  load_up : N ≤ n
  load_up =
      let a : N ≤ next_after_phis_by T N f.blocks = blocks_rise T N f.blocks in
      let b = m.loads_before in
      omega (arith, a, b)

  address_up : U ≤ p
  address_up =
      let a : U ≤ next_after_phis_by S U h.blocks = blocks_rise S U h.blocks in
      let b = m.addresses_before in
      omega (arith, a, b)

  -- loads for phis
  one : ArePhisFetched T given c f label w
  one =
      let a = m.loads_before in
      let b : n ≤ next_after_all T n xs =
      fetch_rises T n xs in
      let r = m.end_room in
      phis_fetched T given c f label w m.label_low m.loads (omega (arith, a, b, r))

  -- for the terminator
  two : AreFetched T given c n xs one.work
  two =
      let long : length one.work.values ≡ length w.values = one.sets.room in
      let r = m.end_room in
      fetched T given c n xs one.work (m.end_loads one.work one.sets) m.end_below
      (omega (arith, long, r))

  along_two : SetsFrom N w two.work
  along_two = sets_on N n w one.work two.work load_up one.sets two.sets

  loads_seen : AreBlocksSeen T given c w two.work label N f.blocks
  loads_seen =
      blocks_stay T given c N label w f.blocks N n one.work two.work (omega arith) m.loads
      m.loads_before two.sets one.seen

  -- addresses for phis
  three : ArePhisFetched S reached c h label two.work
  three =
      let a = m.addresses_before in
      let b : p ≤ next_after_all S p ys =
      fetch_rises S p ys in
      let r = m.loaded_room in
      let long : length two.work.values ≡ length w.values = along_two.room in
      let low : label < N = m.label_low in
      let up : N ≤ U = m.names in
      phis_fetched S reached c h label two.work (omega (arith, low, up)) (m.addresses two.work along_two)
      (omega (arith, a, b, r, long))

  along_three : SetsFrom N w three.work
  along_three = sets_on N U w two.work three.work m.names along_two three.sets

  -- for the terminator
  four : AreFetched S reached c p ys three.work
  four =
      let long : length three.work.values ≡ length w.values = along_three.room in
      let r = m.loaded_room in
      fetched S reached c p ys three.work (m.end_addresses three.work along_three)
      m.loaded_below (omega (arith, long, r))

  along_four : SetsFrom N w four.work
  along_four =
      let a : N ≤ U = m.names in
      let b = address_up in
      sets_on N p w three.work four.work (omega (arith, a, b)) along_three four.sets

  addresses_seen : AreBlocksSeen S reached c two.work four.work label U h.blocks
  addresses_seen =
      blocks_stay S reached c U label two.work h.blocks U p three.work four.work
      (omega arith) (m.addresses two.work along_two) m.addresses_before four.sets three.seen

  abbrev phi_loads : List Instr
  phi_loads = end_at (phi_ends f T) label

  abbrev term_loads : List Instr
  term_loads = fetches_of_all T n xs

  abbrev phi_addresses : List Instr
  phi_addresses = end_at (phi_ends h S) label

  abbrev term_addresses : List Instr
  term_addresses = fetches_of_all S p ys

  runs : Runs c (end_line T S f h label n p xs ys) w four.work
  runs =
      runs_append c (phi_loads ++ term_loads) (phi_addresses ++ term_addresses) w two.work four.work
      (runs_append c phi_loads term_loads w one.work two.work one.runs two.runs)
      (runs_append c phi_addresses term_addresses two.work three.work four.work three.runs four.runs)

  pub ends : Ends T S given reached c f h label n p xs ys w
  ends = record {
    first = one.work;
    loaded = two.work;
    third = three.work;
    work = four.work;
    runs = runs;
    along_first = one.sets;
    along_loaded = along_two;
    along_third = along_three;
    on_third = three.sets;
    along = along_four;
    loads_seen = loads_seen;
    addresses_seen = addresses_seen;
    end_loaded = two.seen;
    end_reached = four.seen;
  }
