-- New names of what is fetched at the end of a block come in the order of the passes.
use Rattle.std.proofs.Common.{◌≡◌, ℕ, ◌<◌, ◌≤◌, List, [], ◌++◌, length, Option, Some, sym, ap, ◌∙◌, arith, append_assoc}
use Rattle.std.proofs.lemmas.List.{take_all}
use Rattle.std.specs.List.{Contains}
use Rattle.std.specs.Prelude.{codes, slice_get, take, unwrap_or}
use Rattle.pass_frames_proof.specs.ir_model.declared.instr.Instr.{Instr}
use Rattle.pass_frames_proof.specs.ir_model.declared.module.Block.{Block}
use Rattle.pass_frames_proof.specs.ir_model.declared.module.Function.{Function}
use Rattle.pass_frames_proof.specs.pass_cells.Cells.{fetches_of}
use Rattle.pass_frames_proof.specs.pass_copies.declared.slot.EarlySlot.{EarlySlot}
use Rattle.pass_frames_proof.specs.pass_fetch.Blocks.{next_after_block, next_after_blocks, next_after_phis_by, with_fetches}
use Rattle.pass_frames_proof.specs.pass_fetch.Fetching.{next_after_all}
use Rattle.pass_frames_proof.specs.pass_fetch.Instrs.{next_after_instrs, term_operands}
use Rattle.pass_frames_proof.specs.pass_fetch.declared.fetch.Fetch.{Fetch}
use Rattle.pass_frames_meaning.proofs.order.Counts.{blocks_to, further, instrs_up, joined, names_count, up_to_second}
use Rattle.pass_frames_meaning.proofs.order.Order.{A0, address_is, addresses_up, before, copied_names, early_below, fetched_names, loads_passed, unmarked_are}
use Rattle.pass_frames_proof.proofs.code.Framed.{framed_is}
use Rattle.pass_frames_proof.proofs.code.Left.{Far, far_named, longer}
use Rattle.pass_frames_proof.proofs.stepping.Names.{named_written}
use Rattle.pass_frames_proof.specs.Code.{address_state, last_state, load_name, slot_table}
use Rattle.pass_frames_proof.specs.Framings.{IsFraming}
use Rattle.pass_frames_proof.specs.Layers.{grown, passed, woven}
use Rattle.pass_frames_proof.specs.Passes.{block_at, fetched_first, no_block}
use Rattle.pass_frames_proof.specs.Places.{Framing, Placed, copies, edged, fetched, framed, instrs_at, named, placed_layer, plan, unmarked, unmarked_layer, written}
use Rattle.pass_frames_proof.specs.Stepping.{state_in}
use Rattle.pass_frames_proof.proofs.pass_proofs.cells.rules.Totals.{blocks_rise}

module _ (x : Framing) (is : IsFraming x) (k : ℕ)
    (here : slice_get (edged x).blocks k ≡ Some (block_at (edged x) k)) where
  abbrev T : List (Option Fetch)
  T = fetches_of (plan x)

  abbrev S : List (Option Fetch)
  S = slot_table x

  abbrev N : ℕ
  N = length (named x).names

  abbrev U : ℕ
  U = length (unmarked x).names

  abbrev n : ℕ
  n = load_name (last_state x k)

  abbrev m : ℕ
  m = (address_state (last_state x k)).0

  abbrev b : Block
  b = block_at (edged x) k

  -- ---- lengths of the tables

  pub written_unmarked : length (written x).names ≤ U
  written_unmarked = let a = copied_names x is k in omega (arith, a)

  pub fetched_written : length (fetched x).names ≤ length (written x).names
  fetched_written = longer (fetched x).names _

  pub named_unmarked : N ≤ U
  named_unmarked =
      let a : N ≤ length (written x).names = named_written x in
      let c = written_unmarked in
      omega (arith, a, c)

  pub edged_named : length (edged x).names ≤ N
  edged_named = let a : Far x is ≤ N = far_named x is in omega (arith, a)

  framed_names : length (framed x).names ≡ length (with_fetches (unmarked x) S (codes "$c.at.")).names
  framed_names = ap (λ (z : Function). length z.names) (framed_is x)

  pub unmarked_framed : U ≤ length (framed x).names
  unmarked_framed =
      let a : U ≤ next_after_phis_by S U (unmarked x).blocks = up_to_second S (unmarked x) (codes "$c.at.") in
      let c : next_after_phis_by S U (unmarked x).blocks
      ≤ next_after_blocks S (next_after_phis_by S U (unmarked x).blocks) (unmarked x).blocks =
      blocks_rise 0 S [] (next_after_phis_by S U (unmarked x).blocks) (unmarked x).blocks in
      let d = names_count S (unmarked x) (codes "$c.at.") in
      let e = framed_names in
      omega (arith, a, c, d, e)

  -- ---- loads

  load_last : n ≡ next_after_instrs T (fetched_first (named x) T k) (instrs_at x k)
  load_last = loads_passed x is k (placed_layer x k).start (instrs_at x k)

  second_first : next_after_phis_by T N (named x).blocks ≤ fetched_first (named x) T k
  second_first =
      blocks_rise 0 T [] (next_after_phis_by T N (named x).blocks) (take k (named x).blocks)

  pub loads_before : next_after_phis_by T N (named x).blocks ≤ n
  loads_before =
      let a = second_first in
      let c : fetched_first (named x) T k ≤ next_after_instrs T (fetched_first (named x) T k) (instrs_at x k) =
      instrs_up T (fetched_first (named x) T k) (instrs_at x k) in
      let d = load_last in
      omega (arith, a, c, d)

  pub named_low : N ≤ n
  named_low =
      let a : N ≤ next_after_phis_by T N (named x).blocks = up_to_second T (named x) (codes "$c.use.") in
      let c = loads_before in
      omega (arith, a, c)

  pub loads_fit : next_after_all T n (term_operands b.term) ≤ length (fetched x).names
  loads_fit =
      let a : next_after_block T (fetched_first (named x) T k) b
      ≤ next_after_blocks T (next_after_phis_by T N (named x).blocks) (named x).blocks =
      blocks_to T (next_after_phis_by T N (named x).blocks) (named x).blocks k b here in
      let c = names_count T (named x) (codes "$c.use.") in
      let d = fetched_names x is k in
      let e : next_after_all T n (term_operands b.term) ≡ next_after_block T (fetched_first (named x) T k) b =
      ap (λ (j : ℕ). next_after_all T j (term_operands b.term)) load_last in
      omega (arith, a, c, d, e)

  pub phis_fetched : next_after_phis_by T N (named x).blocks ≤ length (fetched x).names
  phis_fetched =
      let a : next_after_phis_by T N (named x).blocks
      ≤ next_after_blocks T (next_after_phis_by T N (named x).blocks) (named x).blocks =
      blocks_rise 0 T [] (next_after_phis_by T N (named x).blocks) (named x).blocks in
      let c = names_count T (named x) (codes "$c.use.") in
      let d = fetched_names x is k in
      omega (arith, a, c, d)

  -- ---- addresses

  all_taken : state_in x k (length (instrs_at x k)) ≡ last_state x k
  all_taken = ap (λ (js : List Instr). passed (placed_layer x k) (placed_layer x k).start js)
      (take_all (length (instrs_at x k)) (instrs_at x k) (omega arith))

  pub unmarked_low : U ≤ m
  unmarked_low =
      let a : U ≤ (address_state (state_in x k (length (instrs_at x k)))).0 =
      addresses_up x is k (length (instrs_at x k)) in
      let c : (address_state (state_in x k (length (instrs_at x k)))).0 ≡ m =
      ap (λ (s : Placed). (address_state s).0) all_taken in
      omega (arith, a, c)

  address_last : m ≡ next_after_instrs S (A0 x is k) (before x is k (length (instrs_at x k)))
  address_last =
      ap (λ (s : Placed). (address_state s).0) (sym all_taken) ∙ address_is x is k (length (instrs_at x k))

  pub addresses_before : next_after_phis_by S U (unmarked x).blocks ≤ m
  addresses_before =
      let a : next_after_phis_by S U (unmarked x).blocks ≤ A0 x is k =
      blocks_rise 0 S [] (next_after_phis_by S U (unmarked x).blocks) (take k (unmarked x).blocks) in
      let c : A0 x is k ≤ next_after_instrs S (A0 x is k) (before x is k (length (instrs_at x k))) =
      instrs_up S (A0 x is k) (before x is k (length (instrs_at x k))) in
      let d = address_last in
      omega (arith, a, c, d)

  abbrev back : List Instr
  back = (unmarked_layer x k).back (passed (unmarked_layer x k) (unmarked_layer x k).start (instrs_at x k))

  shape : woven (unmarked_layer x k) (instrs_at x k) ≡ before x is k (length (instrs_at x k)) ++ back
  shape =
      sym (append_assoc (unmarked_layer x k).front
      (grown (unmarked_layer x k) (unmarked_layer x k).start (instrs_at x k)) back)
      ∙ ap (λ (js : List Instr). ((unmarked_layer x k).front
      ++ grown (unmarked_layer x k) (unmarked_layer x k).start js) ++ back)
      (sym (take_all (length (instrs_at x k)) (instrs_at x k) (omega arith)))

  pub addresses_fit : next_after_all S m (term_operands (block_at (unmarked x) k).term) ≤ length (framed x).names
  addresses_fit =
      let c = unmarked_are x is k b here in
      let at : block_at (unmarked x) k ≡ c.0 = ap (λ (o : Option Block). unwrap_or o no_block) c.1 in
      let to : next_after_block S (A0 x is k) c.0
      ≤ next_after_blocks S (next_after_phis_by S U (unmarked x).blocks) (unmarked x).blocks =
      blocks_to S (next_after_phis_by S U (unmarked x).blocks) (unmarked x).blocks k c.0 c.1 in
      let sum : next_after_instrs S (A0 x is k) c.0.instrs ≡ next_after_instrs S m back =
      ap (λ (js : List Instr). next_after_instrs S (A0 x is k) js) (c.2.instrs ∙ shape)
      ∙ joined S (A0 x is k) (before x is k (length (instrs_at x k))) back
      ∙ ap (λ (j : ℕ). next_after_instrs S j back) (sym address_last) in
      let up : m ≤ next_after_instrs S m back = instrs_up S m back in
      let far : next_after_all S m (term_operands c.0.term)
      ≤ next_after_all S (next_after_instrs S m back) (term_operands c.0.term) =
      further S m (next_after_instrs S m back) (term_operands c.0.term) up in
      let same : next_after_all S (next_after_instrs S m back) (term_operands c.0.term)
      ≡ next_after_block S (A0 x is k) c.0 =
      ap (λ (j : ℕ). next_after_all S j (term_operands c.0.term)) (sym sum) in
      let count = names_count S (unmarked x) (codes "$c.at.") in
      let names = framed_names in
      let one : next_after_all S m (term_operands (block_at (unmarked x) k).term)
      ≡ next_after_all S m (term_operands c.0.term) =
      ap (λ (z : Block). next_after_all S m (term_operands z.term)) at in
      omega (arith, to, far, same, count, names, one)

  -- ---- slots that are used before begin have names between those of loads and of addresses

  pub slots_below : (s : EarlySlot) → Contains (copies x).slots s → (s.temporary < U) × (s.cell < U)
  slots_below s c = early_below x is k s c
