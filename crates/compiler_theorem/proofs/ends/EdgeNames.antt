-- In front of a block on a resume or destroy edge new names come in the order of the passes.
use Rattle.std.proofs.Common.{◌≡◌, inl, inr, ℕ, zero, suc, ◌+◌, ◌-◌, ◌*◌, ◌<◌, ◌≤◌, Bool, true, false, List, [], ◌∷◌, ◌++◌, length, Option, Some, refl, sym, ap, ◌∙◌, subst, if◌then◌else◌, ◌==◌, arith}
use Rattle.std.proofs.lemmas.Bool.{false≢true}
use Rattle.std.proofs.lemmas.List.{append-nil, length-append}
use Rattle.std.specs.List.{Contains}
use Rattle.std.specs.Prelude.{codes, slice_get, take}
use Rattle.compiler_theorem.proofs.ends.Begins.{entry_off}
use Rattle.compiler_theorem.proofs.ends.EdgeOrders.{IsBehindSuspend}
use Rattle.compiler_theorem.proofs.ends.EdgeRows.{IsToldRow, row_told}
use Rattle.compiler.specs.flow_solver.Paths.{IsListed}
use Rattle.compiler.proofs.ir_laws.facts.Truth.{equal_numbers}
use Rattle.compiler.specs.ir_model.declared.instr.Instr.{Instr}
use Rattle.compiler.specs.ir_model.declared.module.Block.{Block}
use Rattle.compiler.specs.ir_model.declared.module.Function.{Function}
use Rattle.compiler.specs.ir_model.declared.module.Module.{Module}
use Rattle.compiler.specs.pass_cells.Cells.{fetched_function, fetches_of}
use Rattle.compiler.specs.pass_cells.Moves.{after_again, again_one, again_values}
use Rattle.compiler.specs.pass_cells.Written.{after_block, after_blocks, again_row, entry_front as cells_front, row_at, stored_phis}
use Rattle.compiler.specs.pass_cells.declared.plan.KeptValue.{KeptValue}
use Rattle.compiler.specs.pass_cells.declared.plan.Plan.{Plan}
use Rattle.compiler.specs.pass_copies.BeginCopies.{entry_front as copies_front, puts}
use Rattle.compiler.specs.pass_copies.declared.slot.EarlySlot.{EarlySlot}
use Rattle.compiler.specs.pass_fetch.Blocks.{fetched_phis, next_after_phis_by, numbered_names, with_fetches}
use Rattle.compiler.specs.pass_fetch.Instrs.{next_after_instrs}
use Rattle.compiler.specs.pass_fetch.declared.fetch.Fetch.{Fetch}
use Rattle.pass_frames_meaning.proofs.ends.Counted.{phis_fetched}
use Rattle.pass_frames_meaning.proofs.ends.Phis.{phis_fetched_there}
use Rattle.pass_frames_meaning.proofs.ends.Targets.{bare}
use Rattle.pass_frames_meaning.proofs.order.Counts.{first_low, instrs_to, instrs_up, joined, up_to_second}
use Rattle.pass_frames_meaning.proofs.order.Order.{A0, copied_names, early_below, unmarked_are}
use Rattle.pass_frames_meaning.proofs.pass_frames_proof.agains.Lines.{again_code, root_unfetched}
use Rattle.pass_frames_meaning.proofs.pass_frames_proof.agains.Values.{kept_root}
use Rattle.pass_frames_meaning.proofs.pass_frames_proof.code.Ends.{unmarked_front}
use Rattle.pass_frames_meaning.proofs.pass_frames_proof.code.Framed.{framed_is}
use Rattle.pass_frames_meaning.proofs.pass_frames_proof.code.Left.{Far, far_named}
use Rattle.pass_frames_meaning.proofs.pass_frames_proof.code.Passes.{block_is, fetched_there}
use Rattle.pass_frames_meaning.proofs.pass_frames_proof.from_edges.Puts.{puts_are}
use Rattle.pass_frames_meaning.proofs.pass_frames_proof.layers.Grown.{passed_append}
use Rattle.pass_frames_meaning.proofs.pass_frames_proof.lines.Fillers.{filler_left}
use Rattle.pass_frames_meaning.proofs.pass_frames_proof.stepping.Names.{slots_new}
use Rattle.pass_frames_meaning.specs.pass_frames_proof.Code.{front_moves, slot_table}
use Rattle.pass_frames_meaning.specs.pass_frames_proof.Framings.{IsFraming}
use Rattle.pass_frames_meaning.specs.pass_frames_proof.FromEdges.{AreAgainsInOrder, IsEarlyInFrame, address_name, again_name}
use Rattle.pass_frames_meaning.specs.pass_frames_proof.Layers.{grown, passed}
use Rattle.pass_frames_meaning.specs.pass_frames_proof.Passes.{block_at, phi_ends}
use Rattle.pass_frames_meaning.specs.pass_frames_proof.Places.{Framing, addressing_layer, copies, edged, fetched, framed, is_return, named, plan, unmarked, unmarked_layer, with_copies, written}
use Rattle.pass_frames_meaning.specs.pass_frames_proof.Related.{IsKeptValue}
use Rattle.compiler.proofs.pass_proofs.cells.rules.Counts.{written_low}
use Rattle.compiler.proofs.pass_proofs.cells.rules.Totals.{all_rise, numbered_length}
use Rattle.compiler.specs.rule_laws.frames.rows.Returns.{HaveOwnReturns}
use Rattle.compiler.specs.run_laws.changed.Changed.{Each}

-- ---- names of the pass that writes

two_more : (n : ℕ) (row : List ℕ) → after_again n row ≡ n + 2 * length row
two_more n [] = omega arith
two_more n (k ∷ ks) = let a = two_more (n + 2) ks in omega (arith, a)

block_within : (m : Module) (p : Plan) (n : ℕ) (bs : List Block) (k : ℕ) (b : Block) → slice_get bs k ≡ Some b
    → after_block m p (after_blocks m p n (take k bs)) b ≤ after_blocks m p n bs
block_within m p n [] k b e = absurd (cc)
block_within m p n (c ∷ bs) zero b e =
    let same : c ≡ b = cc in
    subst (λ (d : Block). after_block m p n d ≤ after_blocks m p n (c ∷ bs)) same
    (all_rise 0 m p (after_block m p n c) bs)
block_within m p n (c ∷ bs) (suc k) b e = block_within m p (after_block m p n c) bs k b e

module _ (x : Framing) (is : IsFraming x) (own : HaveOwnReturns (edged x)) (k : ℕ)
    (there : slice_get (edged x).blocks k ≡ Some (block_at (edged x) k)) (returned : is_return x k ≡ true)
    (behind : IsBehindSuspend x k) (early : Each (IsEarlyInFrame x 0) (copies x).slots) where
  abbrev row : List ℕ
  row = row_at (plan x).rows (Some behind.order)

  abbrev T : List (Option Fetch)
  T = fetches_of (plan x)

  abbrev S : List (Option Fetch)
  S = slot_table x

  abbrev ss : List EarlySlot
  ss = (copies x).slots

  abbrev n : ℕ
  n = again_name x k

  abbrev m : ℕ
  m = address_name x k

  fetched_block : (d : Block) × (slice_get (fetched x).blocks k ≡ Some d)
  unfolding fetched_function
  fetched_block =
      let q = fetched_there (fetches_of (plan x)) (phi_ends (named x) (fetches_of (plan x))) (length (named x).names)
      (next_after_phis_by (fetches_of (plan x)) (length (named x).names) (named x).blocks) (named x).blocks k
      (block_at (edged x) k) there in
      (_, q.1)

  fetched_here : slice_get (fetched x).blocks k ≡ Some (block_at (fetched x) k)
  fetched_here = fetched_block.1 ∙ ap Some (sym (block_is (fetched x) k fetched_block.0 fetched_block.1))

  -- ---- in order

  named_fetched : length (named x).names ≤ length (fetched x).names
  named_fetched =
      let a : length (named x).names ≤ next_after_phis_by T (length (named x).names) (named x).blocks =
      up_to_second T (named x) (codes "$c.use.") in
      let c = phis_fetched x is k there in
      omega (arith, a, c)

  low : length (named x).names ≤ again_name x k
  low =
      let a = named_fetched in
      let c : length (fetched x).names ≤ n =
      all_rise 0 x.code (plan x) (length (fetched x).names) (take k (fetched x).blocks) in
      omega (arith, a, c)

  abbrev total : ℕ
  total = after_blocks x.code (plan x) (length (fetched x).names) (fetched x).blocks

  written_total : after_blocks x.code (plan x) (length (fetched x).names) (fetched x).blocks ≤ length (written x).names
  written_total =
      let first : ℕ = length (fetched x).names in
      let up : first ≤ total = all_rise 0 x.code (plan x) first (fetched x).blocks in
      let a = length-append (fetched x).names (numbered_names (codes "$c.kept.") (total - first)) in
      let c = numbered_length (codes "$c.kept.") (total - first) in
      omega (arith, up, a, c)

  row_written : again_name x k + 2 * length row ≤ length (written x).names
  row_written =
      let a = two_more n (again_row (plan x) (block_at (fetched x) k).label) in
      let c : after_again n (again_row (plan x) (block_at (fetched x) k).label)
      ≤ after_block x.code (plan x) n (block_at (fetched x) k) =
      written_low 0 x.code (plan x) (after_again n (again_row (plan x) (block_at (fetched x) k).label))
      (block_at (fetched x) k).instrs in
      let d = block_within x.code (plan x) (length (fetched x).names) (fetched x).blocks k (block_at (fetched x) k)
      fetched_here in
      let e = written_total in
      let same : length (again_row (plan x) (block_at (fetched x) k).label) ≡ length row =
      ap (λ (js : List ℕ). length js) behind.again in
      omega (arith, a, c, d, e, same)

  copied_address : length (with_copies x).names ≤ address_name x k
  copied_address =
      let a : length (unmarked x).names ≤ A0 x is k = first_low S (unmarked x) (codes "$c.at.") k in
      let same : length (unmarked x).names ≡ length (with_copies x).names = refl in
      omega (arith, a, same)

  slots_there : (s : EarlySlot) → Contains (copies x).slots s
      → ((again_name x k + 2 * length row ≤ s.temporary) × (again_name x k + 2 * length row ≤ s.cell))
      × ((s.temporary < address_name x k) × (s.cell < address_name x k))
  slots_there s c =
      let w = row_written in
      let l = slots_new x s c in
      let l0 : length (written x).names ≤ s.temporary = l.0 in
      let l1 : length (written x).names ≤ s.cell = l.1 in
      let e = early_below x is k s c in
      let e0 : s.temporary < length (with_copies x).names = e.0 in
      let e1 : s.cell < length (with_copies x).names = e.1 in
      let a = copied_address in
      ((omega (arith, w, l0), omega (arith, w, l1)), (omega (arith, e0, a), omega (arith, e1, a)))

  -- ---- addresses of the front

  not_entry : (q : Bool) → (k == 0) ≡ q → q ≡ false
  not_entry false e = refl
  not_entry true e =
      let no : false ≡ true = sym (entry_off x is) ∙ ap (is_return x) (sym (equal_numbers k 0 e)) ∙ returned in
      absurd (false≢true no)

  no_phis : (block_at (fetched x) k).phis ≡ []
  no_phis =
      let z = phis_fetched_there x is k there in
      z.1 ∙ ap (fetched_phis (fetches_of (plan x)) z.0) (bare x is own k there returned).no_phis

  moves_are : front_moves x k ≡ puts (copies x).slots ++ again_values (plan x).kept (again_name x k) row
  moves_are =
      (λ i. ((if not_entry (k == 0) refl i then copies_front ss else [])
      ++ (if behind.resumed i then puts ss else []))
      ++ (((if not_entry (k == 0) refl i then cells_front (plan x) (edged x).params else [])
      ++ again_values (plan x).kept n (behind.again i)) ++ stored_phis (plan x) (no_phis i)))
      ∙ ap (λ (js : List Instr). puts ss ++ js) (append-nil (again_values (plan x).kept n row))

  rows_passed : (rest : List ℕ) → ((at : ℕ) → IsListed at rest → IsToldRow x is at) → (j q : ℕ)
      → length (named x).names ≤ j
      → passed (addressing_layer x k) (q, tt) (again_values (plan x).kept j rest) ≡ (q + length rest, tt)
  rows_passed [] told j q up = let e : q ≡ q + 0 = omega arith in λ i. (e i, tt)
  rows_passed (at ∷ rest) told j q up =
      let r : IsToldRow x is at = told at (inl refl) in
      let kept : IsKeptValue x r.name r.value = record { number = at; told = r.told; there = r.there } in
      let far : Far x is ≤ length (named x).names = far_named x is in
      let code = again_code x is k j q at r.offset r.value (omega (arith, far, up)) r.there
      (filler_left x is r.name r.value kept)
      (λ slot e. root_unfetched x is r.name slot (kept_root x is r.name r.value kept slot e)) r.placed in
      let e : q + 1 + length rest ≡ q + length (at ∷ rest) = omega arith in
      passed_append (addressing_layer x k) (q, tt) (again_one j (slice_get (plan x).kept at))
      (again_values (plan x).kept (j + 2) rest)
      ∙ ap (λ (o : Option KeptValue).
      passed (addressing_layer x k) (passed (addressing_layer x k) (q, tt) (again_one j o))
      (again_values (plan x).kept (j + 2) rest)) r.there
      ∙ ap (λ (s : ℕ × Unit {0}). passed (addressing_layer x k) s (again_values (plan x).kept (j + 2) rest)) code.1
      ∙ rows_passed rest (λ a l. told a (inr l)) (j + 2) (q + 1) (omega (arith, up))
      ∙ (λ i. (e i, tt))

  front_passed : passed (addressing_layer x k) (address_name x k, tt) (front_moves x k)
      ≡ (address_name x k + length (copies x).slots + length row, tt)
  front_passed =
      ap (passed (addressing_layer x k) (m, tt)) moves_are
      ∙ passed_append (addressing_layer x k) (m, tt) (puts ss) (again_values (plan x).kept n row)
      ∙ ap (λ (s : ℕ × Unit {0}). passed (addressing_layer x k) s (again_values (plan x).kept n row))
      (puts_are x k 0 m ss early).1
      ∙ rows_passed row (row_told x is behind.order) n (m + length ss) low

  addresses_passed : (s : ℕ × Unit {0}) (js : List Instr)
      → (passed (addressing_layer x k) s js).0 ≡ next_after_instrs (slot_table x) s.0 js
  addresses_passed s [] = refl
  addresses_passed s (j ∷ js) = addresses_passed ((addressing_layer x k).after s j) js

  room : address_name x k + length (copies x).slots + length row ≤ length (framed x).names
  room =
      let c = unmarked_are x is k (block_at (edged x) k) there in
      let to : next_after_instrs S (A0 x is k) c.0.instrs
      ≤ length (with_fetches (unmarked x) S (codes "$c.at.")).names =
      instrs_to S (unmarked x) (codes "$c.at.") k c.0 c.1 in
      let front : List Instr = (unmarked_layer x k).front in
      let rest : List Instr = grown (unmarked_layer x k) (unmarked_layer x k).start (block_at (edged x) k).instrs
      ++ (unmarked_layer x k).back
      (passed (unmarked_layer x k) (unmarked_layer x k).start (block_at (edged x) k).instrs) in
      let sum : next_after_instrs S (A0 x is k) c.0.instrs
      ≡ next_after_instrs S (next_after_instrs S (A0 x is k) front) rest =
      ap (λ (js : List Instr). next_after_instrs S (A0 x is k) js) c.2.instrs ∙ joined S (A0 x is k) front rest in
      let up : next_after_instrs S (A0 x is k) front
      ≤ next_after_instrs S (next_after_instrs S (A0 x is k) front) rest =
      instrs_up S (next_after_instrs S (A0 x is k) front) rest in
      let one : next_after_instrs S (A0 x is k) front ≡ m + length ss + length row =
      ap (λ (js : List Instr). next_after_instrs S (A0 x is k) js) (unmarked_front x is k)
      ∙ sym (addresses_passed (m, tt) (front_moves x k)) ∙ ap (λ (s : ℕ × Unit {0}). s.0) front_passed in
      let names : length (framed x).names ≡ length (with_fetches (unmarked x) S (codes "$c.at.")).names =
      ap (λ (z : Function). length z.names) (framed_is x) in
      omega (arith, to, sum, up, one, names)

  pub agains_in_order : AreAgainsInOrder x k (row_at (plan x).rows (Some behind.order))
  agains_in_order = record {
    low = low;
    addresses =
        let w = row_written in
        let c = copied_names x is k in
        let a = copied_address in
        omega (arith, w, c, a);
    slots = slots_there;
    room = room;
  }
