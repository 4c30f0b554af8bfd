-- Phis, labels and terminators of a block before, between and behind the passes that fetch.
use Rattle.std.proofs.Common.{◌≡◌, ℕ, List, sym, ap, ◌∙◌}
use Rattle.std.specs.Prelude.{Option, Some, codes, slice_get, unwrap_or, ◌≢◌}
use Rattle.pass_frames_steps.specs.ir_model.declared.instr.Instr.{Instr}
use Rattle.pass_frames_steps.specs.ir_model.declared.module.Block.{Block}
use Rattle.pass_frames_steps.specs.pass_fetch.Instrs.{fetched_term}
use Rattle.pass_frames_steps.proofs.layers.Grown.{both_passed}
use Rattle.pass_frames_steps.specs.pass_cells.Cells.{fetched_function, fetches_of, named_function}
use Rattle.pass_frames_steps.specs.ir_model.declared.module.Function.{Function}
use Rattle.pass_frames_steps.specs.pass_cells.declared.plan.Plan.{Plan}
use Rattle.pass_frames_steps.specs.pass_fetch.Blocks.{with_fetches}
use Rattle.pass_frames_steps.proofs.code.Framed.{others_made}
use Rattle.pass_frames_steps.proofs.code.Passes.{fetches_made}
use Rattle.pass_frames_steps.proofs.phis.Framed.{behind, unmarked_there}
use Rattle.pass_frames_steps.specs.Code.{last_state, load_name, slot_table}
use Rattle.pass_frames_steps.specs.Jumps.{PhisInPlace}
use Rattle.pass_frames_steps.specs.Layers.{IsMadeBy, passed}
use Rattle.pass_frames_steps.specs.Passes.{block_at, fetching_at, no_block, unmarked_at}
use Rattle.pass_frames_steps.specs.Places.{Celled, Copied, Framing, Placed, Unmarked, addressing_layer, celled_layer, copied_layer, copying_layer, instrs_at, loading_layer, marked, unmarked_layer, writing_layer, edged, framed, named, placed_layer, plan, unmarked}
use Rattle.pass_frames_steps.specs.run_step.Step.{phis_of}

fetched_is : (p : Plan) (f : Function) (k : ℕ) (b : Block)
    → slice_get (with_fetches (named_function p f) (fetches_of p) (codes "$c.use.")).blocks k ≡ Some b
    → slice_get (fetched_function p f).blocks k ≡ Some b
unfolding fetched_function
fetched_is p f k b e = e

module _ (x : Framing) (k : ℕ) (n : k ≢ 0) (b : Block) (here : slice_get (edged x).blocks k ≡ Some b) where
  pub one : (d : Block) × (slice_get (with_fetches (named x) (fetches_of (plan x)) (codes "$c.use.")).blocks k
      ≡ Some d)
      × IsMadeBy (fetching_at (named x) (fetches_of (plan x)) k) b d
  one = fetches_made (named x) (fetches_of (plan x)) (codes "$c.use.") k b here

  pub two : (d : Block) × (slice_get (unmarked x).blocks k ≡ Some d) × (d.phis ≡ one.0.phis)
  two =
      let u = unmarked_there x k one.0 (fetched_is (plan x) (edged x) k one.0 one.1) in (u.0, u.1, u.2)

  pub three : (d : Block) × (slice_get (with_fetches (unmarked x) (slot_table x) (codes "$c.at.")).blocks k ≡ Some d)
      × IsMadeBy (fetching_at (unmarked x) (slot_table x) k) two.0 d
  three = fetches_made (unmarked x) (slot_table x) (codes "$c.at.") k two.0 two.1

  pub last : (c : Block) × (slice_get (framed x).blocks k ≡ Some c) × IsMadeBy (placed_layer x k) b c
  last = others_made x k n b here

  abbrev pub phis_placed : PhisInPlace x k
  phis_placed = record {
    before = b;
    loaded = one.0;
    between = two.0;
    behind = three.0;
    here = here;
    loaded_there = one.1;
    between_there = two.1;
    same = two.2;
    behind_there = three.1;
    source = ap phis_of here;
    target = ap phis_of last.1 ∙ behind x k last.0 three.0 last.1 three.1;
  }

-- ---- between the two passes that fetch: labels, and terminators

module _ (x : Framing) (k : ℕ) where
  loads_passed : (is : List Instr)
      → load_name (passed (placed_layer x k) (placed_layer x k).start is)
      ≡ passed (loading_layer x k) (loading_layer x k).start is
  loads_passed is =
      ap (λ (s : Placed). load_name s)
      (both_passed (unmarked_layer x k) (addressing_layer x k) (placed_layer x k).start.0
      (placed_layer x k).start.1 is)
      ∙ ap (λ (s : Unmarked). s.0.0.0)
      (both_passed (copied_layer x k) (unmarked_at (marked x)) (unmarked_layer x k).start.0
      (unmarked_layer x k).start.1 is)
      ∙ ap (λ (s : Copied). s.0.0)
      (both_passed (celled_layer x k) (copying_layer x k) (copied_layer x k).start.0 (copied_layer x k).start.1 is)
      ∙ ap (λ (s : Celled). s.0)
      (both_passed (loading_layer x k) (writing_layer x k) (celled_layer x k).start.0 (celled_layer x k).start.1 is)

  module _ (here : slice_get (edged x).blocks k ≡ Some (block_at (edged x) k)) where
    made : (d : Block) × (slice_get (with_fetches (named x) (fetches_of (plan x)) (codes "$c.use.")).blocks k ≡ Some d)
        × IsMadeBy (fetching_at (named x) (fetches_of (plan x)) k) (block_at (edged x) k) d
    made = fetches_made (named x) (fetches_of (plan x)) (codes "$c.use.") k (block_at (edged x) k) here

    pub between_label : (block_at (unmarked x) k).label ≡ (block_at (edged x) k).label
    between_label =
        let u = unmarked_there x k made.0 (fetched_is (plan x) (edged x) k made.0 made.1) in
        ap (λ (o : Option Block). (unwrap_or o no_block).label) u.1 ∙ u.3 ∙ made.2.label

    pub between_term : (block_at (unmarked x) k).term
        ≡ fetched_term (fetches_of (plan x)) (load_name (last_state x k)) (block_at (edged x) k).term
    between_term =
        let u = unmarked_there x k made.0 (fetched_is (plan x) (edged x) k made.0 made.1) in
        ap (λ (o : Option Block). (unwrap_or o no_block).term) u.1 ∙ u.4 ∙ made.2.term
        ∙ ap (λ (n : ℕ). fetched_term (fetches_of (plan x)) n (block_at (edged x) k).term)
        (sym (loads_passed (instrs_at x k)))
