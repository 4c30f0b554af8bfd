-- No pass but those that fetch operands changes a phi.
use Rattle.std.proofs.Common.{◌≡◌, ℕ, zero, suc, List, [], ◌∷◌, length, refl, sym, ap, ◌∙◌}
use Rattle.std.specs.Prelude.{Some, codes, filter, map, slice_get, take}
use Rattle.pass_proofs.specs.ir_model.declared.module.Block.{Block}
use Rattle.pass_proofs.specs.ir_model.declared.module.Function.{Function}
use Rattle.pass_proofs.specs.pass_addresses.Placing.{lies_outside, stays, turned_block, without_markers, without_promise_of}
use Rattle.pass_proofs.specs.pass_cells.Written.{after_blocks as after_written, entry_front as cells_front, written_block}
use Rattle.pass_proofs.specs.pass_copies.BeginCopies.{after_blocks as after_copied, copied_block, entry_front as copies_front, first_fetched}
use Rattle.pass_proofs.specs.pass_fetch.Blocks.{with_fetches}
use Rattle.pass_proofs.specs.pass_frames.Framed.{begin_of}
use Rattle.pass_proofs.specs.pass_front.Front.{with_allocas_first}
use Rattle.pass_frames_code.proofs.code.Framed.{framed_is}
use Rattle.pass_frames_code.proofs.code.Passes.{addressed, copied_there, entry_there, turned_there}
use Rattle.pass_frames_code.specs.Code.{slot_table}
use Rattle.pass_frames_code.specs.Passes.{at_entry}
use Rattle.pass_frames_code.specs.Places.{Framing, before_labels, copies, fetched, framed, marked, offsets, plan, unmarked, with_copies, written}
use Rattle.pass_proofs.specs.run_step.Step.{phis_of}

module _ (x : Framing) where
  -- the passes between the two that fetch
  pub unmarked_there : (k : ℕ) (e : Block) → slice_get (fetched x).blocks k ≡ Some e
      → (d : Block) × (slice_get (unmarked x).blocks k ≡ Some d) × (d.phis ≡ e.phis) × (d.label ≡ e.label)
      × (d.term ≡ e.term)
  unmarked_there k e there =
      let one : Block =
      written_block x.code (plan x) (at_entry k (cells_front (plan x) (fetched x).params))
      (after_written x.code (plan x) (length (fetched x).names) (take k (fetched x).blocks)) e in
      let two : Block =
      copied_block (copies x) (before_labels x) (at_entry k (copies_front (copies x).slots))
      (after_copied (copies x) (before_labels x) (first_fetched (written x) (copies x)) (take k (written x).blocks))
      one in
      let three : Block = turned_block (filter (stays (marked x))) two in
      let a : slice_get (written x).blocks k ≡ Some one =
      entry_there x.code (plan x) (cells_front (plan x) (fetched x).params) (length (fetched x).names) (fetched
      x).blocks
      k e there in
      let b : slice_get (with_copies x).blocks k ≡ Some two =
      copied_there (copies x) (before_labels x) (copies_front (copies x).slots) (first_fetched (written x) (copies x))
      (written x).blocks k one a in
      let c : slice_get (without_markers (marked x) (with_copies x)).blocks k ≡ Some three =
      turned_there (filter (stays (marked x))) (with_copies x).blocks k two b in
      let f : slice_get (unmarked x).blocks k ≡ Some (turned_block (map without_promise_of) three) =
      turned_there (map without_promise_of) (without_markers (marked x) (with_copies x)).blocks k three c in
      (turned_block (map without_promise_of) three, f, refl, refl, refl)

  pub between : (k : ℕ) (d e : Block) → slice_get (unmarked x).blocks k ≡ Some d
      → slice_get (fetched x).blocks k ≡ Some e → d.phis ≡ e.phis
  between k d e here there = let u = unmarked_there k e there in ap phis_of (sym here ∙ u.1) ∙ u.2

  first_phis : (bs : List Block) (k : ℕ) → phis_of (slice_get (with_allocas_first bs) k) ≡ phis_of (slice_get bs k)
  first_phis [] k = refl
  first_phis (d ∷ bs) zero = refl
  first_phis (d ∷ bs) (suc k) = refl

  -- and those behind both
  pub behind : (k : ℕ) (d e : Block) → slice_get (framed x).blocks k ≡ Some d
      → slice_get (with_fetches (unmarked x) (slot_table x) (codes "$c.at.")).blocks k ≡ Some e → d.phis ≡ e.phis
  behind k d e here there =
      let f : Function = addressed (unmarked x) (begin_of x.function) (offsets x) in
      let a : slice_get f.blocks k ≡ Some (turned_block (filter (lies_outside (offsets x))) e) =
      turned_there (filter (lies_outside (offsets x)))
      (with_fetches (unmarked x) (slot_table x) (codes "$c.at.")).blocks k e there in
      ap phis_of (sym here) ∙ ap (λ (g : Function). phis_of (slice_get g.blocks k)) (framed_is x)
      ∙ first_phis f.blocks k ∙ ap phis_of a
