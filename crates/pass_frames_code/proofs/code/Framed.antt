-- The framed form of a coroutine is made, block by block, of the coroutine with blocks on edges.
use Rattle.std.proofs.Common.{◌≡◌, ℕ, zero, suc, List, [], ◌∷◌, ◌++◌, refl, sym, ap, ◌∙◌, append_assoc, subst}
use Rattle.std.specs.Prelude.{Some, codes, filter, slice_get, ◌≢◌}
use Rattle.pass_proofs.specs.frame_layout.declared.layout.Layout.{Layout}
use Rattle.pass_proofs.specs.ir_model.declared.module.Block.{Block}
use Rattle.pass_proofs.specs.ir_model.declared.module.Function.{Function}
use Rattle.pass_proofs.specs.ir_model.declared.module.Module.{Module}
use Rattle.pass_proofs.specs.pass_addresses.Placing.{turned_block}
use Rattle.pass_proofs.specs.pass_cells.Cells.{fetched_function, fetches_of}
use Rattle.pass_proofs.specs.pass_cells.Written.{entry_front as cells_front}
use Rattle.pass_proofs.specs.pass_copies.BeginCopies.{entry_front as copies_front, first_fetched}
use Rattle.pass_proofs.specs.pass_frames.Framed.{IsFramedCoroutine, begin_of, celled, copied, placed}
use Rattle.pass_proofs.specs.pass_front.Front.{allocas_first, is_alloca, is_no_alloca, with_allocas_first, with_front_allocas}
use Rattle.pass_frames_code.proofs.code.Passes.{addressed, addressed_made, block_is, cells_made, copies_made, fetches_made, only_made, rows, unmarked_made}
use Rattle.pass_frames_code.proofs.layers.Grown.{both_made}
use Rattle.pass_frames_code.specs.Layers.{IsMadeBy, Layer, both, grown, only, passed, woven}
use Rattle.pass_frames_code.specs.Passes.{IsBlockMade, addressed_at, allocas_led, copying_at, fetching_at, unmarked_at, writing_at}
use Rattle.pass_frames_code.specs.Places.{Framing, celled_layer, copied_layer, copies, before_labels, edged, entry_layer, fetched, framed, framing_of, marked, named, offsets, placed_layer, plan, unmarked, unmarked_layer, with_copies, written}

module _ (x : Framing) where
  module _ (k : ℕ) where
    cells_are : IsBlockMade (celled_layer x k) (edged x) (written x) k
    unfolding fetched_function
    cells_are =
        rows (fetching_at (named x) (fetches_of (plan x)) k)
        (writing_at x.code (plan x) (cells_front (plan x) (edged x).params) (fetched x) k)
        (edged x) (fetched x) (written x) k
        (fetches_made (named x) (fetches_of (plan x)) (codes "$c.use.") k) (cells_made x.code (plan x) (fetched x) k)

    copies_are : IsBlockMade (copied_layer x k) (edged x) (with_copies x) k
    copies_are =
        rows (celled_layer x k)
        (copying_at (copies x) (before_labels x) (copies_front (copies x).slots)
        (first_fetched (written x) (copies x)) (written x) k)
        (edged x) (written x) (with_copies x) k cells_are (copies_made (written x) (before_labels x) (copies x) k)

    unmarked_are : IsBlockMade (unmarked_layer x k) (edged x) (unmarked x) k
    unmarked_are =
        rows (copied_layer x k) (unmarked_at (marked x)) (edged x) (with_copies x) (unmarked x) k copies_are
        (unmarked_made (with_copies x) (marked x) k)

    all_are : IsBlockMade (placed_layer x k) (edged x) (addressed (unmarked x) (begin_of x.function) (offsets x)) k
    all_are =
        rows (unmarked_layer x k) (addressed_at (unmarked x) (begin_of x.function) (offsets x) k)
        (edged x) (unmarked x) (addressed (unmarked x) (begin_of x.function) (offsets x)) k unmarked_are
        (addressed_made (unmarked x) (begin_of x.function) (offsets x) k)

  -- the function that the last pass gets
  pub framed_is : framed x ≡ with_front_allocas (addressed (unmarked x) (begin_of x.function) (offsets x))
  unfolding celled copied placed
  framed_is = refl

  -- ---- the allocas in front

  led_made : {S : Type 0} (L : Layer S) (b c : Block) → IsMadeBy L b c
      → IsMadeBy (allocas_led L b.instrs) b (allocas_first c)
  led_made L b c m =
      let two = both_made L (only is_no_alloca) b c (turned_block (filter is_no_alloca) c) m
      (only_made is_no_alloca c) in
      record {
        label = m.label;
        instrs =
            (λ k. filter is_alloca (m.instrs k) ++ two.instrs k)
            ∙ sym (append_assoc (filter is_alloca (woven L b.instrs)) (both L (only is_no_alloca)).front
            (grown (both L (only is_no_alloca)) (both L (only is_no_alloca)).start b.instrs
            ++ (both L (only is_no_alloca)).back
            (passed (both L (only is_no_alloca)) (both L (only is_no_alloca)).start b.instrs)));
        term = two.term;
      }

  first_there : (bs : List Block) (c : Block) → slice_get bs 0 ≡ Some c
      → slice_get (with_allocas_first bs) 0 ≡ Some (allocas_first c)
  first_there [] c e = absurd (cc)
  first_there (d ∷ bs) c e = let same : d ≡ c = cc in ap (λ (y : Block). Some (allocas_first y)) same

  others_there : (bs : List Block) (k : ℕ) → k ≢ 0 → slice_get (with_allocas_first bs) k ≡ slice_get bs k
  others_there [] k n = refl
  others_there (d ∷ bs) zero n = absurd (n refl)
  others_there (d ∷ bs) (suc k) n = refl

  pub entry_made : IsBlockMade (entry_layer x) (edged x) (framed x) 0
  entry_made b e =
      let made = all_are 0 b e in
      let there : slice_get (with_allocas_first (addressed (unmarked x) (begin_of x.function) (offsets x)).blocks) 0
      ≡ Some (allocas_first made.0) =
      first_there (addressed (unmarked x) (begin_of x.function) (offsets x)).blocks made.0 made.1 in (
        allocas_first made.0,
        ap (λ (f : Function). slice_get f.blocks 0) framed_is ∙ there,
        subst (λ (y : Block). IsMadeBy (allocas_led (placed_layer x 0) y.instrs) b (allocas_first made.0))
            (sym (block_is (edged x) 0 b e)) (led_made (placed_layer x 0) b made.0 made.2),
      )

  pub others_made : (k : ℕ) → k ≢ 0 → IsBlockMade (placed_layer x k) (edged x) (framed x) k
  others_made k n b e =
      let made = all_are k b e in (
        made.0,
        ap (λ (f : Function). slice_get f.blocks k) framed_is
            ∙ others_there (addressed (unmarked x) (begin_of x.function) (offsets x)).blocks k n ∙ made.1,
        made.2,
      )

-- the framed form by its contents is the one of the framing
pub framing_is : (m : Module) (l : Layout) (f g : Function) (c : IsFramedCoroutine m l f g)
    → g ≡ framed (framing_of m l f g c)
framing_is m l f g c = c.is
