-- Lists of instructions without those that a test finds, when calls give frames.
use Rattle.std.proofs.Common.{◌≡◌, ◌+◌, ◌++◌, ◌∙◌, ℕ, zero, suc, Bool, false, List, [], ◌∷◌, length, refl, sym, ap}
use Rattle.std.specs.Prelude.{None, Option, Some, slice_get}
use Rattle.pass_elide.specs.Elided.{block_frames, elided_blocks, elided_by, elided_function, elided_instrs, frame_address, frame_alloca, frame_allocas, frames_by, function_frames, given_call, with_front}
use Rattle.pass_elide.specs.declared.given.GivenFrame.{GivenFrame}
use Rattle.pass_elide_proof.specs.Places.{Rooms, instrs_in, instrs_of}
use Rattle.pass_elide_proof.specs.pass_proofs.ir_model.declared.instr.Instr.{Instr}
use Rattle.pass_elide_proof.specs.pass_proofs.ir_model.declared.module.Block.{Block}
use Rattle.pass_elide_proof.specs.pass_proofs.ir_model.declared.module.Function.{Function}

-- the test finds none of them
unfoldable pub Without : (Instr → Bool) → List Instr → Type 0
Without test is = (k : ℕ) (i : Instr) → slice_get is k ≡ Some i → test i ≡ false

-- nor in any of the blocks
unfoldable pub WithoutIn : (Instr → Bool) → List Block → Type 0
WithoutIn test bs = (k : ℕ) → Without test (instrs_in (slice_get bs k))

module _ (test : Instr → Bool) where
  pub none_empty : Without test []
  unfolding Without
  none_empty k i at = absurd (cc)

  pub none_one : (i : Instr) → test i ≡ false → Without test (i ∷ [])
  unfolding Without
  none_one i none zero j at = let same : i ≡ j = cc in ap test (sym same) ∙ none
  none_one i none (suc k) j at = absurd (cc)

  pub none_both : (xs ys : List Instr) → Without test xs → Without test ys → Without test (xs ++ ys)
  unfolding Without
  none_both [] ys h k n i at = k n i at
  none_both (x ∷ xs) ys h k zero i at = h zero i at
  none_both (x ∷ xs) ys h k (suc n) i at = none_both xs ys (λ m z there. h (suc m) z there) k n i at

  none_more : (x : Instr) (xs : List Instr) → Without test (x ∷ xs) → Without test xs
  unfolding Without
  none_more x xs h m z there = h (suc m) z there

  none_first : (x : Instr) (xs : List Instr) → Without test (x ∷ xs) → test x ≡ false
  unfolding Without
  none_first x xs h = h 0 x refl

  -- an instruction put in front is none either, and a call that gives a frame is one only if it was
  module _ (given : (n : ℕ) (i : Instr) → test i ≡ false → test (given_call n i) ≡ false)
      (address : (n base distance : ℕ) → Without test (frame_address n (GivenFrame.Field base distance))) where
    by_none : (n : ℕ) (o : Option GivenFrame) (i : Instr) → test i ≡ false → Without test (elided_by n o i)
    by_none n None i h = none_one i h
    by_none n (Some (GivenFrame.Alloca size align)) i h = none_one (given_call n i) (given n i h)
    by_none n (Some (GivenFrame.Field base distance)) i h =
        none_both (frame_address n (GivenFrame.Field base distance)) (given_call n i ∷ []) (address n base distance)
        (none_one (given_call n i) (given n i h))

    instrs_none : (room : ℕ → Instr → Option GivenFrame) (at n : ℕ) (is : List Instr) → Without test is
        → Without test (elided_instrs room at n is)
    instrs_none room at n [] h = none_empty
    instrs_none room at n (i ∷ is) h =
        none_both (elided_by n (room at i) i) (elided_instrs room (at + 1) (length (frames_by (room at i)) + n) is)
        (by_none n (room at i) i (none_first i is h))
        (instrs_none room (at + 1) (length (frames_by (room at i)) + n) is (none_more i is h))

    pub blocks_none : (room : Rooms) (s n : ℕ) (bs : List Block) → WithoutIn test bs
        → WithoutIn test (elided_blocks room s n bs)
    unfolding WithoutIn
    blocks_none room s n [] h k = none_empty
    blocks_none room s n (b ∷ bs) h zero = instrs_none (room s) (length b.phis) n b.instrs (h zero)
    blocks_none room s n (b ∷ bs) h (suc k) =
        blocks_none room (s + 1) (length (block_frames room s b) + n) bs (λ m. h (suc m)) k

    -- behind the entry block nothing is put in front
    pub behind_none : (room : Rooms) (f : Function) (k : ℕ)
        → ((block : ℕ) → Without test (instrs_of f (suc block)))
        → Without test (instrs_of (elided_function room f) (suc k))
    unfolding WithoutIn
    behind_none room f k h = on f.blocks h
      where
        on : (bs : List Block) → ((block : ℕ) → Without test (instrs_in (slice_get bs (suc block))))
            → Without test (instrs_in (slice_get (with_front (frame_allocas (length f.names) (function_frames room f))
            (elided_blocks room 0 (length f.names) bs)) (suc k)))
        on [] h = none_empty
        on (b ∷ bs) h = blocks_none room 1 (length (block_frames room 0 b) + length f.names) bs h k

  front_none : (front : List Instr) (bs : List Block) → Without test front → WithoutIn test bs
      → WithoutIn test (with_front front bs)
  unfolding WithoutIn
  front_none front [] none h k = none_empty
  front_none front (b ∷ bs) none h zero = none_both front b.instrs none (h zero)
  front_none front (b ∷ bs) none h (suc k) = h (suc k)

  module _ (alloca : (n : ℕ) (r : GivenFrame) → Without test (frame_alloca n r)) where
    allocas_none : (n : ℕ) (rs : List GivenFrame) → Without test (frame_allocas n rs)
    allocas_none n [] = none_empty
    allocas_none n (r ∷ rs) =
        none_both (frame_alloca n r) (frame_allocas (n + 1) rs) (alloca n r) (allocas_none (n + 1) rs)

    pub function_none : (given : (n : ℕ) (i : Instr) → test i ≡ false → test (given_call n i) ≡ false)
        (address : (n base distance : ℕ) → Without test (frame_address n (GivenFrame.Field base distance)))
        (room : Rooms) (f : Function) → ((block : ℕ) → Without test (instrs_of f block)) → (block : ℕ)
        → Without test (instrs_of (elided_function room f) block)
    unfolding WithoutIn
    function_none given address room f h =
        front_none (frame_allocas (length f.names) (function_frames room f))
        (elided_blocks room 0 (length f.names) f.blocks) (allocas_none (length f.names) (function_frames room f))
        (blocks_none given address room 0 (length f.names) f.blocks h)
