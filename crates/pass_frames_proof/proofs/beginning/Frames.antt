-- One instance more: where its frame doesn't lie, rights are as they were.
use Rattle.std.proofs.Common.{◌≡◌, ◌≢◌, ◌+◌, ◌&&◌, ◌∷◌, ◌++◌, ◌∙◌, [], List, ap, false, length, not, refl, suc, zero, ℕ}
use Rattle.std.proofs.lemmas.Bool.{and_left, ne_eqb}
use Rattle.std.specs.Prelude.{slice_get}
use Rattle.pass_frames_steps.proofs.run_access_worked.Begun.{judge_more}
use Rattle.pass_frames_steps.specs.run_framed.Framed.{FramedGiven, covers, frame_rights, is_open, is_open_byte, judge_of, meets_in}
use Rattle.pass_frames_steps.specs.run_laws.access.Lines.{Holds}
use Rattle.pass_frames_steps.specs.run_memory.declared.block.Byte.{Byte}
use Rattle.pass_frames_steps.specs.run_memory.declared.block.MemoryBlock.{MemoryBlock}
use Rattle.pass_frames_steps.specs.run_source.declared.state.Instance.{Instance}

module _ (g : FramedGiven) (ys : List Instance) (y : Instance) (B : ℕ) (elsewhere : y.block ≢ B) where
  abbrev more : List Instance
  more = ys ++ y ∷ []

  uncovered : (k : ℕ) → covers g B k y ≡ false
  uncovered k = and_left _ _ (and_left _ _ (ne_eqb y.block B elsewhere))

  judge_same : (k : ℕ) → judge_of g more B k ≡ judge_of g ys B k
  judge_same k = judge_more g ys y B k (uncovered k)

  open_same : (k len : ℕ) → is_open g more B k len ≡ is_open g ys B k len
  open_same k zero = refl
  open_same k (suc len) = λ j. is_open_byte g k (judge_same k j) && open_same (k + 1) len j

  -- a range that stays
  pub held_on : (m n : List MemoryBlock) → slice_get n B ≡ slice_get m B → (o most : ℕ) (bytes : List Byte)
      → Holds (frame_rights g ys) m B o most bytes → Holds (frame_rights g more) n B o most bytes
  held_on m n same o most bytes h = record {
    block = h.block;
    there = same ∙ h.there;
    live = h.live;
    writable = h.writable;
    whole = h.whole;
    within = h.within;
    holds = h.holds;
    unclosed = ap not (open_same o (length bytes)) ∙ h.unclosed;
    aligned = λ a is le. ap (meets_in g h.block o a) (judge_same o) ∙ h.aligned a is le;
  }
