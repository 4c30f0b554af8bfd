-- A function whose calls give no frame is as it was.
use Rattle.std.proofs.Common.{◌≡◌, ◌+◌, ◌∙◌, ◌++◌, ◌∷◌, [], ap, arith, List, Option, refl, suc, zero, ℕ, length, append-nil}
use Rattle.std.specs.Prelude.{codes, None}
use Rattle.pass_elide.specs.Elided.{block_frames, blocks_frames, elided_blocks, elided_by, elided_function, elided_instrs, frame_allocas, frames_by, function_frames, instr_frames, with_front}
use Rattle.pass_elide.specs.declared.given.GivenFrame.{GivenFrame}
use Rattle.pass_elide_proof.proofs.GivingMarkers.{nothing_put}
use Rattle.pass_elide_proof.specs.Places.{Rooms, allocas_ahead, front_at, instrs_of, own_at, phi_count, put_by}
use Rattle.pass_proofs.specs.ir_model.declared.instr.Instr.{Instr}
use Rattle.pass_proofs.specs.ir_model.declared.module.Block.{Block}
use Rattle.pass_proofs.specs.ir_model.declared.module.Function.{Function}
use Rattle.pass_proofs.specs.pass_fetch.Blocks.{numbered_names}

-- ---- a block

module _ (room : ℕ → Instr → Option GivenFrame) (none : (at : ℕ) (i : Instr) → room at i ≡ None) where
  instrs_same : (at n : ℕ) (is : List Instr) → elided_instrs room at n is ≡ is
  instrs_same at n [] = refl
  instrs_same at n (i ∷ is) =
      λ j. elided_by n (none at i j) i ++ instrs_same (at + 1) (length (frames_by (room at i)) + n) is j

  frames_none : (at : ℕ) (is : List Instr) → instr_frames room at is ≡ []
  frames_none at [] = refl
  frames_none at (i ∷ is) = λ j. frames_by (none at i j) ++ frames_none (at + 1) is j

-- ---- a function

without_front : (bs : List Block) → with_front [] bs ≡ bs
without_front [] = refl
without_front (b ∷ bs) = refl

module _ (room : Rooms) (none : (block at : ℕ) (i : Instr) → room block at i ≡ None) where
  blocks_same : (block n : ℕ) (bs : List Block) → elided_blocks room block n bs ≡ bs
  blocks_same block n [] = refl
  blocks_same block n (b ∷ bs) =
      λ j. record {
        label = b.label;
        phis = b.phis;
        instrs = instrs_same (room block) (none block) (length b.phis) n b.instrs j;
        term = b.term;
      } ∷ blocks_same (block + 1) (length (block_frames room block b) + n) bs j

  all_none : (block : ℕ) (bs : List Block) → blocks_frames room block bs ≡ []
  all_none block [] = refl
  all_none block (b ∷ bs) =
      λ j. frames_none (room block) (none block) (length b.phis) b.instrs j ++ all_none (block + 1) bs j

  module _ (f : Function) where
    pub none_ahead : allocas_ahead room f ≡ []
    none_ahead = ap (frame_allocas (length f.names)) (all_none 0 f.blocks)

    blocks_stay : with_front (frame_allocas (length f.names) (function_frames room f))
        (elided_blocks room 0 (length f.names) f.blocks) ≡ f.blocks
    blocks_stay =
        (λ j. with_front (none_ahead j) (blocks_same 0 (length f.names) f.blocks j)) ∙ without_front f.blocks

    names_stay : f.names ++ numbered_names (codes "$c.callee.") (length (function_frames room f)) ≡ f.names
    names_stay =
        ap (λ (rs : List GivenFrame). f.names ++ numbered_names (codes "$c.callee.") (length rs)) (all_none 0 f.blocks)
        ∙ append-nil f.names

    pub function_same : elided_function room f ≡ f
    function_same =
        λ j. record {
          name = f.name;
          result = f.result;
          params = f.params;
          coroutine = f.coroutine;
          blocks = blocks_stay j;
          names = names_stay j;
        }

    unput : (block at : ℕ) (i : Instr) → put_by (room block at i) ≡ 0
    unput block at i = ap put_by (none block at i)

    pub own_same : (block at : ℕ) → own_at room f block at ≡ at
    own_same zero at =
        let many : length (allocas_ahead room f) ≡ 0 = ap length none_ahead in
        let put = nothing_put (room 0) (unput 0) (phi_count f 0) (instrs_of f 0) at in
        omega (arith, many, put)
    own_same (suc block) at =
        let put = nothing_put (room (suc block)) (unput (suc block)) (phi_count f (suc block))
        (instrs_of f (suc block)) at in
        omega (arith, put)

    pub front_same : (block at : ℕ) → front_at room f block at ≡ at
    front_same block zero = refl
    front_same block (suc at) = let own = own_same block at in omega (arith, own)
