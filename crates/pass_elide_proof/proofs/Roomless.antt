-- A function whose calls give no frames stays as it is.
use Rattle.std.proofs.Common.{◌≡◌, ◌+◌, ℕ, zero, suc, List, [], ◌∷◌, ◌++◌, length, Option, refl, ap, ◌∙◌, arith}
use Rattle.std.specs.Prelude.{None, option_map, slice_get}
use Rattle.pass_elide.specs.Elided.{block_frames, blocks_frames, elided_all, elided_blocks, elided_by, elided_function, elided_instrs, frame_allocas, frames_by, function_frames, instr_frames, with_front}
use Rattle.pass_elide.specs.declared.given.GivenFrame.{GivenFrame}
use Rattle.pass_elide_proof.specs.Places.{Rooms, ahead, front_at, instrs_of, own_at, phi_count, put_by, put_up_to}
use Rattle.pass_proofs.specs.ir_model.declared.instr.Instr.{Instr}
use Rattle.pass_proofs.specs.ir_model.declared.module.Block.{Block}
use Rattle.pass_proofs.specs.ir_model.declared.module.Function.{Function}
use Rattle.pass_proofs.specs.run_framed.Framed.{alloca_from, alloca_of}

module _ (room : ℕ → Instr → Option GivenFrame) (none : (at : ℕ) (i : Instr) → room at i ≡ None) where
  instrs_same : (at n : ℕ) (is : List Instr) → elided_instrs room at n is ≡ is
  instrs_same at n [] = refl
  instrs_same at n (i ∷ is) =
      ap (λ (o : Option GivenFrame). elided_by n o i ++ elided_instrs room (at + 1) (length (frames_by o) + n) is)
      (none at i)
      ∙ ap (λ (rest : List Instr). i ∷ rest) (instrs_same (at + 1) (0 + n) is)

  frames_none : (at : ℕ) (is : List Instr) → instr_frames room at is ≡ []
  frames_none at [] = refl
  frames_none at (i ∷ is) = λ j. frames_by (none at i j) ++ frames_none (at + 1) is j

  put_none : (at : ℕ) (is : List Instr) (k : ℕ) → put_up_to room at is k ≡ 0
  put_none at [] k = refl
  put_none at (i ∷ is) zero = ap put_by (none at i)
  put_none at (i ∷ is) (suc k) = λ j. put_by (none at i j) + put_none (at + 1) is k j

module _ (room : Rooms) (f : Function) (none : (block at : ℕ) (i : Instr) → room block at i ≡ None) where
  blocks_none : (block : ℕ) (bs : List Block) → blocks_frames room block bs ≡ []
  blocks_none block [] = refl
  blocks_none block (b ∷ bs) =
      λ j. frames_none (room block) (none block) (length b.phis) b.instrs j ++ blocks_none (block + 1) bs j

  blocks_same : (block n : ℕ) (bs : List Block) → elided_blocks room block n bs ≡ bs
  blocks_same block n [] = refl
  blocks_same block n (b ∷ bs) =
      λ j. record {
        label = b.label;
        phis = b.phis;
        instrs = instrs_same (room block) (none block) (length b.phis) n b.instrs j;
        term = b.term;
      } ∷ blocks_same (block + 1) (length (block_frames room block b) + n) bs j

  front_none : (bs : List Block) → with_front [] bs ≡ bs
  front_none [] = refl
  front_none (b ∷ bs) = refl

  pub no_frames : function_frames room f ≡ []
  no_frames = blocks_none 0 f.blocks

  all_same : elided_all room (length f.names) f.blocks ≡ f.blocks
  all_same =
      (λ j. with_front (frame_allocas (length f.names) (blocks_none 0 f.blocks j))
      (blocks_same 0 (length f.names) f.blocks j))
      ∙ front_none f.blocks

  pub same_alloca : (at : ℕ) → alloca_from (elided_function room f) at ≡ alloca_from f at
  same_alloca at =
      ap (λ (bs : List Block). option_map (λ (k : ℕ). record { block = 0; at = k }) (alloca_of (slice_get bs 0) at))
      all_same

  none_ahead : (block : ℕ) → ahead room f block ≡ 0
  none_ahead zero =
      ap (λ (rs : List GivenFrame). length (frame_allocas (length f.names) rs)) (blocks_none 0 f.blocks)
  none_ahead (suc block) = refl

  pub own_same : (block at : ℕ) → own_at room f block at ≡ at
  own_same block at =
      let first = none_ahead block in
      let put = put_none (room block) (none block) (phi_count f block) (instrs_of f block) at in
      omega (arith, first, put)

  pub front_same : (block at : ℕ) → front_at room f block at ≡ at
  front_same block zero = refl
  front_same block (suc at) = let here = own_same block at in omega (arith, here)
