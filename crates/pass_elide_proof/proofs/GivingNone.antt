-- A function whose calls give no frames is as it was.
use Rattle.std.proofs.Common.{◌≡◌, ◌+◌, ℕ, zero, suc, List, [], ◌∷◌, ◌++◌, length, refl, ap, ◌∙◌, subst, arith}
use Rattle.std.specs.Prelude.{codes, None, Some, Option, slice_get}
use Rattle.pass_elide.specs.Elided.{block_frames, blocks_frames, elided_all, elided_blocks, elided_by, elided_function, elided_instrs, frame_allocas, frames_by, function_frames, instr_frames, with_front}
use Rattle.pass_elide.specs.declared.given.GivenFrame.{GivenFrame}
use Rattle.pass_elide_proof.specs.Places.{Rooms, ahead, allocas_ahead, front_at, instrs_in, instrs_of, own_at, phi_count, put_by, put_up_to}
use Rattle.pass_proofs.specs.ir_model.declared.instr.Instr.{Instr}
use Rattle.pass_proofs.specs.ir_model.declared.module.Block.{Block}
use Rattle.pass_proofs.specs.ir_model.declared.module.Function.{Function}
use Rattle.pass_proofs.specs.pass_fetch.Blocks.{numbered_names}
use Rattle.pass_proofs.specs.run_step.Step.{phis_of}

-- ---- lists

pub both_empty : {A : Type 0} (xs ys : List A) → xs ++ ys ≡ [] → (xs ≡ []) × (ys ≡ [])
both_empty [] ys h = (refl, h)
both_empty (x ∷ xs) ys h = absurd (cc)

pub and_none : {A : Type 0} (xs : List A) → xs ++ [] ≡ xs
and_none [] = refl
and_none (x ∷ xs) = ap (λ ys. x ∷ ys) (and_none xs)

-- ---- instructions, from a position on

no_frame : (o : Option GivenFrame) (rest : List GivenFrame) → frames_by o ++ rest ≡ [] → (o ≡ None) × (rest ≡ [])
no_frame None rest h = (refl, h)
no_frame (Some r) rest h = absurd (cc)

no_puts : (room : ℕ → Instr → Option GivenFrame) (at : ℕ) (is : List Instr) (k : ℕ) → instr_frames room at is ≡ []
    → put_up_to room at is k ≡ 0
no_puts room at [] k h = refl
no_puts room at (i ∷ is) zero h = ap put_by (no_frame (room at i) (instr_frames room (at + 1) is) h).0
no_puts room at (i ∷ is) (suc k) h =
    let p = no_frame (room at i) (instr_frames room (at + 1) is) h in
    let first : put_by (room at i) ≡ 0 = ap put_by p.0 in
    let rest = no_puts room (at + 1) is k p.1 in
    omega (arith, first, rest)

same_instrs : (room : ℕ → Instr → Option GivenFrame) (at n : ℕ) (is : List Instr) → instr_frames room at is ≡ []
    → elided_instrs room at n is ≡ is
same_instrs room at n [] h = refl
same_instrs room at n (i ∷ is) h =
    let p = no_frame (room at i) (instr_frames room (at + 1) is) h in
    (λ j. elided_by n (p.0 j) i ++ elided_instrs room (at + 1) (length (frames_by (room at i)) + n) is)
    ∙ ap (λ (rest : List Instr). i ∷ rest)
    (same_instrs room (at + 1) (length (frames_by (room at i)) + n) is p.1)

-- ---- blocks, from a position on

same_blocks : (room : Rooms) (s n : ℕ) (bs : List Block) → blocks_frames room s bs ≡ []
    → elided_blocks room s n bs ≡ bs
same_blocks room s n [] h = refl
same_blocks room s n (b ∷ bs) h =
    let p = both_empty (block_frames room s b) (blocks_frames room (s + 1) bs) h in
    let here = same_instrs (room s) (length b.phis) n b.instrs p.0 in
    let rest = same_blocks room (s + 1) (length (block_frames room s b) + n) bs p.1 in
    λ j. record b { instrs = here j } ∷ rest j

no_front : (bs : List Block) → with_front [] bs ≡ bs
no_front [] = refl
no_front (b ∷ bs) = refl

block_none : (room : Rooms) (s : ℕ) (bs : List Block) (k p : ℕ) → p ≡ s + k → blocks_frames room s bs ≡ []
    → instr_frames (room p) (length (phis_of (slice_get bs k))) (instrs_in (slice_get bs k)) ≡ []
block_none room s [] k p e h = refl
block_none room s (b ∷ bs) zero p e h =
    let place : s ≡ p = omega (arith, e) in
    subst (λ (n : ℕ). instr_frames (room n) (length b.phis) b.instrs ≡ []) place
    (both_empty (block_frames room s b) (blocks_frames room (s + 1) bs) h).0
block_none room s (b ∷ bs) (suc k) p e h =
    block_none room (s + 1) bs k p (omega (arith, e))
    (both_empty (block_frames room s b) (blocks_frames room (s + 1) bs) h).1

-- ---- the function

module _ (room : Rooms) (f : Function) (none : function_frames room f ≡ []) where
  pub no_allocas : allocas_ahead room f ≡ []
  no_allocas = ap (frame_allocas (length f.names)) none

  no_ahead : (block : ℕ) → ahead room f block ≡ 0
  no_ahead zero = ap (λ (is : List Instr). length is) no_allocas
  no_ahead (suc block) = refl

  no_names : f.names ++ numbered_names (codes "$c.callee.") (length (function_frames room f)) ≡ f.names
  no_names =
      ap (λ (rs : List GivenFrame). f.names ++ numbered_names (codes "$c.callee.") (length rs)) none
      ∙ and_none f.names

  own_blocks : elided_all room (length f.names) f.blocks ≡ f.blocks
  own_blocks =
      ap (λ (front : List Instr). with_front front (elided_blocks room 0 (length f.names) f.blocks)) no_allocas
      ∙ (no_front (elided_blocks room 0 (length f.names) f.blocks)
      ∙ same_blocks room 0 (length f.names) f.blocks none)

  pub same_function : elided_function room f ≡ f
  same_function = λ j. record f { blocks = own_blocks j; names = no_names j }

  pub own_same : (block at : ℕ) → own_at room f block at ≡ at
  own_same block at =
      let front = no_ahead block in
      let puts = no_puts (room block) (phi_count f block) (instrs_of f block) at
      (block_none room 0 f.blocks block block (omega arith) none) in
      omega (arith, front, puts)

  pub front_same : (block at : ℕ) → front_at room f block at ≡ at
  front_same block zero = refl
  front_same block (suc at) = let own = own_same block at in omega (arith, own)
