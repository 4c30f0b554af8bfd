-- One instruction, or one block, further.
use Rattle.std.proofs.Common.{◌≡◌, ℕ, suc, ◌+◌, ◌<◌, List, [], ◌∷◌, ◌++◌, append_assoc, length, length-append, drop}
use Rattle.std.proofs.Common.{get_or, sym, ap, ◌∙◌, arith, Option}
use Rattle.std.proofs.Math.Seq.{drop-cons}
use Rattle.ir_model.specs.declared.instr.Instr.{Instr}
use Rattle.ir_model.specs.declared.module.Block.{Block}
use Rattle.pass_elide.specs.Elided.{block_frames, blocks_frames, elided_block, elided_blocks, elided_by}
use Rattle.pass_elide.specs.Elided.{elided_instrs, instr_frames, frames_by}
use Rattle.pass_elide.specs.declared.given.GivenFrame.{GivenFrame}

drop-next : {A : Type 0} (xs : List A) (i : ℕ) (x : A) → i < length xs → x ≡ get_or xs i x → drop i xs ≡ x ∷ drop (i + 1) xs
drop-next xs i x lt e =
    let one : suc i ≡ i + 1 = omega arith in
    drop-cons xs i x lt ∙ ap (λ y. y ∷ drop (suc i) xs) (sym e) ∙ ap (λ k. x ∷ drop k xs) one

-- the next new name behind more frames
name-next : (base : ℕ) (frames more new : List GivenFrame) → new ≡ frames ++ more → length more + (length frames + base) ≡ length new + base
name-next base frames more new e =
    let long : length new ≡ length frames + length more = ap (λ (xs : List GivenFrame). length xs) e ∙ length-append frames more in
    omega (arith, long)

-- ---- instructions

pub instr-next : (frame : ℕ → Instr → Option GivenFrame) (is : List Instr) (k : ℕ) (x : Instr) (at next base : ℕ) (all new whole : List Instr)
    (frames more : List GivenFrame) → k < length is → x ≡ get_or is k x
    → all ++ elided_instrs frame at (length frames + base) (drop k is) ≡ whole
    → new ≡ all ++ elided_by (length frames + base) (frame at x) x → more ≡ frames ++ frames_by (frame at x) → next ≡ at + 1
    → new ++ elided_instrs frame next (length more + base) (drop (k + 1) is) ≡ whole
instr-next frame is k x at next base all new whole frames more lt e before made grown after =
    let n : ℕ = length frames + base in
    let rest : List Instr = drop (k + 1) is in
    ap (λ (xs : List Instr). xs ++ elided_instrs frame next (length more + base) rest) made
    ∙ append_assoc all (elided_by n (frame at x) x) (elided_instrs frame next (length more + base) rest)
    ∙ ap (λ (m : ℕ). all ++ (elided_by n (frame at x) x ++ elided_instrs frame next m rest)) (sym (name-next base frames (frames_by (frame at x)) more grown))
    ∙ ap (λ (j : ℕ). all ++ (elided_by n (frame at x) x ++ elided_instrs frame j (length (frames_by (frame at x)) + n) rest)) after
    ∙ ap (λ (xs : List Instr). all ++ elided_instrs frame at n xs) (sym (drop-next is k x lt e))
    ∙ before

pub frames-next : (frame : ℕ → Instr → Option GivenFrame) (is : List Instr) (k : ℕ) (x : Instr) (at next : ℕ) (frames more whole : List GivenFrame)
    → k < length is → x ≡ get_or is k x → frames ++ instr_frames frame at (drop k is) ≡ whole
    → more ≡ frames ++ frames_by (frame at x) → next ≡ at + 1 → more ++ instr_frames frame next (drop (k + 1) is) ≡ whole
frames-next frame is k x at next frames more whole lt e before grown after =
    let rest : List Instr = drop (k + 1) is in
    ap (λ (rs : List GivenFrame). rs ++ instr_frames frame next rest) grown
    ∙ append_assoc frames (frames_by (frame at x)) (instr_frames frame next rest)
    ∙ ap (λ (j : ℕ). frames ++ (frames_by (frame at x) ++ instr_frames frame j rest)) after
    ∙ ap (λ (xs : List Instr). frames ++ instr_frames frame at xs) (sym (drop-next is k x lt e))
    ∙ before

-- ---- blocks

pub block-next : (frame : ℕ → ℕ → Instr → Option GivenFrame) (bs : List Block) (k : ℕ) (x : Block) (at next base : ℕ) (all new whole : List Block)
    (frames more : List GivenFrame) → k < length bs → x ≡ get_or bs k x
    → all ++ elided_blocks frame at (length frames + base) (drop k bs) ≡ whole
    → new ≡ all ++ elided_block frame at (length frames + base) x ∷ [] → more ≡ frames ++ block_frames frame at x → next ≡ at + 1
    → new ++ elided_blocks frame next (length more + base) (drop (k + 1) bs) ≡ whole
block-next frame bs k x at next base all new whole frames more lt e before made grown after =
    let n : ℕ = length frames + base in
    let rest : List Block = drop (k + 1) bs in
    ap (λ (xs : List Block). xs ++ elided_blocks frame next (length more + base) rest) made
    ∙ append_assoc all (elided_block frame at n x ∷ []) (elided_blocks frame next (length more + base) rest)
    ∙ ap (λ (m : ℕ). all ++ (elided_block frame at n x ∷ elided_blocks frame next m rest)) (sym (name-next base frames (block_frames frame at x) more grown))
    ∙ ap (λ (j : ℕ). all ++ (elided_block frame at n x ∷ elided_blocks frame j (length (block_frames frame at x) + n) rest)) after
    ∙ ap (λ (xs : List Block). all ++ elided_blocks frame at n xs) (sym (drop-next bs k x lt e))
    ∙ before

pub blocks-frames-next : (frame : ℕ → ℕ → Instr → Option GivenFrame) (bs : List Block) (k : ℕ) (x : Block) (at next : ℕ) (frames more whole : List GivenFrame)
    → k < length bs → x ≡ get_or bs k x → frames ++ blocks_frames frame at (drop k bs) ≡ whole
    → more ≡ frames ++ block_frames frame at x → next ≡ at + 1 → more ++ blocks_frames frame next (drop (k + 1) bs) ≡ whole
blocks-frames-next frame bs k x at next frames more whole lt e before grown after =
    let rest : List Block = drop (k + 1) bs in
    ap (λ (rs : List GivenFrame). rs ++ blocks_frames frame next rest) grown
    ∙ append_assoc frames (block_frames frame at x) (blocks_frames frame next rest)
    ∙ ap (λ (j : ℕ). frames ++ (block_frames frame at x ++ blocks_frames frame j rest)) after
    ∙ ap (λ (xs : List Block). frames ++ blocks_frames frame at xs) (sym (drop-next bs k x lt e))
    ∙ before
