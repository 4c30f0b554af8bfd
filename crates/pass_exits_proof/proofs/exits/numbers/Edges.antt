-- Lemmas on edges.
use Rattle.std.proofs.Common.{◌≡◌, ℕ, ◌+◌, List, [], ◌∷◌, ◌++◌, length, refl, ◌∙◌, arith}
use Rattle.pass_fetch_proof.proofs.rule_laws.frames.suspend_counts.Counted.{as_many, count, total}
use Rattle.pass_fetch_proof.specs.pass_intrinsics.Shapes.{suspends_of}
use Rattle.ir_model.specs.declared.module.Block.{Block}
use Rattle.ir_model.specs.declared.module.Function.{Function}
use Rattle.pass_split.specs.pass_exits.ExitBlocks.{blocks_by, exit_blocks, with_exit_blocks}
use Rattle.pass_split.specs.pass_exits.Exits.{block_exits}
use Rattle.pass_split.specs.pass_exits.declared.exit.Exit.{Exit}

exits_alone : (n : ℕ) (es : List Exit) (bs : List Block) → total (exit_blocks n es ++ bs) ≡ total bs
exits_alone n [] bs = refl
exits_alone n (e ∷ es) bs = let rest = exits_alone (n + 1) es bs in let all : 0 + total (exit_blocks (n + 1) es ++ bs) ≡ total bs = omega (arith, rest) in all

exits_total : (f : Function) (at n : ℕ) (bs : List Block) → total (blocks_by f at n bs) ≡ total bs
exits_total f at n [] = refl
exits_total f at n (b ∷ bs) =
    let alone = exits_alone n (block_exits f at b) (blocks_by f (at + 1) (n + length (block_exits f at b)) bs) in
    let rest = exits_total f (at + 1) (n + length (block_exits f at b)) bs in
    λ k. count b.instrs + (alone ∙ rest) k

pub exits_as_many : (f : Function) → length (suspends_of (with_exit_blocks f)) ≡ length (suspends_of f)
exits_as_many f = as_many f (with_exit_blocks f) (exits_total f 0 (length f.names) f.blocks)
