-- Frames that are judged alike in two runs: one begins somewhere else than the other.
use Rattle.std.specs.Prelude.{◌≡◌, ◌+◌, ◌<◌, ℕ, List, Some, None, Option}
use Rattle.pass_proofs.specs.run_framed.Framed.{FramedGiven, judge_of}
use Rattle.pass_proofs.specs.run_memory.declared.block.MemoryBlock.{MemoryBlock}
use Rattle.pass_proofs.specs.run_source.declared.state.Instance.{Instance}

-- A byte is judged by frames of one coroutine, the second of which starts so much later; or by none, in blocks of one
-- alignment, at the same offset.
abbrev pub AreJudges : ℕ → MemoryBlock → MemoryBlock → Option (ℕ × Instance) → Option (ℕ × Instance) → Type 0
AreJudges by x y None None = (by ≡ 0) × (y.align ≡ x.align)
AreJudges by x y None (Some q) = ⊥
AreJudges by x y (Some p) None = ⊥
AreJudges by x y (Some p) (Some q) = (q.1.coroutine ≡ p.1.coroutine) × (q.1.start ≡ by + p.1.start)

-- so are the bytes of a block and those of another one from an offset on
pub record AreJudgedAlike (g h : FramedGiven) (xs ys : List Instance) (b c by size : ℕ) (x y : MemoryBlock) : Type 0
  where
    pub each : (k : ℕ) → k < size → AreJudges by x y (judge_of g xs b k) (judge_of h ys c (by + k))
