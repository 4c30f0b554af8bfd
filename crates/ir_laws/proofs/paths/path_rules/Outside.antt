-- Lemmas on outside, that speak of no pass.
use Rattle.std.proofs.Common.{ℕ, ◌-◌, length}
use Rattle.run_laws.specs.ir_model.declared.module.Block.{Block}
use Rattle.run_laws.specs.ir_paths.declared.point.Point.{Point}

-- the end of a block's instructions
abbrev pub end_at : ℕ → Block → Point
end_at k b = record { block = k; at = length b.instrs }
