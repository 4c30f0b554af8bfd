-- Lemmas on entered, that speak of no pass.
use Rattle.std.proofs.Common.{ℕ, ◌≡◌}
use Rattle.run_laws.specs.flow_solver.Paths.{IsListed}
use Rattle.run_laws.specs.ir_model.declared.module.Block.{Block}
use Rattle.run_laws.specs.ir_model.declared.module.Function.{Function}
use Rattle.run_laws.specs.ir_paths.Paths.{targets}

pub record IsPredecessor (f : Function) (label n : ℕ) : Type 0 where
  pub block : Block
  pub listed : IsListed block f.blocks
  pub is : n ≡ block.label
  pub leads_there : IsListed label (targets block.term)
