-- Lemmas on ending.
use Rattle.std.proofs.Common.{◌≡◌, ℕ, refl}
use Rattle.std.specs.Prelude.{Some, None, Option}
use Rattle.pass_split.specs.Reached.{targets_in}
use Rattle.pass_fetch_proof.specs.flow_solver.Paths.{IsListed}
use Rattle.ir_model.specs.declared.module.Block.{Block}
use Rattle.pass_fetch_proof.specs.ir_paths.Paths.{targets}

-- ---- paths of labels are paths of points

pub block_there : (o : Option Block) (label : ℕ) → IsListed label (targets_in o) → (b : Block) × ((o ≡ Some b) × IsListed label (targets b.term))
block_there None label l = absurd l
block_there (Some b) label l = (b, (refl, l))
