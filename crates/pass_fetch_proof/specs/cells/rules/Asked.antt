-- What is asked of a coroutine whose crossing values are kept in cells.
use Rattle.std.specs.Prelude.{◌≡◌, ℕ, Bool, true, List, None}
use Rattle.pass_edges_proof.specs.rule_laws.rules.counted.Widths.{first_other_width}
use Rattle.pass_edges_proof.specs.flow_solver.Paths.{IsListed}
use Rattle.pass_edges_proof.specs.pass_intrinsics.Shapes.{suspends_of}
use Rattle.pass_edges_proof.specs.pass_intrinsics.declared.shape.SuspendPoint.{SuspendPoint}
use Rattle.ir_model.specs.declared.module.Function.{Function}
use Rattle.pass_edges_proof.specs.ir_paths.Slots.{allocas_of}
use Rattle.pass_edges_proof.specs.frame_crossing.Values.{values_of}
use Rattle.pass_edges_proof.specs.pass_cells.Kept.{is_flagged}
use Rattle.pass_edges_proof.specs.rule_laws.frames.counted.Asked.{IsAwayFromEntry}

-- The pairs are of values of the function that may cross suspends, the flagged names are allocas, suspends lead away from the entry
-- block, and integer types have the widths that types are written with.
pub record AreCellsFor (k : ℕ) (f : Function) (crossing : List (ℕ × ℕ)) (local : List Bool) : Type 0 where
  pub values : (p : ℕ × ℕ) → IsListed p crossing → IsListed p.0 (values_of f)
  pub slots : (v : ℕ) → is_flagged local v ≡ true → IsListed v (allocas_of f)
  pub returns : (s : SuspendPoint) → IsListed s (suspends_of f) → IsAwayFromEntry f s
  pub widths : first_other_width k f ≡ None
