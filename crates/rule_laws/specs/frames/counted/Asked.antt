-- Lemmas on asked, that speak of no pass.
use Rattle.std.specs.Prelude.{◌≡◌}
use Rattle.pass_intrinsics.specs.declared.shape.SuspendPoint.{SuspendPoint}
use Rattle.ir_laws.specs.ir_model.Names.{position_of}
use Rattle.ir_laws.specs.ir_model.declared.module.Function.{Function}

-- neither a suspend's resume edge nor its destroy edge leads to the entry block
pub record IsAwayFromEntry (f : Function) (s : SuspendPoint) : Type 0 where
  pub resume : position_of f s.resume ≡ 0 → ⊥
  pub destroy : position_of f s.destroy ≡ 0 → ⊥
