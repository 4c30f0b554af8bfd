-- Lemmas on behind, that speak of no pass.
use Rattle.std.specs.Prelude.{◌≡◌, ◌⊎◌, ℕ, Some, slice_get}
use Rattle.rule_uses.specs.Undefined.{ReachesWithout}
use Rattle.ir_laws.specs.flow_solver.Paths.{IsListed}
use Rattle.pass_intrinsics.specs.Shapes.{suspends_of}
use Rattle.pass_intrinsics.specs.declared.shape.SuspendPoint.{SuspendPoint}
use Rattle.ir_laws.specs.ir_model.declared.module.Block.{Block}
use Rattle.ir_laws.specs.ir_model.declared.module.Function.{Function}

-- a suspend's resume or destroy edge leads to the label
pub record LeadsAgain (f : Function) (label : ℕ) : Type 0 where
  pub suspend : SuspendPoint
  pub listed : IsListed suspend (suspends_of f)
  pub leads : (suspend.resume ≡ label) ⊎ (suspend.destroy ≡ label)

-- resume and destroy edges lead to blocks behind begin
abbrev pub AreAgainBehind : Function → ℕ → Type 0
AreAgainBehind f begin = (at : ℕ) (b : Block) → slice_get f.blocks at ≡ Some b → LeadsAgain f b.label → ReachesWithout f begin at → ⊥
