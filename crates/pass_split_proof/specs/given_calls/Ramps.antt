-- The ramps that are given their frames, in the module of parts.
use Rattle.std.specs.Prelude.{◌≡◌, ℕ, suc, true, Some, length, slice_get}
use Rattle.pass_proofs.specs.frame_layout.declared.layout.Layouts.{Layouts}
use Rattle.pass_proofs.specs.ir_base.declared.name.Name.{Name}
use Rattle.pass_proofs.specs.ir_model.Names.{function_at, function_named}
use Rattle.pass_proofs.specs.ir_model.declared.module.Block.{Block}
use Rattle.pass_proofs.specs.ir_model.declared.module.Module.{Module}
use Rattle.pass_proofs.specs.pass_split.Given.{has_given_call}
use Rattle.pass_split_proof.specs.code.Positions.{layout_at}
use Rattle.pass_proofs.specs.split.rules.Splittable.{IsSplittable}
use Rattle.pass_proofs.specs.run_framed.Framed.{given_ramp, layout_of}

-- A coroutine of the module is splittable, by the rules of a module that may declare what calls give frames to. It
-- has a first block, and its layout stands where it should.
pub record IsSplitBy (ls : Layouts) (m : Module) (k : ℕ) : Type 0 where
  pub there : slice_get m.functions k ≡ Some (function_at m k)
  pub coroutine : (function_at m k).coroutine ≡ true
  pub ruler : Module
  pub begin : ℕ
  pub splittable : IsSplittable ruler k (function_at m k) begin
  pub layout : layout_of ls.coroutines k ≡ layout_at ls.coroutines m.functions k
  pub block : Block
  pub first : slice_get (function_at m k).blocks 0 ≡ Some block

-- The rules' module has the ramps that are called, with a parameter more than their coroutines.
pub record HasCalledRamps (r m : Module) : Type 0 where
  pub ramps : (x : Name) (k : ℕ) → given_ramp m x ≡ Some k → has_given_call m (function_at m k) ≡ true
      → (j : ℕ) × ((function_named r x ≡ Some j)
      × (length (function_at r j).params ≡ suc (length (function_at m k).params)))
