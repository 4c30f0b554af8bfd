-- Where an activation begins an instance.
use Rattle.std.specs.Prelude.{◌≡◌, ℕ, false, true, Option}
use Rattle.run_types.specs.ir_model.declared.instr.Instr.{Instr}
use Rattle.run_types.specs.ir_model.declared.module.Module.{Module}
use Rattle.run_types.specs.ir_model.declared.operand.Intrinsic.{Intrinsic}
use Rattle.run_types.specs.ir_paths.Windows.{is_call_of}
use Rattle.run_types.specs.run_source.declared.state.Activation.{Activation}
use Rattle.run_types.specs.pass_renewed_proof.Making.{IsGiving}
use Rattle.run_types.specs.pass_renewed_proof.Renewed.{Roots}

-- a begin stands at the place of an activation that hasn't left
pub record IsBeginOf (m : Module) (roots : Roots) (a : Activation) (i : Instr) (result : Option ℕ) : Type 0 where
  pub giving : IsGiving m roots a i result
  pub is : is_call_of Intrinsic.CoroBegin i ≡ true
  pub stays : a.has_left ≡ false
