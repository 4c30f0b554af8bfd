-- Lemmas on windows, that speak of no pass.
use Rattle.std.proofs.Common.{◌≡◌, ℕ, refl}
use Rattle.std.specs.Prelude.{Some, None, Option, slice_get}
use Rattle.run_laws.specs.ir_model.declared.module.Block.{Block}
use Rattle.run_laws.specs.ir_paths.Windows.{instr_in}
use Rattle.ir_laws.specs.facts.expanded.Spots.{instrs_in}

pub instr_at_is : (o : Option Block) (at : ℕ) → instr_in o at ≡ slice_get (instrs_in o) at
instr_at_is None at = refl
instr_at_is (Some b) at = refl
