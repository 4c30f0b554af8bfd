-- Lemmas on spots, that speak of no pass.
use Rattle.std.specs.Prelude.{List, [], Some, None, Option}
use Rattle.run_laws.specs.ir_model.declared.instr.Instr.{Instr}
use Rattle.run_laws.specs.ir_model.declared.module.Block.{Block}

abbrev pub instrs_in : Option Block → List Instr
instrs_in None = []
instrs_in (Some b) = b.instrs
