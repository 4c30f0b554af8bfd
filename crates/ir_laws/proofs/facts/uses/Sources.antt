-- Lemmas on sources, that speak of no pass.
use Rattle.std.proofs.Common.{ℕ}
use Rattle.run_laws.specs.ir_model.declared.module.Block.{Block}

abbrev pub label_of : Block → ℕ
label_of c = c.label
