-- Lemmas on pairs, that speak of no pass.
use Rattle.std.specs.Prelude.{◌≡◌, ℕ, slice_get, Some}
use Rattle.rule_phis.specs.Edges.{incoming_labels}
use Rattle.ir_laws.specs.ir_model.declared.instr.Phi.{Phi}
use Rattle.ir_laws.specs.ir_model.declared.module.Block.{Block}
use Rattle.ir_laws.specs.ir_model.declared.module.Function.{Function}
use Rattle.ir_laws.specs.paths.woven_rules.Pairs.{AreDifferent}

-- the labels of each phi's operands are all different
abbrev pub AreIncomingOnce : Function → Type 0
AreIncomingOnce f = (k j : ℕ) (b : Block) (p : Phi) → slice_get f.blocks k ≡ Some b → slice_get b.phis j ≡ Some p → AreDifferent (incoming_labels p.incoming)
