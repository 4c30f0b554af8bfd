-- What blocks on edges make of phis.
use Rattle.std.specs.Prelude.{◌≡◌, ℕ, true, Some, slice_get}
use Rattle.pass_edges.specs.Edges.{has_phis}
use Rattle.pass_early_proof.specs.rule_phis.Edges.{leads}
use Rattle.ir_model.specs.declared.instr.Terminator.{Terminator}
use Rattle.ir_model.specs.declared.module.Block.{Block}
use Rattle.ir_model.specs.declared.module.Function.{Function}

-- a block that leads to one with phis ends in a jump to it
abbrev pub ArePhisEnteredByJumps : Function → Type 0
ArePhisEnteredByJumps f =
    (k j : ℕ) (b c : Block) → slice_get f.blocks k ≡ Some b → has_phis b.phis ≡ true → slice_get f.blocks j ≡ Some c → leads b.label c ≡ true → c.term ≡ Terminator.Jump b.label
