-- Lemmas on returns.
use Rattle.std.specs.Prelude.{◌≡◌, ℕ, true, List, Some, slice_get}
use Rattle.pass_edges.specs.Edges.{ends_in_suspend, is_suspend}
use Rattle.ir_model.specs.declared.instr.Case.{Case}
use Rattle.ir_model.specs.declared.instr.Instr.{Instr}
use Rattle.ir_model.specs.declared.instr.Terminator.{Terminator}
use Rattle.ir_model.specs.declared.module.Block.{Block}
use Rattle.ir_model.specs.declared.module.Function.{Function}
use Rattle.ir_model.specs.declared.operand.Arg.{Arg}
use Rattle.pass_early_proof.specs.ir_laws.paths.rows.Returns.{IsOwnBlock}
use Rattle.pass_early_proof.specs.rule_laws.rules.rows.Returns.{IsSwitched}

-- the resume and destroy edges of suspends, the cases of their switches, lead to such blocks
abbrev pub HaveOwnBlocks : Function → Type 0
HaveOwnBlocks f =
    (k j : ℕ) (b : Block) (arg : Arg) (default : ℕ) (cases : List Case) (c : Case) → slice_get f.blocks k ≡ Some b → ends_in_suspend b.instrs ≡ true → b.term ≡ Terminator.Switch arg default cases → slice_get cases j ≡ Some c → IsOwnBlock f c.target

-- the same of each suspend
abbrev pub AreSwitched : Function → Type 0
AreSwitched f = (k x : ℕ) (b : Block) (i : Instr) → slice_get f.blocks k ≡ Some b → slice_get b.instrs x ≡ Some i → is_suspend i ≡ true → IsSwitched b x i
