-- How often the operands of a function are a local.
use Rattle.std.specs.Prelude.{ℕ, Bool, List, [], flat_map, map, count_by, slice_get, slice_set, unwrap_or, Some, None, Option, ◌+◌, ◌∷◌, ◌++◌}
use Rattle.rule_windows.specs.ir_parts.Contents.{ending_operands, instr_operands}
use Rattle.ir_model.specs.Names.{is_local}
use Rattle.ir_model.specs.declared.instr.Instr.{Instr}
use Rattle.ir_model.specs.declared.instr.Phi.{Phi}
use Rattle.ir_model.specs.declared.module.Block.{Block}
use Rattle.ir_model.specs.declared.module.Function.{Function}
use Rattle.ir_model.specs.declared.operand.Operand.{Operand}

abbrev pub phi_operands : Phi → List Operand
phi_operands p = map (λ i. i.value) p.incoming

abbrev pub block_operands : Block → List Operand
block_operands b = flat_map phi_operands b.phis ++ (flat_map instr_operands b.instrs ++ ending_operands b.term)

-- all operands of a function
abbrev pub operands_of : Function → List Operand
operands_of f = flat_map block_operands f.blocks

-- how many of them are the local
abbrev pub uses_of : Function → ℕ → ℕ
uses_of f v = count_by (is_local v) (operands_of f)

-- ---- a count for each local

abbrev pub times : List ℕ → ℕ → ℕ
times counts v = unwrap_or (slice_get counts v) 0

abbrev pub counted : List ℕ → Operand → List ℕ
counted counts (Operand.Local v) = slice_set counts v (times counts v + 1)
counted counts x = counts

abbrev pub counted_all : List ℕ → List Operand → List ℕ
counted_all counts [] = counts
counted_all counts (x ∷ xs) = counted_all (counted counts x) xs

abbrev pub counted_phis : List ℕ → List Phi → List ℕ
counted_phis counts [] = counts
counted_phis counts (p ∷ ps) = counted_phis (counted_all counts (phi_operands p)) ps

abbrev pub counted_instrs : List ℕ → List Instr → List ℕ
counted_instrs counts [] = counts
counted_instrs counts (i ∷ is) = counted_instrs (counted_all counts (instr_operands i)) is

abbrev pub counted_block : List ℕ → Block → List ℕ
counted_block counts b = counted_all (counted_instrs (counted_phis counts b.phis) b.instrs) (ending_operands b.term)

abbrev pub counted_blocks : List ℕ → List Block → List ℕ
counted_blocks counts [] = counts
counted_blocks counts (b ∷ bs) = counted_blocks (counted_block counts b) bs
