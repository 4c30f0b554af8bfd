-- One walk over the text of a function for all its values: a table has for each name the mark of the block in which it was
-- made last, and another has whether it is used in a block that doesn't make it before, or by a phi.
use Rattle.std.specs.Prelude.{ℕ, Bool, true, false, List, [], Some, None, Option, replicate, slice_get, slice_set, ◌+◌, ◌==◌, ◌∷◌}
use Rattle.rule_uses.specs.Uses.{local_of}
use Rattle.ir_parts.specs.Contents.{ending_operands, instr_operands, result_of}
use Rattle.ir_model.specs.declared.instr.Instr.{Instr}
use Rattle.ir_model.specs.declared.instr.Phi.{Phi}
use Rattle.ir_model.specs.declared.instr.Terminator.{Terminator}
use Rattle.ir_model.specs.declared.module.Block.{Block}
use Rattle.ir_model.specs.declared.operand.Operand.{Operand}
use Rattle.frame_crossing.specs.declared.edge_use.EdgeUse.{EdgeUse}

-- ---- where values are made

abbrev pub is_mark : ℕ → Option ℕ → Bool
is_mark mark None = false
is_mark mark (Some m) = m == mark

-- the value was made last in the block of the mark
abbrev pub is_made : List ℕ → ℕ → ℕ → Bool
is_made made mark v = is_mark mark (slice_get made v)

abbrev pub with_result : ℕ → List ℕ → Option ℕ → List ℕ
with_result mark made None = made
with_result mark made (Some v) = slice_set made v mark

abbrev pub phis_made : ℕ → List ℕ → List Phi → List ℕ
phis_made mark made [] = made
phis_made mark made (p ∷ ps) = phis_made mark (slice_set made p.result mark) ps

abbrev pub instrs_made : ℕ → List ℕ → List Instr → List ℕ
instrs_made mark made [] = made
instrs_made mark made (i ∷ is) = instrs_made mark (with_result mark made (result_of i)) is

abbrev pub block_made : ℕ → List ℕ → Block → List ℕ
block_made mark made b = instrs_made mark (phis_made mark made b.phis) b.instrs

-- ---- where they are used

abbrev pub used_unless : Bool → List Bool → ℕ → List Bool
used_unless true far v = far
used_unless false far v = slice_set far v true

abbrev pub with_use : List ℕ → ℕ → List Bool → Option ℕ → List Bool
with_use made mark far None = far
with_use made mark far (Some v) = used_unless (is_made made mark v) far v

abbrev pub with_uses : List ℕ → ℕ → List Bool → List Operand → List Bool
with_uses made mark far [] = far
with_uses made mark far (x ∷ xs) = with_uses made mark (with_use made mark far (local_of x)) xs

-- those that instructions and a terminator use
abbrev pub instrs_far : ℕ → List ℕ → List Bool → List Instr → Terminator → List Bool
instrs_far mark made far [] t = with_uses made mark far (ending_operands t)
instrs_far mark made far (i ∷ is) t = instrs_far mark (with_result mark made (result_of i)) (with_uses made mark far (instr_operands i)) is t

abbrev pub block_far : ℕ → List ℕ → List Bool → Block → List Bool
block_far mark made far b = instrs_far mark (phis_made mark made b.phis) far b.instrs b.term

-- each block has the mark behind that of the block before
abbrev pub blocks_far : ℕ → List ℕ → List Bool → List Block → List Bool
blocks_far mark made far [] = far
blocks_far mark made far (b ∷ bs) = blocks_far (mark + 1) (block_made mark made b) (block_far mark made far b) bs

-- those that phis use
abbrev pub uses_far : List Bool → List EdgeUse → List Bool
uses_far far [] = far
uses_far far (u ∷ us) = uses_far (slice_set far u.value true) us

-- for each of so many names whether it is one of those
abbrev pub far_table : ℕ → List Block → List EdgeUse → List Bool
far_table names blocks uses = uses_far (blocks_far 1 (replicate names 0) (replicate names false) blocks) uses

abbrev pub is_on : Option Bool → Bool
is_on None = false
is_on (Some b) = b

abbrev pub is_in : List Bool → ℕ → Bool
is_in far v = is_on (slice_get far v)
