-- The uses of values in a function, in order of the text.
use Rattle.std.specs.Prelude.{ℕ, List, [], map, length, slice_get, Some, None, Option, option_to_list, ◌+◌, ◌∷◌, ◌++◌}
use Rattle.ir_base.specs.declared.outcome.Place.{Place}
use Rattle.ir_parts.specs.Contents.{ending_operands, instr_operands, result_of}
use Rattle.ir_parts.specs.Parts.{instr_place}
use Rattle.ir_model.specs.Names.{position_of}
use Rattle.ir_model.specs.declared.instr.Incoming.{Incoming}
use Rattle.ir_model.specs.declared.instr.Instr.{Instr}
use Rattle.ir_model.specs.declared.instr.Phi.{Phi}
use Rattle.ir_model.specs.declared.module.Block.{Block}
use Rattle.ir_model.specs.declared.module.Function.{Function}
use Rattle.ir_model.specs.declared.operand.Operand.{Operand}

-- ---- what blocks make

-- the values of phis, with those before, the last first
abbrev pub made_by_phis : List ℕ → List Phi → List ℕ
made_by_phis before [] = before
made_by_phis before (p ∷ ps) = made_by_phis (p.result ∷ before) ps

-- the values of other instructions, with those before, the last first
abbrev pub made_by_instrs : List ℕ → List Instr → List ℕ
made_by_instrs before [] = before
made_by_instrs before (i ∷ is) = made_by_instrs (option_to_list (result_of i) ++ before) is

abbrev pub phi_values : Block → List ℕ
phi_values b = made_by_phis [] b.phis

-- the values that a block makes
abbrev pub block_values : Block → List ℕ
block_values b = made_by_instrs (phi_values b) b.instrs

abbrev pub values_in : Option Block → List ℕ
values_in None = []
values_in (Some b) = block_values b

abbrev pub values_at : Function → ℕ → List ℕ
values_at f block = values_in (slice_get f.blocks block)

-- ---- uses

-- A use of a value: the place of the part that uses it, the block in which the use stands, and the values that this block
-- makes before it.
pub record Use : Type 0 where
  pub place : Place
  pub block : ℕ
  pub before : List ℕ
  pub value : ℕ

abbrev pub use_of : Place → ℕ → List ℕ → ℕ → Use
use_of p b made v = record { place = p; block = b; before = made; value = v }

abbrev pub local_of : Operand → Option ℕ
local_of (Operand.Local v) = Some v
local_of _ = None

-- the values among operands
abbrev pub locals_in : List Operand → List ℕ
locals_in [] = []
locals_in (x ∷ xs) = option_to_list (local_of x) ++ locals_in xs

-- a phi's use stands at the end of the block that its label names
abbrev pub incoming_use : Function → Place → Incoming → ℕ → Use
incoming_use f p i v = use_of p (position_of f i.from) (values_at f (position_of f i.from)) v

abbrev pub incoming_uses : Function → Place → List Incoming → List Use
incoming_uses f p [] = []
incoming_uses f p (i ∷ is) = map (incoming_use f p i) (option_to_list (local_of i.value)) ++ incoming_uses f p is

abbrev pub phi_uses : Function → ℕ → ℕ → ℕ → List Phi → List Use
phi_uses f func block at [] = []
phi_uses f func block at (p ∷ ps) = incoming_uses f (instr_place func block at) p.incoming ++ phi_uses f func block (at + 1) ps

abbrev pub uses_at : Place → ℕ → List ℕ → List Operand → List Use
uses_at p block before operands = map (use_of p block before) (locals_in operands)

abbrev pub instr_uses : ℕ → ℕ → ℕ → List ℕ → List Instr → List Use
instr_uses func block at before [] = []
instr_uses func block at before (i ∷ is) =
    uses_at (instr_place func block at) block before (instr_operands i)
    ++ instr_uses func block (at + 1) (option_to_list (result_of i) ++ before) is

unfoldable pub block_uses : Function → ℕ → ℕ → Block → List Use
block_uses f func block b =
    phi_uses f func block 0 b.phis
    ++ (instr_uses func block (length b.phis) (phi_values b) b.instrs
    ++ uses_at (instr_place func block (length b.phis + length b.instrs)) block (block_values b) (ending_operands b.term))

abbrev pub blocks_uses : Function → ℕ → ℕ → List Block → List Use
blocks_uses f func block [] = []
blocks_uses f func block (b ∷ bs) = block_uses f func block b ++ blocks_uses f func (block + 1) bs

-- the uses of a function's values
abbrev pub uses_of : ℕ → Function → List Use
uses_of func f = blocks_uses f func 0 f.blocks
