-- The parts of a function in order of the text, each with its place, and the first of them that breaks a rule.
use Rattle.std.specs.Prelude.{ℕ, Bool, true, false, List, [], length, Some, None, Option, ◌+◌, ◌∷◌, ◌++◌, if◌then◌else◌}
use Rattle.ir_model.specs.ir_base.declared.outcome.Item.{Item}
use Rattle.ir_model.specs.ir_base.declared.outcome.Place.{Place}
use Rattle.ir_model.specs.declared.instr.Instr.{Instr}
use Rattle.ir_model.specs.declared.instr.Phi.{Phi}
use Rattle.ir_model.specs.declared.instr.Terminator.{Terminator}
use Rattle.ir_model.specs.declared.module.Block.{Block}
use Rattle.ir_model.specs.declared.module.Function.{Function}

-- what stands at a place of a function: its signature, the head of a block, a phi, another instruction, or a terminator
pub data Part : Type 0 where
  Signature : Function → Part
  Head : Block → Part
  OfPhi : Phi → Part
  OfInstr : Instr → Part
  Ending : Terminator → Part

-- ---- places

abbrev pub item_place : Item → Place
item_place item = record { item = item; block = None; instr = None }

abbrev pub function_place : ℕ → Place
function_place func = item_place (Item.Function func)

abbrev pub block_place : ℕ → ℕ → Place
block_place func block = record { item = Item.Function func; block = Some block; instr = None }

abbrev pub instr_place : ℕ → ℕ → ℕ → Place
instr_place func block at = record { item = Item.Function func; block = Some block; instr = Some at }

-- ---- the parts in order

abbrev pub phi_parts : ℕ → ℕ → ℕ → List Phi → List (Place × Part)
phi_parts func block at [] = []
phi_parts func block at (p ∷ ps) = (instr_place func block at, OfPhi p) ∷ phi_parts func block (at + 1) ps

abbrev pub instr_parts : ℕ → ℕ → ℕ → List Instr → List (Place × Part)
instr_parts func block at [] = []
instr_parts func block at (i ∷ is) = (instr_place func block at, OfInstr i) ∷ instr_parts func block (at + 1) is

unfoldable pub block_parts : ℕ → ℕ → Block → List (Place × Part)
block_parts func block b =
    (block_place func block, Head b)
    ∷ (phi_parts func block 0 b.phis
    ++ (instr_parts func block (length b.phis) b.instrs
    ++ ((instr_place func block (length b.phis + length b.instrs), Ending b.term) ∷ [])))

abbrev pub blocks_parts : ℕ → ℕ → List Block → List (Place × Part)
blocks_parts func block [] = []
blocks_parts func block (b ∷ bs) = block_parts func block b ++ blocks_parts func (block + 1) bs

abbrev pub parts_of : ℕ → Function → List (Place × Part)
parts_of func f = (function_place func, Signature f) ∷ blocks_parts func 0 f.blocks

-- ---- the first that breaks a rule

abbrev pub or_place : Option Place → Option Place → Option Place
or_place (Some p) other = Some p
or_place None other = other

abbrev pub place_if : Bool → Place → Option Place
place_if true p = Some p
place_if false p = None

abbrev pub first_part : (Place → Part → Bool) → List (Place × Part) → Option Place
first_part breaks [] = None
first_part breaks (x ∷ xs) = or_place (place_if (breaks x.0 x.1) x.0) (first_part breaks xs)

-- the first of some blocks
abbrev pub first_in_blocks : (Place → Part → Bool) → ℕ → ℕ → List Block → Option Place
first_in_blocks breaks func block [] = None
first_in_blocks breaks func block (b ∷ bs) = or_place (first_part breaks (block_parts func block b)) (first_in_blocks breaks func (block + 1) bs)
