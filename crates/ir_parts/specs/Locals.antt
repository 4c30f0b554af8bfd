-- The locals that a function defines, in order of the text.
use Rattle.std.specs.Prelude.{ℕ, Bool, true, false, List, [], map, ◌+◌, ◌∷◌, ◌++◌}
use Rattle.ir_model.specs.ir_base.declared.outcome.Place.{Place}
use Rattle.ir_parts.specs.Contents.{part_locals}
use Rattle.ir_parts.specs.Parts.{Part, Signature, Head, OfPhi, OfInstr, Ending, block_parts, parts_of}
use Rattle.ir_parts.specs.declared.defined.Definition.{Definition}
use Rattle.ir_model.specs.declared.module.Block.{Block}
use Rattle.ir_model.specs.declared.module.Function.{Function}

abbrev pub is_head : Part → Bool
is_head (Head b) = true
is_head _ = false

abbrev pub local_at : Place → Bool → ℕ → Definition
local_at p b n = record { place = p; name = n; is_label = b }

abbrev pub locals_at : Place × Part → List Definition
locals_at x = map (local_at x.0 (is_head x.1)) (part_locals x.1)

abbrev pub locals_in : List (Place × Part) → List Definition
locals_in [] = []
locals_in (x ∷ xs) = locals_at x ++ locals_in xs

-- the locals that a function defines, each with the place of its definition
abbrev pub locals_of : ℕ → Function → List Definition
locals_of func f = locals_in (parts_of func f)

-- the locals that some blocks define
abbrev pub locals_in_blocks : ℕ → ℕ → List Block → List Definition
locals_in_blocks func block [] = []
locals_in_blocks func block (b ∷ bs) = locals_in (block_parts func block b) ++ locals_in_blocks func (block + 1) bs
