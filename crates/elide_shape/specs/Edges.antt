-- The edges of a function, with their kinds.
use Rattle.std.specs.Prelude.{ℕ, Bool, List, [], count_by, Some, None, Option, ◌+◌, ◌∷◌, ◌++◌, ◌==◌}
use Rattle.flow_blocks.specs.Kinds.{kind_of}
use Rattle.ir_calls.specs.Calls.{is_value}
use Rattle.elide_shape.specs.declared.edges.Edge.{Edge}
use Rattle.ir_model.specs.Names.{position_of}
use Rattle.ir_model.specs.declared.instr.Terminator.{Terminator}
use Rattle.ir_model.specs.declared.module.Block.{Block}
use Rattle.ir_model.specs.declared.module.Function.{Function}
use Rattle.ir_paths.specs.Paths.{targets}
use Rattle.std.specs.Prelude.{if◌then◌else◌, false}

-- the edges from a block to labels, from a position of its successors on
abbrev pub edges_out : Function → ℕ → ℕ → List ℕ → List Edge
edges_out f from at [] = []
edges_out f from at (l ∷ ls) = record { from = from; to = position_of f l; kind = kind_of f from at } ∷ edges_out f from (at + 1) ls

abbrev pub edges_by : Function → ℕ → List Block → List Edge
edges_by f from [] = []
edges_by f from (b ∷ bs) = edges_out f from 0 (targets b.term) ++ edges_by f (from + 1) bs

-- the edges of a function, in order of the text; those of a suspend's switch are among them
unfoldable pub edges_of : Function → List Edge
edges_of f = edges_by f 0 f.blocks

-- how many edges lead to a block
abbrev pub edges_into : Function → ℕ → ℕ
edges_into f block = count_by (λ e. block == e.to) (edges_of f)

-- ---- terminators

-- the labels of a branch on a value: where it is true, and where it is false
abbrev pub ways_on : Option ℕ → Terminator → Option (ℕ × ℕ)
ways_on v (Terminator.Branch x one other) = if is_value v x then Some (one, other) else None
ways_on v _ = None

abbrev pub ways_in : Option ℕ → Option Block → Option (ℕ × ℕ)
ways_in v None = None
ways_in v (Some b) = ways_on v b.term

-- the terminator is `br label` to the block at a position
abbrev pub jumps_to : Function → ℕ → Terminator → Bool
jumps_to f block (Terminator.Jump label) = position_of f label == block
jumps_to f block _ = false
