-- Points, edges and paths of a function.
use Rattle.std.specs.Prelude.{ℕ, zero, suc, Bool, List, [], map, length, IsTrue, IsFalse, nat_lt, slice_get, Some, None, Option, ◌+◌, ◌&&◌, ◌||◌, ◌∷◌, ◌++◌, if◌then◌else◌, ◌==◌}
use Rattle.ir_model.specs.Names.{position_of}
use Rattle.ir_model.specs.declared.instr.Terminator.{Terminator}
use Rattle.ir_model.specs.declared.module.Block.{Block}
use Rattle.ir_model.specs.declared.module.Function.{Function}
use Rattle.ir_paths.specs.declared.point.Point.{Point}
use Rattle.std.specs.List.{list_any}

-- ---- edges

-- the labels of a terminator, in order
abbrev pub targets : Terminator → List ℕ
targets (Terminator.Jump label) = label ∷ []
targets (Terminator.Branch x a b) = a ∷ b ∷ []
targets (Terminator.Switch arg default cases) = default ∷ map (λ k. k.target) cases
targets (Terminator.Ret arg) = []
targets Terminator.Unreachable = []

-- the first point of the block of a label
abbrev pub entry_point : Function → ℕ → Point
entry_point f label = record { block = position_of f label; at = 0 }

abbrev pub nexts_in : Function → Point → Option Block → List Point
nexts_in f p None = []
nexts_in f p (Some b) =
    if nat_lt p.at (length b.instrs) then record { block = p.block; at = p.at + 1 } ∷ []
    else if p.at == length b.instrs then map (entry_point f) (targets b.term)
    else []

-- the points to which an edge leads from a point
abbrev pub nexts : Function → Point → List Point
nexts f p = nexts_in f p (slice_get f.blocks p.block)

-- ---- lists of points

abbrev pub same_point : Point → Point → Bool
same_point p q = (p.block == q.block) && (p.at == q.at)

abbrev pub has_point : List Point → Point → Bool
has_point ps p = list_any (same_point p) ps

-- ---- paths

-- the points between lead from p to q, each followed by the next along an edge, and none of them is avoided
abbrev pub IsPath : Function → List Point → Point → List Point → Point → Type 0
IsPath f avoided p [] q = IsTrue (has_point (nexts f p) q)
IsPath f avoided p (v ∷ between) q = IsTrue (has_point (nexts f p) v) × IsFalse (has_point avoided v) × IsPath f avoided v between q

-- a path leads from p to q with none of these points between
pub record Leads (f : Function) (avoided : List Point) (p q : Point) : Type 0 where
  pub between : List Point
  pub is_path : IsPath f avoided p between q

-- ---- the same, found by a search

-- the points of a block with its number and so many instructions, the last one first
abbrev pub block_points : ℕ → ℕ → List Point
block_points block zero = record { block = block; at = 0 } ∷ []
block_points block (suc n) = record { block = block; at = suc n } ∷ block_points block n

abbrev pub points_of_blocks : ℕ → List Block → List Point
points_of_blocks block [] = []
points_of_blocks block (b ∷ blocks) = block_points block (length b.instrs) ++ points_of_blocks (suc block) blocks

abbrev pub edges_from : Function → List Point → ℕ
edges_from f [] = 0
edges_from f (p ∷ ps) = length (nexts f p) + edges_from f ps

abbrev pub edge_count : Function → ℕ
edge_count f = edges_from f (points_of_blocks 0 f.blocks)

-- where to go on from a point that the search comes to
abbrev pub opened : Function → List Point → List Point → Point → List Point
opened f avoided seen p = if has_point seen p || has_point avoided p then [] else nexts f p

-- the points found after so many turns, each of which takes one point of those to be looked at
abbrev pub found_within : ℕ → Function → List Point → List Point → List Point → List Point
found_within zero f avoided todo seen = seen
found_within (suc n) f avoided [] seen = seen
found_within (suc n) f avoided (p ∷ todo) seen =
    found_within n f avoided (opened f avoided seen p ++ todo) (if has_point seen p then seen else p ∷ seen)

-- the points found from these on; each edge is looked at once at most
abbrev pub found_from : Function → List Point → List Point → List Point
found_from f avoided todo = found_within (length todo + edge_count f) f avoided todo []

-- the points to which a path leads from p with none of these between
abbrev pub led_to : Function → List Point → Point → List Point
led_to f avoided p = found_from f avoided (nexts f p)
