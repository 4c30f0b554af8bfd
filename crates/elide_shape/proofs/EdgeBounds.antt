-- The edges of a function lead between its blocks, or to the place behind the last.
use Rattle.std.proofs.Common.{◌≡◌, ℕ, ◌+◌, ◌<◌, List, [], ◌∷◌, length, sym, ap, subst, ⊎_elim, arith}
use Rattle.flow_blocks.proofs.Bounds.{position_bounded}
use Rattle.flow_blocks.proofs.Elements.{listed_append}
use Rattle.elide_shape.specs.Edges.{edges_by, edges_of, edges_out}
use Rattle.elide_shape.specs.declared.edges.Edge.{Edge}
use Rattle.flow_solver.specs.Paths.{IsListed}
use Rattle.ir_model.specs.declared.module.Block.{Block}
use Rattle.ir_model.specs.declared.module.Function.{Function}
use Rattle.ir_paths.specs.Paths.{targets}

out_bounded : (f : Function) (from at : ℕ) (ls : List ℕ) (e : Edge) → IsListed e (edges_out f from at ls) → (e.from ≡ from) × (e.to < length f.blocks + 1)
out_bounded f from at [] e h = absurd h
out_bounded f from at (l ∷ ls) e h = ⊎_elim
    (λ here. (ap (λ (x : Edge). x.from) here, subst (λ n. n < length f.blocks + 1) (sym (ap (λ (x : Edge). x.to) here)) (position_bounded f l)))
    (λ later. out_bounded f from (at + 1) ls e later)
    h

bounded_from : (f : Function) (from : ℕ) (bs : List Block) (e : Edge) → IsListed e (edges_by f from bs) → (e.from < from + length bs) × (e.to < length f.blocks + 1)
bounded_from f from [] e h = absurd h
bounded_from f from (b ∷ bs) e h = ⊎_elim
    (λ here. let found = out_bounded f from 0 (targets b.term) e here in let is = found.0 in (omega (arith, is), found.1))
    (λ later. let found = bounded_from f (from + 1) bs e later in let lt = found.0 in (omega (arith, lt), found.1))
    (listed_append e (edges_out f from 0 (targets b.term)) (edges_by f (from + 1) bs) h)

pub edge_bounded : (f : Function) (e : Edge) → IsListed e (edges_of f) → (e.from < length f.blocks) × (e.to < length f.blocks + 1)
unfolding edges_of
edge_bounded f e h = let found = bounded_from f 0 f.blocks e h in let lt = found.0 in (omega (arith, lt), found.1)
