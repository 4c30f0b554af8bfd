-- Lemmas on entry.
use Rattle.std.proofs.Common.{ℕ, Bool, List, [], ◌∷◌, ap}
use Rattle.std.specs.Prelude.{map}
use Rattle.pass_edges.specs.EdgeBlocks.{split_blocks, split_phi, with_edge_blocks}
use Rattle.pass_edges.specs.Edges.{edges_at}
use Rattle.pass_edges.specs.declared.edge.Edge.{Edge}
use Rattle.ir_model.specs.declared.module.Block.{Block}
use Rattle.ir_model.specs.declared.module.Function.{Function}
use Rattle.pass_early_proof.specs.ir_laws.facts.spelled.Filled.{HasNoEntryPhis}

split_entry : (flags : List Bool) (table : List (List Edge)) (n : ℕ) (bs : List Block) → HasNoEntryPhis bs → HasNoEntryPhis (split_blocks flags table n bs)
split_entry flags table n [] h = tt
split_entry flags table n (b ∷ bs) h = ap (map (split_phi (edges_at table b.label))) h

pub edges_entry : (f : Function) → HasNoEntryPhis f.blocks → HasNoEntryPhis (with_edge_blocks f).blocks
edges_entry f h = split_entry _ _ _ f.blocks h
