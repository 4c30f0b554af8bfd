-- Where edges have blocks, and where edges that leave windows do, a function can still be written.
use Rattle.std.proofs.Common.{ℕ, ◌+◌, Bool, List, [], ◌∷◌, length, sym, subst}
use Rattle.std.specs.Prelude.{map}
use Rattle.pass_edges.specs.EdgeBlocks.{edge_block, edge_names, split_blocks, split_phi, with_edge_blocks}
use Rattle.pass_edges.specs.Edges.{block_edges, edge_table, edges_at, edges_of, ends_in_suspend, phi_flags}
use Rattle.pass_edges.specs.declared.edge.Edge.{Edge}
use Rattle.pass_early_proof.proofs.ir_laws.facts.Members.{each_joined, joined_names}
use Rattle.ir_model.specs.declared.instr.Phi.{Phi}
use Rattle.ir_model.specs.declared.module.Block.{Block}
use Rattle.ir_model.specs.declared.module.Function.{Function}
use Rattle.pass_edges_proof.proofs.edges.spelled.Names.{edges_named}
use Rattle.pass_early_proof.specs.rule_laws.texts.spelled.Spelled.{IsSpelled}
use Rattle.pass_early_proof.specs.rule_laws.rules.spelled.Spelled.{IsSpelledBlock, IsSpelledFunction}
use Rattle.pass_early_proof.specs.run_laws.changed.Changed.{Each}
use Rattle.pass_edges_proof.proofs.edges.rules.Operands as split

-- ---- blocks on edges

phis_spelled : (edges : List Edge) (ps : List Phi) → Each (λ p. IsSpelled p.ty) ps → Each (λ p. IsSpelled p.ty) (map (split_phi edges) ps)
phis_spelled edges [] h = tt
phis_spelled edges (p ∷ ps) h = (h.0, phis_spelled edges ps h.1)

jumps_spelled : (es : List Edge) → Each IsSpelledBlock (map edge_block es)
jumps_spelled [] = tt
jumps_spelled (e ∷ es) = (record { phis = tt; instrs = tt; term = tt }, jumps_spelled es)

split_spelled : (flags : List Bool) (table : List (List Edge)) (n : ℕ) (bs : List Block) → Each IsSpelledBlock bs → Each IsSpelledBlock (split_blocks flags table n bs)
split_spelled flags table n [] h = tt
split_spelled flags table n (b ∷ bs) h = (
  record {
    phis = phis_spelled (edges_at table b.label) b.phis h.0.phis;
    instrs = h.0.instrs;
    term = subst (Each IsSpelled) (sym (split.ending_types_same flags (ends_in_suspend b.instrs) n b.term)) h.0.term;
  },
  each_joined IsSpelledBlock (map edge_block (block_edges flags n b)) (split_blocks flags table (n + length (block_edges flags n b)) bs) (jumps_spelled (block_edges flags n b))
      (split_spelled flags table (n + length (block_edges flags n b)) bs h.1),
)

pub edges_spelled : (f : Function) → IsSpelledFunction f → IsSpelledFunction (with_edge_blocks f)
edges_spelled f h =
    let edges : List Edge = edges_of (phi_flags f) f in
    record {
      name = h.name;
      result = h.result;
      params = h.params;
      blocks = split_spelled (phi_flags f) (edge_table f edges) (length f.names) f.blocks h.blocks;
      names = joined_names f.names (edge_names (length edges)) h.names (edges_named (length edges));
    }
