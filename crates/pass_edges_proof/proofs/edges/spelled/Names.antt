-- Lemmas on names.
use Rattle.std.proofs.Common.{ℕ, zero, suc, [], ◌∷◌, refl}
use Rattle.std.specs.Prelude.{codes}
use Rattle.pass_early_proof.specs.text_names.Spelling.{IsName}
use Rattle.pass_edges.specs.EdgeBlocks.{edge_names}
use Rattle.ir_model.specs.Names.{numbered}
use Rattle.pass_early_proof.specs.run_laws.changed.Changed.{Each}
use Rattle.pass_early_proof.proofs.ir_laws.facts.Lists.{numbered_named}
use Rattle.pass_early_proof.proofs.ir_laws.facts.Members.{joined_names}

pub edges_named : (k : ℕ) → Each IsName (edge_names k)
edges_named zero = tt
edges_named (suc k) = joined_names (edge_names k) (numbered (codes "$c.edge.") k ∷ []) (edges_named k) (numbered_named (codes "$c.edge.") k refl, tt)
