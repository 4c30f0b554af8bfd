-- Lemmas on widths.
use Rattle.std.proofs.Common.{◌≡◌, ℕ, refl}
use Rattle.std.specs.Prelude.{None}
use Rattle.pass_early_proof.specs.rule_laws.rules.counted.Widths.{first_other_width, is_of_other_width}
use Rattle.pass_early_proof.proofs.early.local_rules.Known.{ending_types_same}
use Rattle.pass_edges_proof.proofs.edges.rules.Homes.{own_block}
use Rattle.pass_edges.specs.EdgeBlocks.{with_edge_blocks}
use Rattle.pass_edges.specs.Edges.{ends_in_suspend, phi_flags}
use Rattle.pass_early_proof.specs.ir_parts.Contents.{ending_types}
use Rattle.ir_model.specs.declared.module.Function.{Function}
use Rattle.pass_early_proof.proofs.ir_laws.facts.Lists.{same_widths}
use Rattle.pass_edges_proof.proofs.edges.rules.Carried as edges
use Rattle.pass_edges_proof.proofs.edges.rules.Operands as operands

-- ---- where edges have blocks

edge_widths_carried : (f : Function) → edges.Carries f is_of_other_width is_of_other_width
edge_widths_carried f =
    record {
      signature = λ p e. e;
      head = λ q c. refl;
      phi = λ p q k b x there e. e;
      instr = λ p q i alike e. e;
      ending = λ p q k b there e. same_widths (ending_types b.term) (ending_types (own_block f k b).term) (operands.ending_types_same (phi_flags f) (ends_in_suspend b.instrs) _ b.term) e;
      edge = λ q k b i e there got. refl;
    }

pub edge_widths : (k : ℕ) (f : Function) → first_other_width k f ≡ None → first_other_width k (with_edge_blocks f) ≡ None
edge_widths k f e = edges.carried f is_of_other_width is_of_other_width (edge_widths_carried f) k e
