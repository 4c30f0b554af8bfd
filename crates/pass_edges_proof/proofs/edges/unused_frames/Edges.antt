-- Blocks on edges use no value more, and a call stands where it stood.
use Rattle.std.proofs.Common.{◌≡◌, ⊎_elim, ℕ, refl, sym, ap, ◌∙◌}
use Rattle.std.specs.List.{list_all}
use Rattle.std.specs.Prelude.{None, Option, Some, not, slice_get}
use Rattle.pass_edges_proof.specs.edges.paths.Spots.{table_of}
use Rattle.pass_edges.specs.EdgeBlocks.{with_edge_blocks}
use Rattle.pass_edges.specs.Edges.{edges_at, ends_in_suspend, phi_flags}
use Rattle.pass_early_proof.proofs.ir_laws.facts.Truth.{holds}
use Rattle.pass_edges_proof.proofs.edges.rules.Homes.{IsEdge, IsOwn, home}
use Rattle.pass_early_proof.specs.ir_parts.Contents.{ending_operands, part_operands}
use Rattle.pass_early_proof.specs.ir_parts.Parts.{OfPhi}
use Rattle.ir_model.specs.declared.instr.Instr.{Instr}
use Rattle.ir_model.specs.declared.module.Block.{Block}
use Rattle.ir_model.specs.declared.module.Function.{Function}
use Rattle.pass_early_proof.specs.ir_paths.Windows.{instr_at, instr_in}
use Rattle.pass_early_proof.specs.ir_paths.declared.point.Point.{Point}
use Rattle.pass_early_proof.proofs.ir_laws.paths.unused.Standing.{stands_at}
use Rattle.pass_early_proof.specs.rule_laws.rules.unused.Unused.{AreFramesUnused, is_other, names_value}
use Rattle.pass_edges_proof.proofs.edges.rules.Carried as edges
use Rattle.pass_edges_proof.proofs.edges.rules.Operands as operands

uses_carried : (f : Function) (v : ℕ) → edges.Carries f (names_value v) (names_value v)
uses_carried f v =
    record {
      signature = λ p e. refl;
      head = λ q c. refl;
      phi = λ p q k b x there e. ap not (operands.all_taken (is_other v) x.incoming (edges_at (table_of f) b.label) (holds (list_all (is_other v) (part_operands (OfPhi x))) e));
      instr = λ p q i alike e. e;
      ending = λ p q k b there e. ap not (ap (list_all (is_other v)) (operands.ending_operands_same (phi_flags f) (ends_in_suspend b.instrs) _ b.term) ∙ holds (list_all (is_other v) (ending_operands b.term)) e);
      edge = λ q k b i e there got. refl;
    }

-- an instruction of the function
record IsFrom (f : Function) (i : Instr) : Type 0 where
  point : Point
  there : instr_at f point ≡ Some i

comes_from : (f : Function) (p : Point) (i : Instr) → instr_at (with_edge_blocks f) p ≡ Some i → IsFrom f i
comes_from f p i e =
    let x = stands_at (with_edge_blocks f) p i e in
    ⊎_elim
    (λ (o : IsOwn f p.block x.block). record {
      point = record { block = o.index; at = p.at };
      there = ap (λ (b : Option Block). instr_in b p.at) o.got ∙ ap (λ (c : Block). slice_get c.instrs p.at) (sym o.is) ∙ x.there;
    })
    (λ (d : IsEdge f p.block x.block). let none : None ≡ Some i = ap (λ (c : Block). slice_get c.instrs p.at) (sym d.is) ∙ x.there in absurd (cc))
    (home f p.block x.block x.got)

pub unused_where_edges_have_blocks : (k : ℕ) (f : Function) → AreFramesUnused k f → AreFramesUnused k (with_edge_blocks f)
unused_where_edges_have_blocks k f h p i v there calls makes =
    let x = comes_from f p i there in
    edges.carried f (names_value v) (names_value v) (uses_carried f v) k (h x.point i v x.there calls makes)
